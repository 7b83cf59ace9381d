-- `classes::taking::take_next` meets its contract: the fronts of the lists hold what the listing does, and the rest stays.
use mathlib.Core.Path.{sym, ap, ◌∙◌, subst}
use native.Mathlib.Omega.{arith}
use Rattle.std.proofs.Common.{rules}
use Rattle.classes.specs.Steps.{taken_in, Sound}
use Rattle.classes.proofs.Laid.{fronted_from, fronted_below, chunk_rows, rows_below}
use Rattle.classes.proofs.taking.take_next.Goals as goal

pub take_next-requires-clause-sound : goal.take_next-requires-clause-sound
take_next-requires-clause-sound c =
    subst (Sound c.args.f.width.bits c.args.f.pattern)
    (sym (chunk_rows _ _ _ _ _ _ c.in-Some.ensures.cases c.in-Some-first_chunk_mut.ensures.cases c.in-Some-first_chunk_mut-2.ensures.cases c.args.n c.requires.few))
    c.requires.sound

pub returns-clause-entries : goal.returns-clause-entries
returns-clause-entries c =
    rows_below c.take_next.new.self.cares.now c.take_next.new.self.values.now c.take_next.new.self.sizes.now _ _ _ _ c.take_next.new.self.len (omega arith) (omega (arith, c.take_next.ensures.twice))
    (fronted_below _ c.args.cares.now c.requires.cares (omega arith) _ (search rules))
    (fronted_below _ c.args.values.now c.requires.values (omega arith) _ (search rules))
    (fronted_below _ c.args.sizes.now c.requires.sizes (omega arith) _ (search rules))
    ∙ c.take_next.ensures.is
    ∙ ap (taken_in c.args.f.width.bits c.args.f.pattern c.args.earlier.now)
    (chunk_rows _ _ _ _ _ _ c.in-Some.ensures.cases c.in-Some-first_chunk_mut.ensures.cases c.in-Some-first_chunk_mut-2.ensures.cases c.args.n c.requires.few)

pub returns-clause-cares : goal.returns-clause-cares
returns-clause-cares c = (omega arith, fronted_from _ c.args.cares.now c.requires.cares (omega arith))

pub returns-clause-values : goal.returns-clause-values
returns-clause-values c = (omega arith, fronted_from _ c.args.values.now c.requires.values (omega arith))

pub returns-clause-sizes : goal.returns-clause-sizes
returns-clause-sizes c = (omega arith, fronted_from _ c.args.sizes.now c.requires.sizes (omega arith))
