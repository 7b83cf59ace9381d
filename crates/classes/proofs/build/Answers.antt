-- `classes::build` meets its contract: what stands after the gathering is laid out, or nothing where it is too much.
use mathlib.Core.Path.{sym, subst}
use Prim.Native.Nat.{◌≤◌}
use Rattle.std.proofs.Common.{rules}
use Rattle.classes.specs.Classes.{care_at, value_at, size_of}
use Rattle.classes.specs.Given.{listed}
use Rattle.classes.proofs.Laid.{chunk_length, chunk_laid}
use Rattle.classes.proofs.Whole.{standing, Built, built}
use Rattle.classes.proofs.build.Goals as goal
use Rattle.classes.proofs.build.Goals.{After-clear}

pub clear-requires : goal.clear-requires
clear-requires c = subst (λ n. n ≤ 1024) (sym c.unwrap_or.ensures) (standing c.args.width.bits c.args.filters.now _ _ _ c.gather-classes.ensures).few

-- what the listing is at the end
at_end : (c : After-clear) → Built c.args.width.bits c.args.filters.now c.gather-classes.result c.clear.new.self
    c.in-Some.cares.now c.in-Some-first_chunk_mut.values.now c.in-Some-first_chunk_mut-2.sizes.now
at_end c =
    built c.args.width.bits c.args.filters.now _ _ _ _ c.gather-classes.ensures (rw c.unwrap_or.ensures at c.clear.ensures)
    (record {
      cares = chunk_length c.args.cares.now _ c.in-Some.ensures.cases;
      values = chunk_length c.args.values.now _ c.in-Some-first_chunk_mut.ensures.cases;
      sizes = chunk_length c.args.sizes.now _ c.in-Some-first_chunk_mut-2.ensures.cases;
    })

pub returns-clause-classes : goal.returns-clause-classes
returns-clause-classes c = (at_end (goal.at.returns-clause-classes c).After-clear).count

pub returns-clause-cares : goal.returns-clause-cares
returns-clause-cares c =
    chunk_laid care_at (listed c.args.width.bits c.args.filters.now) _ c.clear.new.self.cares.now _ c.args.cares.now c.in-Some.ensures.cases (at_end (goal.at.returns-clause-cares c).After-clear).cares (search rules)

pub returns-clause-values : goal.returns-clause-values
returns-clause-values c =
    chunk_laid value_at (listed c.args.width.bits c.args.filters.now) _ c.clear.new.self.values.now _ c.args.values.now c.in-Some-first_chunk_mut.ensures.cases (at_end (goal.at.returns-clause-values c).After-clear).values (search rules)

pub returns-clause-sizes : goal.returns-clause-sizes
returns-clause-sizes c =
    chunk_laid size_of (listed c.args.width.bits c.args.filters.now) _ c.clear.new.self.sizes.now _ c.args.sizes.now c.in-Some-first_chunk_mut-2.ensures.cases (at_end (goal.at.returns-clause-sizes c).After-clear).sizes (search rules)
