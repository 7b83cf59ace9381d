-- All classes have their marks.
use mathlib.Core.Path.{sym, ap, ◌∙◌}
use Prim.Native.Nat.{ℕ}
use native.Mathlib.Nat.{zero-add}
use native.Mathlib.Omega.{arith}
use lib.ListN.{length}
use Rattle.least.specs.Steps.{pattern_in}
use Rattle.judge.specs.Verdicts.{loops}
use Rattle.judge.specs.Steps.{network_of}
use Rattle.judge.proofs.Decided.{all_marked}
use Rattle.judge.proofs.rows.Standing.mark_all.Goals as goal

pub returns : goal.returns
returns c =
    all_marked (loops (network_of c.args.self.file.now)) c.args.listed.cares.now c.args.listed.values.now c.loop-i.marks (length c.args.listed.cares.now) 0 c.loop-i.invariant.0
    (λ k l. c.loop-i.invariant.1 k (omega (arith, l, c.loop-i-test.false, c.loop-i.invariant.0)) ∙ ap (λ (i : ℕ). loops (network_of c.args.self.file.now) (pattern_in c.args.listed i)) (sym (zero-add k)))
