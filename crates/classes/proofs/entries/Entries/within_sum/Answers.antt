-- `classes::entries::Entries::within_sum` meets its contract. The loop's invariant: what is summed and what is still to come make the whole.
use mathlib.Core.Path.{sym, ◌∙◌}
use mathlib.Core.Bool.{true, false}
use native.Mathlib.Omega.{arith}
use Rattle.pattern.specs.Filters.{within}
use Rattle.classes.proofs.Rows.{sum_step, sum_end}
use Rattle.classes.proofs.entries.Entries.within_sum.Goals as goal
use Rattle.classes.proofs.entries.Entries.within_sum.Goals.{then-within, else-within}

pub overflow_add-sum : goal.overflow_add-sum
overflow_add-sum c =
    omega (
      arith,
      sum_step (λ q. within q c.args.p) c.args.self.cares.now c.args.self.values.now c.args.self.sizes.now _ _ c.loop-j-test.true true (sym c.if-within.true ∙ c.within.ensures),
      c.loop-j.invariant,
      c.requires.bound,
    )

pub loop-j-preserved : goal.loop-j-preserved
loop-j-preserved c =
    elim c.if-within.branch [
      | then-within w ↦ omega (
        arith,
        w.sum-is,
        sum_step (λ q. within q c.args.p) c.args.self.cares.now c.args.self.values.now c.args.self.sizes.now _ _ c.loop-j-test.true true (sym w.if-within.true ∙ c.within.ensures),
        c.loop-j.invariant,
      )
      | else-within w ↦ omega (
        arith,
        w.sum-is,
        sum_step (λ q. within q c.args.p) c.args.self.cares.now c.args.self.values.now c.args.self.sizes.now _ _ c.loop-j-test.true false (sym w.if-within.false ∙ c.within.ensures),
        c.loop-j.invariant,
      )
    ]

pub returns : goal.returns
returns c =
    omega (arith, c.loop-j.invariant, sum_end (λ q. within q c.args.p) c.args.self.cares.now c.args.self.values.now c.args.self.sizes.now _ _ c.loop-j-test.false)
