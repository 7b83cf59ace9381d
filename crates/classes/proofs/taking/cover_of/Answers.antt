-- `classes::taking::cover_of` meets its contract. The loop's invariant: what is gathered is the cover by the filters passed.
use mathlib.Core.Path.{sym, ◌∙◌}
use Rattle.pattern.specs.Filters.{all_free}
use Rattle.classes.proofs.Rows.{cover_in, cover_out}
use Rattle.classes.proofs.taking.cover_of.Goals as goal
use Rattle.classes.proofs.taking.cover_of.Goals.{then-within, else-within}

pub loop-g-preserved : goal.loop-g-preserved
loop-g-preserved c =
    elim c.if-within.branch [
      | then-within w ↦ cover_in c.args.f c.args.filters.now c.loop-g.g-index all_free c.loop-g.all c.if-within.all c.loop-g-test.true c.loop-g.invariant (sym w.if-within.true ∙ c.within.ensures) w.all-is
      | else-within w ↦ cover_out c.args.f c.args.filters.now c.loop-g.g-index all_free c.loop-g.all c.if-within.all c.loop-g-test.true c.loop-g.invariant (sym w.if-within.false ∙ c.within.ensures) w.all-is
    ]
