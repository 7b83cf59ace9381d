-- `walk::walk` meets its contract: of an accepted file the walk by the arrays that were filled.
use mathlib.Core.Path.{sym, ◌∙◌}
use Rattle.judge.proofs.FromFile.{narrow}
use Rattle.walk.proofs.WalkTables.{stands, walk_is}
use Rattle.walk.proofs.walk.Goals as goal

pub invariant_of-tables : goal.invariant_of-tables
invariant_of-tables c =
    record { stand = stands _ _ (sym c.in_ok-figures.was ∙ c.fill.ensures.answer) _ c.fill.ensures.patterns c.fill.ensures.actions c.fill.ensures.marks }

pub invariant_of-width : goal.invariant_of-width
invariant_of-width c = record { short = narrow _ _ (sym c.in_ok-figures.was ∙ c.fill.ensures.answer) }

pub returns : goal.returns
returns c =
    c.walk.ensures
    ∙ walk_is _ _ (sym c.in_ok-figures.was ∙ c.fill.ensures.answer) _ c.fill.ensures.patterns c.fill.ensures.actions c.fill.ensures.marks _ _
