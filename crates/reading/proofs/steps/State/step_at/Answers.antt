-- The record at the state's place.
use native.Mathlib.Omega.{arith}
use mathlib.Core.Path.{sym, ap, ◌∙◌}
use Rattle.std.specs.Prelude.{Ok, Err}
use Rattle.reading.specs.Code.{step_on}
use Rattle.reading.proofs.Agree.{stepped}
use Rattle.reading.proofs.Places.{inside_as}
use Rattle.reading.proofs.steps.State.step_at.Goals as goal

pub network-requires : goal.network-requires
network-requires c = omega (arith, inside_as c.args.file.now c.args.self.at (sym (c.in-Ok-Network.is ∙ ap Ok c.in-Ok-Network.field-0-is) ∙ c.standing.ensures))

pub table-requires : goal.table-requires
table-requires c = omega (arith, inside_as c.args.file.now c.args.self.at (sym (c.in-Ok-Table.is ∙ ap Ok c.in-Ok-Table.field-0-is) ∙ c.standing.ensures))

pub rule-requires : goal.rule-requires
rule-requires c =
    let i = inside_as c.args.file.now c.args.self.at (sym (c.in-Ok-Rule.is ∙ ap Ok c.in-Ok-Rule.field-0-is) ∙ c.standing.ensures) in (omega (arith, i.0), c.requires)

pub end-requires : goal.end-requires
end-requires c = inside_as c.args.file.now c.args.self.at (sym (c.in-Ok-End.is ∙ ap Ok c.in-Ok-End.field-0-is) ∙ c.standing.ensures)

pub returns-in-Ok-Network : goal.returns-in-Ok-Network
unfolding step_on
returns-in-Ok-Network c = stepped _ _ (sym (c.in-Ok-Network.is ∙ ap Ok c.in-Ok-Network.field-0-is) ∙ c.standing.ensures) c.network.ensures

pub returns-in-Ok-Table : goal.returns-in-Ok-Table
unfolding step_on
returns-in-Ok-Table c = stepped _ _ (sym (c.in-Ok-Table.is ∙ ap Ok c.in-Ok-Table.field-0-is) ∙ c.standing.ensures) c.table.ensures

pub returns-in-Ok-Rule : goal.returns-in-Ok-Rule
unfolding step_on
returns-in-Ok-Rule c = stepped _ _ (sym (c.in-Ok-Rule.is ∙ ap Ok c.in-Ok-Rule.field-0-is) ∙ c.standing.ensures) c.rule.ensures

pub returns-in-Ok-End : goal.returns-in-Ok-End
unfolding step_on
returns-in-Ok-End c = stepped _ _ (sym (c.in-Ok-End.is ∙ ap Ok c.in-Ok-End.field-0-is) ∙ c.standing.ensures) c.end.ensures

pub returns-in-Err-Short : goal.returns-in-Err-Short
unfolding step_on
returns-in-Err-Short c = stepped _ _ (sym (c.in-Err-Short.is ∙ ap Err c.in-Err-Short.field-0-is) ∙ c.standing.ensures) (ap Err c.short.ensures)

pub returns-in-Err-Unknown : goal.returns-in-Err-Unknown
unfolding step_on
returns-in-Err-Unknown c = stepped _ _ (sym (c.in-Err-Unknown.is ∙ ap Err c.in-Err-Unknown.field-0-is) ∙ c.standing.ensures) (ap Err c.at.ensures)

pub returns-in-Err-Missing : goal.returns-in-Err-Missing
unfolding step_on
returns-in-Err-Missing c = stepped _ _ (sym (c.in-Err-Missing.is ∙ ap Err c.in-Err-Missing.field-0-is) ∙ c.standing.ensures) (ap Err c.at-in-Err-Missing.ensures)
