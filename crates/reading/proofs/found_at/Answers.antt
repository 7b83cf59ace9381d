-- The rule record at a place of a table's part.
use native.Mathlib.Omega.{arith}
use mathlib.Core.Path.{sym, ap, ◌∙◌}
use Rattle.std.specs.Result.{result_ok}
use Rattle.reading.proofs.Places.{inside_as}
use Rattle.reading.proofs.Looking.{nothing_read, no_rule_read, rule_read, no_filter_read, filter_read}
use Rattle.reading.proofs.found_at.Goals as goal

pub returns-in_err-written : goal.returns-in_err-written
returns-in_err-written c = rw c.from_residual.ensures (nothing_read _ _ _ _ c.standing.ensures (sym c.ok.ensures.value ∙ c.in_err-written.was))

pub returns-in_default : goal.returns-in_default
returns-in_default c = no_rule_read _ _ _ _ c.standing.ensures (sym c.ok.ensures.value ∙ c.in_ok-written.was) c.in_default.not-Rule

pub returns-in_err-pattern : goal.returns-in_err-pattern
returns-in_err-pattern c =
    rw c.from_residual-in_err-pattern.ensures
    (no_filter_read _ _ _ _ c.standing.ensures (sym c.ok.ensures.value ∙ c.in_ok-written.was) _ c.in-Rule.is
    (ap result_ok (sym c.filter.ensures) ∙ sym c.ok-2.ensures.value ∙ c.in_err-pattern.was))

pub overflow_add-result : goal.overflow_add-result
overflow_add-result c =
    let i = inside_as _ _ (rule_read c.args.width.bits _ _ _ c.standing.ensures (sym c.ok.ensures.value ∙ c.in_ok-written.was) _ c.in-Rule.is) in
    omega (arith, i.2)

pub overflow_add-result-2 : goal.overflow_add-result-2
overflow_add-result-2 c =
    let i = inside_as _ _ (rule_read c.args.width.bits _ _ _ c.standing.ensures (sym c.ok.ensures.value ∙ c.in_ok-written.was) _ c.in-Rule.is) in
    omega (arith, i.0)

pub returns : goal.returns
returns c =
    filter_read _ _ _ _ c.standing.ensures (sym c.ok.ensures.value ∙ c.in_ok-written.was) _ c.in-Rule.is
    (ap result_ok (sym c.filter.ensures) ∙ sym c.ok-2.ensures.value ∙ c.in_ok-pattern.was)
