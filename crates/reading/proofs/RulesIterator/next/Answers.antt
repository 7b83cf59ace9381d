-- The reader of a part gives the rule that stands at its place, or stops.
use mathlib.Core.Path.{sym, ap, ◌∙◌}
use lib.ListN.{length}
use Rattle.std.proofs.Common.{rules}
use Rattle.reading.specs.Arrays.{rules_left}
use Rattle.reading.proofs.Looking.{gives_rule, gives_none}
use Rattle.reading.proofs.RulesIterator.next.Goals as goal

pub returns-in_err-rule-clause-steps : goal.returns-in_err-rule-clause-steps
unfolding rules_left
returns-in_err-rule-clause-steps c =
    let none = gives_none _ _ _ (sym c.in_err-rule.was ∙ c.found_at.ensures) in
    rw c.from_residual.ensures (none, none)

pub returns-clause-steps : goal.returns-clause-steps
unfolding rules_left
returns-clause-steps c = rw (c.moved-self.ensures.0, c.moved-self.ensures.1) (gives_rule _ _ _ (sym c.in_ok-rule.was ∙ c.found_at.ensures))

pub returns-clause-goes : goal.returns-clause-goes
unfolding rules_left
returns-clause-goes c =
    rw (c.moved-self.ensures.0, c.moved-self.ensures.1)
    (let shorter = ap length (gives_rule _ _ _ (sym c.in_ok-rule.was ∙ c.found_at.ensures)) in search rules)
