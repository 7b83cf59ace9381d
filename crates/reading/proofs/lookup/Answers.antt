-- The lookup in a table's part. The rules that are left give the answer.
use mathlib.Core.List.{List}
use mathlib.Core.Path.{refl, sym, ap, ◌∙◌}
use Rattle.reading.specs.declared.Rule.{Rule}
use Rattle.reading.specs.Network.{act}
use Rattle.reading.specs.Arrays.{rules_in, rules_left}
use Rattle.reading.proofs.lookup.Goals as goal

pub loop-rule-init : goal.loop-rule-init
unfolding rules_in rules_left
loop-rule-init c = rw (c.into_iter-rule-iterator.ensures.into_iter_gives, c.open-records.ensures.0, c.open-records.ensures.1) refl

pub returns-then-within : goal.returns-then-within
unfolding act
returns-then-within c =
    sym (c.loop-rule.invariant ∙ ap (λ (l : List Rule). act l c.args.query) c.in-Some.ensures.steps ∙ simp (sym c.within.ensures ∙ c.if-within.true))

pub loop-rule-preserved : goal.loop-rule-preserved
unfolding act
loop-rule-preserved c =
    c.loop-rule.invariant ∙ ap (λ (l : List Rule). act l c.args.query) c.in-Some.ensures.steps ∙ simp (sym c.within.ensures ∙ c.if-within.false)

pub returns : goal.returns
unfolding act
returns c = sym (c.loop-rule.invariant ∙ ap (λ (l : List Rule). act l c.args.query) c.in-None.ensures.steps.0)
