-- What was read of an accepted file is its network's: more than 512 classes, or the class list, the verdict and its cycle.
use mathlib.Core.Path.{◌≡◌, refl, sym, ap, ◌∙◌}
use mathlib.Core.List.{[]}
use native.Mathlib.Omega.{arith}
use lib.ListN.{length, take, replicate}
use Rattle.std.proofs.Common.{rules}
use Rattle.std.proofs.lemmas.List.{length-take}
use Rattle.std.specs.Prelude.{Err}
use Rattle.judge.specs.Judging.{Judgement, lent_of}
use Rattle.judge.specs.Steps.{network_of}
use Rattle.rounds.proofs.Written.{on_cleared}
use Rattle.judge.proofs.FromFile.{width, stands, formed_here, filters_are, formed, goes_on, told}
use Rattle.judge.proofs.JudgeLaws.{too_many, listed_here, judged_well, counted_few}
use Rattle.judge.proofs.judge_lent.Goals as goal

pub invariant_of-standing : goal.invariant_of-standing
invariant_of-standing c = record { stands = stands _ _ (sym c.in_ok-figures.was ∙ c.fill.ensures.answer) _ _ c.fill.ensures.marks }

pub build-requires-clause-formed : goal.build-requires-clause-formed
build-requires-clause-formed c = formed_here _ _ (sym c.in_ok-figures.was ∙ c.fill.ensures.answer) _ _ c.fill.ensures.patterns

pub returns-in_default : goal.returns-in_default
returns-in_default c =
    let e = sym c.in_ok-figures.was ∙ c.fill.ensures.answer in
    let long : length c.args.cycle.now ≡ 64 = c.told-cycle in
    let all : c.fill-in_default.new.self ≡ replicate 64 255 = search rules in
    let j = too_many (network_of c.args.file.now) (lent_of c.args.cares.now c.args.values.now c.args.sizes.now c.args.cycle.now) (lent_of c.build.new.cares c.build.new.values c.build.new.sizes c.fill-in_default.new.self) c.in_ok-figures.figures.width
    (take c.in_ok-figures.figures.rules c.fill.new.arrays.patterns) (width _ _ e) (filters_are _ _ e _ _ c.fill.ensures.patterns)
    c.build.ensures.cares c.build.ensures.values c.build.ensures.sizes
    (sym c.in_default.is ∙ c.build.ensures.classes) (all ∙ on_cleared [] c.args.cycle.now long) ∙ goes_on _ _ e _ in
    record {
      answer = ap Err c.at.ensures ∙ ap (λ (j : Judgement). j.answer) j;
      cares = ap (λ (j : Judgement). j.lent.cares) j;
      values = ap (λ (j : Judgement). j.lent.values) j;
      sizes = ap (λ (j : Judgement). j.lent.sizes) j;
      cycle = ap (λ (j : Judgement). j.lent.cycle) j;
    }

pub shared_ref_as_front-listed : goal.shared_ref_as_front-listed
shared_ref_as_front-listed c = omega (arith, counted_few _ _ c.in-Some.classes (sym c.in-Some.is ∙ c.build.ensures.classes))

pub decide-verdict-requires-clause-few : goal.decide-verdict-requires-clause-few
decide-verdict-requires-clause-few c = omega (arith, length-take c.in-Some.classes c.build.new.cares, counted_few _ _ c.in-Some.classes (sym c.in-Some.is ∙ c.build.ensures.classes))

pub decide-verdict-requires-clause-listed : goal.decide-verdict-requires-clause-listed
decide-verdict-requires-clause-listed c =
    let e = sym c.in_ok-figures.was ∙ c.fill.ensures.answer in
    listed_here (network_of c.args.file.now) (lent_of c.args.cares.now c.args.values.now c.args.sizes.now c.args.cycle.now) (lent_of c.build.new.cares c.build.new.values c.build.new.sizes c.args.cycle.now) c.in_ok-figures.figures.width
    (take c.in_ok-figures.figures.rules c.fill.new.arrays.patterns) (width _ _ e) (filters_are _ _ e _ _ c.fill.ensures.patterns)
    c.build.ensures.cares c.build.ensures.values c.build.ensures.sizes
    c.in-Some.classes (sym c.in-Some.is ∙ c.build.ensures.classes) (formed _ _ e) _ refl refl

pub returns : goal.returns
returns c =
    let e = sym c.in_ok-figures.was ∙ c.fill.ensures.answer in
    let j = judged_well (network_of c.args.file.now) (lent_of c.args.cares.now c.args.values.now c.args.sizes.now c.args.cycle.now) (lent_of c.build.new.cares c.build.new.values c.build.new.sizes c.decide-verdict.new.cycle) c.in_ok-figures.figures.width
    (take c.in_ok-figures.figures.rules c.fill.new.arrays.patterns) (width _ _ e) (filters_are _ _ e _ _ c.fill.ensures.patterns)
    c.build.ensures.cares c.build.ensures.values c.build.ensures.sizes
    c.in-Some.classes (sym c.in-Some.is ∙ c.build.ensures.classes) _ (told _ _ e).figures_are refl c.decide-verdict.ensures.verdict c.decide-verdict.ensures.cycle ∙ goes_on _ _ e _ in
    record {
      answer = ap (λ (j : Judgement). j.answer) j;
      cares = ap (λ (j : Judgement). j.lent.cares) j;
      values = ap (λ (j : Judgement). j.lent.values) j;
      sizes = ap (λ (j : Judgement). j.lent.sizes) j;
      cycle = ap (λ (j : Judgement). j.lent.cycle) j;
    }
