-- Judge's answer is within the bounds that the printer counts on: an accepted file's width, and 12 where there are too many classes.
use Prim.Native.Nat.{ℕ, ◌≤◌}
use mathlib.Core.List.{List}
use mathlib.Core.Path.{◌≡◌, refl, subst}
use borrow.Author.Tests.{leb-true}
use lib.Dec.{leb}
use lib.ListN.{length}
use Rattle.std.specs.Prelude.{Ok, Err}
use Rattle.std.proofs.Common.{rules}
use Rattle.std.proofs.lemmas.Bool.{cond_both}
use Rattle.reading.specs.declared.refusals.Refusal.{Refusal}
use Rattle.reading.specs.declared.refusals.Reason.TheVariants.{TooManyClasses, ShortLists}
use Rattle.reading.specs.Refusals.{refusal}
use Rattle.reading.specs.File.{Parsed, refused, accepted, parse}
use Rattle.reading.proofs.Demand1.{accepted_is_bounded}
use Rattle.judge.specs.declared.Judged.{Judged}
use Rattle.judge.specs.Judging.{Lent, Judgement, too_short, classes_of, said_of, judged_of, on_parsed, judge_of}
use Rattle.printing.specs.Asked.{Bounded}

abbrev Fine : Judgement → Type 0
Fine j = Bounded j.answer

refusal_bounded : (r : Refusal) → Bounded (Err r)
refusal_bounded r = search rules

said_bounded : (j : Judged) → (j.figures.width ≤ 32) × (j.classes ≤ 512) → Bounded (Ok j)
said_bounded j h x e = let same : j ≡ x = cc in subst (λ (k : Judged). (k.figures.width ≤ 32) × (k.classes ≤ 512)) same h

parsed_bounded : (file : List ℕ) (old : Lent) (p : Parsed) → parse file ≡ p → Bounded (on_parsed p old).answer
unfolding judged_of
parsed_bounded file old (refused r) e = refusal_bounded r
parsed_bounded file old (accepted net) e =
    cond_both (leb (length (classes_of net)) 512) _ _ Fine
    (λ few. said_bounded (said_of net) ((accepted_is_bounded file net e).most_width, leb-true (length (classes_of net)) 512 few))
    (λ many. refusal_bounded (refusal TooManyClasses 0))

pub answer_bounded : (file : List ℕ) (old : Lent) → Bounded (judge_of file old).answer
unfolding judge_of
answer_bounded file old = cond_both (too_short old) _ _ Fine (λ short. refusal_bounded (refusal ShortLists 0)) (λ long. parsed_bounded file old (parse file) refl)
