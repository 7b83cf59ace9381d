-- Two results that Judge's contract allows are equal, and none depends on bytes past the first 4,096.
use mathlib.Core.Path.{◌≡◌, sym, ◌∙◌, ap}
use mathlib.Core.Bool.{cond}
use mathlib.Core.List.{List}
use Prim.Native.Nat.{ℕ}
use lib.ListN.{take}
use Rattle.std.specs.Prelude.{Err}
use Rattle.reading.specs.declared.refusals.Reason.TheVariants.{ShortLists}
use Rattle.reading.specs.Refusals.{refusal}
use Rattle.reading.specs.File.{Parsed}
use Rattle.reading.proofs.Prefix.{parse-prefix}
use Rattle.judge.specs.Judging.{Lent, lent_of, Judgement, judgement, too_short, on_parsed, judge_of}

-- What the contract says of the answer, and of what the lent lists hold at exit.
pub record Allowed (file : List ℕ) (old : Lent) (j : Judgement) : Type 0 where
  pub answer : j.answer ≡ (judge_of file old).answer
  pub cares : j.lent.cares ≡ (judge_of file old).lent.cares
  pub values : j.lent.values ≡ (judge_of file old).lent.values
  pub sizes : j.lent.sizes ≡ (judge_of file old).lent.sizes
  pub cycle : j.lent.cycle ≡ (judge_of file old).lent.cycle

module _ (file : List ℕ) (old : Lent) where
  allowed_is : (j : Judgement) → Allowed file old j → j ≡ judge_of file old
  allowed_is j a = λ i. judgement (a.answer i) (lent_of (a.cares i) (a.values i) (a.sizes i) (a.cycle i))

  pub judge_is_determined : (j k : Judgement) → Allowed file old j → Allowed file old k → j ≡ k
  judge_is_determined j k a b = allowed_is j a ∙ sym (allowed_is k b)

  pub judge_first_4096 : judge_of (take 4096 file) old ≡ judge_of file old
  unfolding judge_of
  judge_first_4096 = ap (λ (p : Parsed). cond (too_short old) (judgement (Err (refusal ShortLists 0)) old) (on_parsed p old)) (parse-prefix file)
