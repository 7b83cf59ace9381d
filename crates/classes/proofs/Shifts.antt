-- What a list with a place put in, or taken out, has at each place.
use mathlib.Core.Path.{◌≡◌, refl, sym, ap, ◌∙◌, subst}
use mathlib.Core.List.{List, [], ◌∷◌, ◌++◌, append_assoc}
use Prim.Native.Nat.{ℕ, zero, suc, ◌+◌, ◌-◌, ◌≤◌, ◌<◌}
use native.Mathlib.Nat.{le_of_suc-le-suc, not-suc-le-zero}
use native.Mathlib.Numerals.{add-one}
use native.Mathlib.Omega.{arith}
use lib.ListN.{get_or-append, length-drop, length, get_or, set, take, drop}
use lib.Seq.{get_or-append-add, get_or-take, get_or-drop, length-take-le}
use Rattle.std.specs.List.{copy_within}
use Rattle.classes.specs.Steps.{SameBelow, inserted, removed}

-- ---- what the code does to one list

set_first : {A : Type 0} (i : ℕ) (a : List A) (x : A) (R : List A) → i < length a → set (take (suc i) a ++ R) i x ≡ take i a ++ (x ∷ R)
set_first zero (y ∷ a) x R h = refl
set_first (suc i) (y ∷ a) x R h = ap (λ l. y ∷ l) (set_first i a x R (le_of_suc-le-suc h))
set_first zero [] x R h = absurd (not-suc-le-zero h)
set_first (suc i) [] x R h = absurd (not-suc-le-zero h)

pub put_is : {A : Type 0} (i n : ℕ) (x : A) (a b : List A) → i ≤ n → n < length a → b ≡ copy_within a i n (i + 1) → set b i x ≡ inserted i n x a
unfolding inserted
put_is i n x a b h l e =
    ap (λ c. set c i x) (e ∙ append_assoc (take (i + 1) a) (take (n - i) (drop i a)) (drop (i + 1 + (n - i)) a))
    ∙ ap (λ k. set (take k a ++ (take (n - i) (drop i a) ++ drop (k + (n - i)) a)) i x) (add-one i)
    ∙ set_first i a x (take (n - i) (drop i a) ++ drop (suc i + (n - i)) a) (omega arith)
    ∙ ap (λ k. take i a ++ (x ∷ take (n - i) (drop i a) ++ drop k a)) past
  where
    past : suc i + (n - i) ≡ suc n
    past = omega arith

-- ---- at each place

-- b is a with x put in at place i of the first n.
pub record Inserted (i n x : ℕ) (b a : List ℕ) : Type 0 where
  pub low : SameBelow i b a
  pub new : get_or b i 0 ≡ x
  pub up : (k : ℕ) → i ≤ k → k < n → get_or b (suc k) 0 ≡ get_or a k 0

-- b is a with place i of the first n taken out.
pub record Removed (i n : ℕ) (b a : List ℕ) : Type 0 where
  pub low : SameBelow i b a
  pub down : (k : ℕ) → i ≤ k → suc k < n → get_or b k 0 ≡ get_or a (suc k) 0

-- A list of three parts, at the first two.
module _ (P T D : List ℕ) (i t : ℕ) (lp : length P ≡ i) (lt : length T ≡ t) where
  parts_low : (k : ℕ) → k < i → get_or (P ++ (T ++ D)) k 0 ≡ get_or P k 0
  parts_low k h = get_or-append P (T ++ D) 0 k (omega arith)

  parts_mid : (k : ℕ) → k < t → get_or (P ++ (T ++ D)) (i + k) 0 ≡ get_or T k 0
  parts_mid k h =
      ap (λ (n : ℕ). get_or (P ++ (T ++ D)) (n + k) 0) (sym lp) ∙ get_or-append-add P (T ++ D) k 0 ∙ get_or-append T D 0 k (omega arith)

-- m places from j on, all below the length
middle : (m j : ℕ) (a : List ℕ) → j + m ≤ length a → length (take m (drop j a)) ≡ m
middle m j a h = length-take-le m (drop j a) (omega (arith, length-drop j a))

at_place : (b : List ℕ) (j k y : ℕ) → j ≡ k → get_or b j 0 ≡ y → get_or b k 0 ≡ y
at_place b j k y e h = subst (λ (n : ℕ). get_or b n 0 ≡ y) e h

module _ (i n x : ℕ) (a : List ℕ) (h : i ≤ n) (l : n < length a) where
  abbrev new_part : List ℕ
  new_part = x ∷ take (n - i) (drop i a)

  new_low : length (take i a) ≡ i
  new_low = length-take-le i a (omega arith)

  new_mid : length new_part ≡ suc (n - i)
  new_mid = ap suc (middle (n - i) i a (omega arith))

  inserted-at : Inserted i n x (inserted i n x a) a
  unfolding inserted
  inserted-at = record {
    low = λ k u. parts_low (take i a) new_part (drop (suc n) a) i (suc (n - i)) new_low new_mid k u ∙ get_or-take i a k 0 u;
    new = at_place (inserted i n x a) (i + 0) i x (omega arith) (parts_mid (take i a) new_part (drop (suc n) a) i (suc (n - i)) new_low new_mid 0 (omega arith));
    up = λ k u v. at_place (inserted i n x a) (i + suc (k - i)) (suc k) (get_or a k 0) (omega arith)
        (parts_mid (take i a) new_part (drop (suc n) a) i (suc (n - i)) new_low new_mid (suc (k - i)) (omega arith)
        ∙ get_or-take (n - i) (drop i a) (k - i) 0 (omega arith) ∙ get_or-drop i a (k - i) 0 ∙ ap (λ (j : ℕ). get_or a j 0) (omega arith));
  }

  pub inserted_says : (b : List ℕ) → b ≡ inserted i n x a → Inserted i n x b a
  inserted_says b e = subst (λ (c : List ℕ). Inserted i n x c a) (sym e) inserted-at

module _ (i n : ℕ) (a : List ℕ) (h : i < n) (l : n ≤ length a) where
  abbrev old_part : List ℕ
  old_part = take (n - suc i) (drop (suc i) a)

  old_low : length (take i a) ≡ i
  old_low = length-take-le i a (omega arith)

  old_mid : length old_part ≡ n - suc i
  old_mid = middle (n - suc i) (suc i) a (omega arith)

  removed-at : Removed i n (removed i n a) a
  unfolding removed
  removed-at = record {
    low = λ k u. parts_low (take i a) old_part (drop (n - 1) a) i (n - suc i) old_low old_mid k u ∙ get_or-take i a k 0 u;
    down = λ k u v. at_place (removed i n a) (i + (k - i)) k (get_or a (suc k) 0) (omega arith)
        (parts_mid (take i a) old_part (drop (n - 1) a) i (n - suc i) old_low old_mid (k - i) (omega arith)
        ∙ get_or-take (n - suc i) (drop (suc i) a) (k - i) 0 (omega arith) ∙ get_or-drop (suc i) a (k - i) 0 ∙ ap (λ (j : ℕ). get_or a j 0) (omega arith));
  }

  pub removed_says : (b : List ℕ) → b ≡ removed i n a → Removed i n b a
  removed_says b e = subst (λ (c : List ℕ). Removed i n c a) (sym e) removed-at
