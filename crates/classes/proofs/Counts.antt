-- Laws of counting numbers below n that pass a test.
use mathlib.Core.Path.{◌≡◌, refl, sym, ap, ◌∙◌, subst}
use mathlib.Core.Logic.{◌⊎◌, inl, inr}
use mathlib.Core.Bool.{Bool, true, false, ◌&&◌, cond}
use Prim.Native.Nat.{ℕ, zero, suc, ◌+◌, ◌≤◌, ◌<◌, zero-le}
use native.Mathlib.Nat.{lt-suc_self, lt_trans, add-zero, add-le-add, le_refl, eq-or-lt_of_le, le_of_suc-le-suc, not-suc-le-zero}
use native.Mathlib.Numerals.{add-one}
use native.Mathlib.Omega.{arith}
use lib.Dec.{T, eqb, eqb-suc-zero}
use Rattle.pattern.specs.Filters.{count}
use Rattle.pattern.proofs.Size.{ind}

pub count_add : (a b c : ℕ → Bool) (n : ℕ) → ((k : ℕ) → k < n → ind (a k) ≡ ind (b k) + ind (c k)) → count a n ≡ count b n + count c n
unfolding count
count_add a b c zero e = refl
count_add a b c (suc n) e = omega (arith, count_add a b c n (λ k l. e k (lt_trans l (lt-suc_self n))), e n (lt-suc_self n))

ind_le : (b : Bool) → ind b ≤ 1
ind_le true = omega arith
ind_le false = omega arith

pub count_le : (a : ℕ → Bool) (n : ℕ) → count a n ≤ n
unfolding count
count_le a zero = omega arith
count_le a (suc n) = omega (arith, count_le a n, ind_le (a n))

-- A test that passes wherever another does counts no fewer.
pub count_mono : (f g : ℕ → Bool) (n : ℕ) → ((k : ℕ) → k < n → T (f k) → T (g k)) → count f n ≤ count g n
unfolding count
count_mono f g zero e = zero-le
count_mono f g (suc n) e = add-le-add (count_mono f g n (λ k h. e k (lt_trans h (lt-suc_self n)))) (one (f n) (g n) (e n (lt-suc_self n)))
  where
    one : (a b : Bool) → (T a → T b) → ind a ≤ ind b
    one true true h = le_refl 1
    one true false h = absurd (h tt)
    one false true h = zero-le
    one false false h = zero-le

-- A test that is the same everywhere.
pub count_same : (b : Bool) (n : ℕ) → count (λ h. b) n ≡ cond b n 0
unfolding count
count_same true zero = refl
count_same false zero = refl
count_same true (suc n) = omega (arith, count_same true n)
count_same false (suc n) = omega (arith, count_same false n)

-- ---- a count is not 0 exactly when some number passes

pub count-pos : (f : ℕ → Bool) (n h : ℕ) → h < n → T (f h) → zero < count f n
unfolding count
count-pos f zero h l t = omega arith
count-pos f (suc n) h l t = go (eq-or-lt_of_le (le_of_suc-le-suc l)) (λ k. count-pos f n h k t)
  where
    one : (b : Bool) → T b → ind b ≡ 1
    one true t = refl
    one false t = absurd t

    go : (h ≡ n) ⊎ (h < n) → (h < n → zero < count f n) → zero < count f n + ind (f n)
    go (inl e) rest = omega (arith, one (f n) (subst (λ (k : ℕ). T (f k)) e t))
    go (inr k) rest = omega (arith, rest k)

pub count_some : (f : ℕ → Bool) (n : ℕ) → zero < count f n → (h : ℕ) × (h < n) × T (f h)
unfolding count
count_some f zero p = absurd (not-suc-le-zero p)
count_some f (suc n) p = go (count_some f n) (f n) refl p
  where
    go : (zero < count f n → (h : ℕ) × (h < n) × T (f h)) → (b : Bool) → f n ≡ b → zero < count f n + ind b → (h : ℕ) × (h < suc n) × T (f h)
    go rest true e p = (n, lt-suc_self n, subst T (sym e) tt)
    go rest false e p = let s = rest (subst (λ (x : ℕ). zero < x) (add-zero (count f n)) p) in (s.0, lt_trans s.1 (lt-suc_self n), s.2)

-- The first number that passes a test is one, if there is any.
pub first_count : (f : ℕ → Bool) (n : ℕ) → count (λ h. eqb (count f h) 0 && f h) n ≡ cond (eqb (count f n) 0) 0 1
unfolding count
first_count f zero = refl
first_count f (suc n) = ap (λ (x : ℕ). x + ind (eqb (count f n) 0 && f n)) (first_count f n) ∙ one (count f n) (f n)
  where
    one : (m : ℕ) (b : Bool) → cond (eqb m 0) 0 1 + ind (eqb m 0 && b) ≡ cond (eqb (m + ind b) 0) 0 1
    one zero true = refl
    one zero false = refl
    one (suc m) true =
        ap (λ (x : Bool). cond x 0 1 + ind (x && true)) (eqb-suc-zero m)
        ∙ sym (ap (λ (x : ℕ). cond (eqb x 0) 0 1) (add-one (suc m)) ∙ ap (λ (x : Bool). cond x 0 1) (eqb-suc-zero (suc m)))
    one (suc m) false =
        ap (λ (x : Bool). cond x 0 1 + ind (x && false)) (eqb-suc-zero m)
        ∙ sym (ap (λ (x : ℕ). cond (eqb x 0) 0 1) (add-zero (suc m)) ∙ ap (λ (x : Bool). cond x 0 1) (eqb-suc-zero m))

-- ---- a number where a test passes, else 0

pub cond_zero : (b : Bool) → cond b zero zero ≡ zero
cond_zero true = refl
cond_zero false = refl

pub cond_add : (b : Bool) (x y : ℕ) → cond b (x + y) 0 ≡ cond b x 0 + cond b y 0
cond_add true x y = refl
cond_add false x y = refl
