-- Decimal numbers: what the library writes is what the specs say.
use Prim.Native.Nat.{ℕ, zero, suc, ◌/◌, ◌%◌, ◌^◌, ◌≤◌, ◌<◌}
use mathlib.Core.Bool.{Bool, true, false, cond}
use mathlib.Core.List.{List, [], ◌∷◌, ◌++◌}
use mathlib.Core.Path.{◌≡◌, refl, sym, ap, ◌∙◌}
use native.Mathlib.Omega.{arith}
use borrow.Author.Tests.{lt-ltb, le-ltb, ltb-false}
use lib.Dec.{ltb}
use Rattle.std.specs.Fmt.{decimal as written}
use Rattle.std.proofs.lemmas.Fmt.{decimal_by_steps}
use Rattle.printing.specs.Text.{digit, digits, decimal}

front : (b : Bool) (x y : List ℕ) → (b ≡ false → x ≡ y) → cond b [] x ≡ cond b [] y
front true x y f = refl
front false x y f = f refl

-- Any bound above n serves.
enough : (m k n : ℕ) → n < m → n < k → digits m n ≡ digits k n
unfolding digits
enough zero k n h g = absurd (omega arith)
enough (suc m) zero n h g = absurd (omega arith)
enough (suc m) (suc k) n h g =
    ap (λ (l : List ℕ). l ++ (digit (n % 10) ∷ []))
    (front (ltb n 10) (digits m (n / 10)) (digits k (n / 10)) (λ e. let big : 10 ≤ n = ltb-false n 10 e in enough m k (n / 10) (omega arith) (omega arith)))

-- One digit.
pub decimal-one : (n : ℕ) → n < 10 → decimal n ≡ digit n ∷ []
unfolding decimal digits
decimal-one n h =
    ap (λ (b : Bool). cond b [] (digits n (n / 10)) ++ (digit (n % 10) ∷ [])) (lt-ltb n 10 h)
    ∙ ap (λ (d : ℕ). digit d ∷ []) (omega arith)

-- The digits before the last one, then the last.
pub decimal_more : (n : ℕ) → 10 ≤ n → decimal n ≡ decimal (n / 10) ++ (digit (n % 10) ∷ [])
unfolding decimal digits
decimal_more n h =
    ap (λ (b : Bool). cond b [] (digits n (n / 10)) ++ (digit (n % 10) ∷ [])) (le-ltb n 10 h)
    ∙ ap (λ (l : List ℕ). l ++ (digit (n % 10) ∷ [])) (enough n (suc (n / 10)) (n / 10) (omega arith) (omega arith))

-- What `itoa` writes of a number is the number in decimal.
pub written_decimal : (n : ℕ) → n < 2 ^ 64 → written n ≡ decimal n
written_decimal =
    decimal_by_steps (λ n ds. ds ≡ decimal n)
    (λ n h. sym (decimal-one n h))
    (λ n ds h e. ap (λ (l : List ℕ). l ++ (digit (n % 10) ∷ [])) e ∙ sym (decimal_more n h))
