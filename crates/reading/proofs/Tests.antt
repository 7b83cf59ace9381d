-- Going by cases on a computed test.
use mathlib.Core.Bool.{Bool, true, false, cond, true≢false}
use mathlib.Core.Path.{◌≡◌, refl}
use Prim.Native.Nat.{ℕ, ◌<◌}
use native.Mathlib.Omega.{arith}

-- A test is passed or failed.
pub by_test : {P : Type 0} (b : Bool) → (b ≡ true → P) → (b ≡ false → P) → P
by_test true f g = f refl
by_test false f g = g refl

-- What holds on both sides of a choice holds of the choice.
pub cond_elim : {A : Type 0} (P : A → Type 0) (b : Bool) {x y : A} → (b ≡ true → P x) → (b ≡ false → P y) → P (cond b x y)
cond_elim P true f g = f refl
cond_elim P false f g = g refl

-- Neither of two tests is passed.
pub neither : (a b : Bool) → cond a true b ≡ false → (a ≡ false) × (b ≡ false)
neither true b e = absurd (true≢false e)
neither false b e = (refl, e)

-- What cannot be.
pub positive : {n : ℕ} → 0 < n → n ≡ 0 → ⊥
positive l q = omega arith

pub no_one : ◌≡◌ {A = ℕ} 0 1 → ⊥
no_one z = omega arith
