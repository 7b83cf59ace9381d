-- Tests and what they say: from a Bool that was computed to the fact, and back.
use mathlib.Core.Path.{◌≡◌, refl, sym, ap, ◌∙◌, subst}
use mathlib.Core.Logic.{◌↔◌}
use mathlib.Core.Bool.{Bool, true, false, ◌&&◌, and-false, beq}
use Prim.Native.Nat.{ℕ}
use lib.Dec.{T, eqb, eqb_refl}

pub eq→eqb : {m n : ℕ} → m ≡ n → T (eqb m n)
eq→eqb {m} e = subst (λ (x : ℕ). T (eqb m x)) e (eqb_refl m)

pub both : (a b : Bool) → T (a && b) ↔ (T a × T b)
both true b = (λ t. (tt, t), λ t. t.1)
both false b = (λ t. absurd t, λ t. t.0)

pub iff_eq : (a b : Bool) → (T a → T b) → (T b → T a) → a ≡ b
iff_eq true true f g = refl
iff_eq true false f g = absurd (f tt)
iff_eq false true f g = absurd (g tt)
iff_eq false false f g = refl

pub beq_says : (a b : Bool) → T (beq a b) ↔ (a ≡ b)
beq_says true true = (λ t. refl, λ e. tt)
beq_says true false = (λ t. absurd t, λ e. subst T e tt)
beq_says false true = (λ t. absurd t, λ e. subst T (sym e) tt)
beq_says false false = (λ t. refl, λ e. tt)

-- Two tests that are equal where a third passes are equal beside it.
pub beside : (a b s : Bool) → (s ≡ true → a ≡ b) → a && s ≡ b && s
beside a b true e = ap (λ (x : Bool). x && true) (e refl)
beside a b false e = and-false a ∙ sym (and-false b)

-- What `a && b` gives on either branch of the code's test of a.
pub and_passed : (a b : Bool) → T a → b ≡ a && b
and_passed true b t = refl
and_passed false b t = absurd t

pub and_failed : (a b : Bool) → (T a → ⊥) → a ≡ a && b
and_failed true b f = absurd (f tt)
and_failed false b f = refl
