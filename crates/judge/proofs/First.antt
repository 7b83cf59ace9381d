-- The first header that passes a test: what the answer says, and that only one answer says it.
use mathlib.Core.Path.{◌≡◌, refl, sym, ap, ◌∙◌, subst}
use mathlib.Core.Bool.{Bool, true, false, cond}
use Prim.Native.Nat.{ℕ, zero, suc, ◌+◌, ◌≤◌, ◌<◌}
use native.Mathlib.Nat.{zero-add}
use native.Mathlib.Decide.{ℕ_discrete}
use native.Mathlib.Omega.{arith}
use lib.Dec.{T}
use Rattle.judge.specs.Verdicts.{first_from}
use Rattle.judge.specs.declared.Verdict.{Verdict}
use Rattle.judge.specs.declared.Verdict.TheVariants.{Free, Loop}

-- the answer's claim on the headers from a to b
abbrev pub First : (ℕ → Bool) → ℕ → ℕ → Verdict → Type 0
First t a b (Loop m) = (a ≤ m) × (m < b) × T (t m) × ((h : ℕ) → a ≤ h → h < m → T (t h) → ⊥)
First t a b Free = (h : ℕ) → a ≤ h → h < b → T (t h) → ⊥

module _ (t : ℕ → Bool) where
  -- one header more in front, that does not pass
  front : (a h : ℕ) → t a ≡ false → a ≤ h → (suc a ≤ h → T (t h) → ⊥) → T (t h) → ⊥
  front a h e le more s = go (ℕ_discrete h a)
    where
      go : Dec (h ≡ a) → ⊥
      go (yes p) = subst T (ap t p ∙ e) s
      go (no p) = more (omega arith) s

  widen : (a k : ℕ) → t a ≡ false → (r : Verdict) → First t (suc a) (suc a + k) r → First t a (a + suc k) r
  widen a k e (Loop m) s = (omega arith, omega arith, s.2, λ h p q. front a h e p (λ u. s.3 h u q))
  widen a k e Free s = λ h p q. front a h e p (λ u. s h u (omega arith))

  says : (a k : ℕ) → First t a (a + k) (first_from t a k)
  unfolding first_from
  says a zero = λ h p q. absurd (omega arith)
  says a (suc k) = go (t a) refl (says (suc a) k)
    where
      go : (b : Bool) → t a ≡ b → First t (suc a) (suc a + k) (first_from t (suc a) k) → First t a (a + suc k) (cond b (Loop a) (first_from t (suc a) k))
      go true e rest = (omega arith, omega arith, subst T (sym e) tt, λ h p q. absurd (omega arith))
      go false e rest = widen a k e (first_from t (suc a) k) rest

  pub first_says : (n : ℕ) → First t 0 n (first_from t 0 n)
  first_says n = subst (λ (b : ℕ). First t 0 b (first_from t 0 n)) (zero-add n) (says 0 n)

  only : (n : ℕ) (r s : Verdict) → First t 0 n r → First t 0 n s → r ≡ s
  only n (Loop m) (Loop k) a b = ap Loop (go (ℕ_discrete m k))
    where
      go : Dec (m ≡ k) → m ≡ k
      go (yes e) = e
      go (no e) = absurd (apart (native.Mathlib.Decide.dec_lt m k))
        where
          apart : Dec (m < k) → ⊥
          apart (yes l) = b.3 m (omega arith) l a.2
          apart (no l) = a.3 k (omega arith) (omega arith) b.2
  only n (Loop m) Free a b = absurd (b m (omega arith) a.1 a.2)
  only n Free (Loop k) a b = absurd (a k (omega arith) b.1 b.2)
  only n Free Free a b = refl

  pub first_is : (n : ℕ) (r : Verdict) → First t 0 n r → first_from t 0 n ≡ r
  first_is n r s = only n (first_from t 0 n) r (first_says n) s
