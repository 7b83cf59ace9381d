-- A move of k headers from an entry e to a later pattern r: the sums, the order and the sizes after it.
use mathlib.Core.Path.{◌≡◌, refl, sym, ap, subst}
use mathlib.Core.Bool.{Bool, true, false, cond}
use mathlib.Core.List.{List, ◌∷◌}
use Prim.Native.Nat.{ℕ, zero, ◌+◌, ◌-◌, ◌≤◌, ◌<◌}
use native.Mathlib.Omega.{arith}
use lib.Dec.{T, eqb, eqb→eq, eqb_refl}
use Rattle.pattern.specs.declared.Pattern.{Pattern}
use Rattle.pattern.proofs.Tests.{both}
use Rattle.classes.specs.Classes.{before, Entry, entry, tally}
use Rattle.classes.specs.Steps.{sum_if, moved}
use Rattle.classes.proofs.Counts.{cond_zero}
use Rattle.classes.proofs.Order.{before_all}
use Rattle.classes.proofs.Tally.{pats, Proper, sum_tally, before-tally, proper_tally}

pub moved_sum : (t : Pattern → Bool) (e : Entry) (r : Pattern) (k : ℕ) (M : List Entry) → k ≤ e.size
    → sum_if t (moved e r k M) ≡ cond (t r) k 0 + cond (t e.pat) (e.size - k) 0 + sum_if t M
moved_sum t e r k M h = go (eqb k 0) refl (eqb k e.size) refl
  where
    go : (x : Bool) → eqb k 0 ≡ x → (y : Bool) → eqb k e.size ≡ y
        → sum_if t (cond x (e ∷ M) (cond y (tally r k M) (entry e.pat (e.size - k) ∷ tally r k M))) ≡ cond (t r) k 0 + cond (t e.pat) (e.size - k) 0 + sum_if t M
    go true x y z =
        let k0 : k ≡ 0 = eqb→eq k 0 (subst T (sym x) tt) in
        omega (
          arith,
          ap (λ (n : ℕ). cond (t r) n 0) k0,
          cond_zero (t r),
          ap (λ (n : ℕ). cond (t e.pat) n 0) (less k0),
        )
      where
        less : k ≡ 0 → e.size - k ≡ e.size
        less k0 = omega arith
    go false x true z =
        let ks : k ≡ e.size = eqb→eq k e.size (subst T (sym z) tt) in
        omega (arith, sum_tally t r k M, cond_zero (t e.pat), ap (λ (n : ℕ). cond (t e.pat) n 0) (less ks))
      where
        less : k ≡ e.size → e.size - k ≡ 0
        less ks = omega arith
    go false x false z = omega (arith, sum_tally t r k M)

pub moved_before : (a : Pattern) (e : Entry) (r : Pattern) (k : ℕ) (M : List Entry) → T (before a e.pat) → T (before a r) → T (before_all a (pats M))
    → T (before_all a (pats (moved e r k M)))
moved_before a e r k M p q m = go (eqb k 0) (eqb k e.size)
  where
    go : (x y : Bool) → T (before_all a (pats (cond x (e ∷ M) (cond y (tally r k M) (entry e.pat (e.size - k) ∷ tally r k M)))))
    go true y = (both (before a e.pat) (before_all a (pats M))).1 (p, m)
    go false true = before-tally a r k M q m
    go false false = (both (before a e.pat) (before_all a (pats (tally r k M)))).1 (p, before-tally a r k M q m)

pub moved_proper : (e : Entry) (r : Pattern) (k : ℕ) (M : List Entry) → k ≤ e.size → T (before e.pat r) → T (before_all e.pat (pats M))
    → zero < e.size → Proper M → Proper (moved e r k M)
moved_proper e r k M h p m s pm = go (eqb k 0) refl (eqb k e.size) refl
  where
    not_eq : (n : ℕ) → eqb k n ≡ false → k ≡ n → ⊥
    not_eq n x i = subst T x (subst (λ (j : ℕ). T (eqb k j)) i (eqb_refl k))

    go : (x : Bool) → eqb k 0 ≡ x → (y : Bool) → eqb k e.size ≡ y
        → Proper (cond x (e ∷ M) (cond y (tally r k M) (entry e.pat (e.size - k) ∷ tally r k M)))
    go true x y z = (m, s, pm)
    go false x true z = proper_tally r k M (let n = not_eq 0 x in omega arith) pm
    go false x false z =
        let n = not_eq 0 x in
        let l = not_eq e.size z in
        (before-tally e.pat r k M p m, omega arith, proper_tally r k M (omega arith) pm)
