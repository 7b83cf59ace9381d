-- n + 1 numbers below n: two places hold the same number.
use mathlib.Core.Path.{◌≡◌, sym, ◌∙◌, ap}
use mathlib.Core.Logic.{◌⊎◌, inl, inr}
use mathlib.Core.Bool.{cond}
use Prim.Native.Nat.{ℕ, zero, suc, ◌≤◌, ◌<◌}
use native.Mathlib.Decide.{ℕ_discrete}
use native.Mathlib.Omega.{arith}
use lib.Dec.{eqb}
use borrow.Author.Tests.{eq-eqb, ne_eqb}

abbrev pub Repeat : (ℕ → ℕ) → ℕ → Type 0
Repeat g n = (i : ℕ) × (j : ℕ) × (i < j) × (j ≤ n) × (g i ≡ g j)

abbrev Found : (ℕ → ℕ) → ℕ → ℕ → Type 0
Found g x m = ((i : ℕ) × (i < m) × (g i ≡ x)) ⊎ ((i : ℕ) → i < m → g i ≡ x → ⊥)

-- x is among the first m values of g, or not
find_eq : (g : ℕ → ℕ) (x m : ℕ) → Found g x m
find_eq g x zero = inr (λ i h e. omega arith)
find_eq g x (suc m) = go (ℕ_discrete (g m) x) (find_eq g x m)
  where
    go : Dec (g m ≡ x) → Found g x m → Found g x (suc m)
    go (yes e) r = inl (m, omega arith, e)
    go (no ne) (inl w) = inl (w.0, omega arith, w.2)
    go (no ne) (inr f) = inr (λ i h e. last i h e (ℕ_discrete i m))
      where
        last : (i : ℕ) → i < suc m → g i ≡ x → Dec (i ≡ m) → ⊥
        last i h e (yes p) = ne (sym (ap g p) ∙ e)
        last i h e (no q) = f i (omega arith) e

-- y in the place of m
swap : ℕ → ℕ → ℕ → ℕ
swap m y x = cond (eqb x m) y x

abbrev Swapped : ℕ → ℕ → ℕ → Type 0
Swapped m y x = ((x ≡ m) × (swap m y x ≡ y)) ⊎ ((x ≡ m → ⊥) × (swap m y x ≡ x))

swapped : (m y x : ℕ) → Swapped m y x
unfolding swap
swapped m y x = go (ℕ_discrete x m)
  where
    go : Dec (x ≡ m) → Swapped m y x
    go (yes e) = inl (e, ap (λ b. cond b y x) (eq-eqb x m e))
    go (no e) = inr (e, ap (λ b. cond b y x) (ne_eqb x m e))

module _ (m : ℕ) (g : ℕ → ℕ) (h : (i : ℕ) → i ≤ suc m → g i < suc m) (none : (i : ℕ) → i < suc m → g i ≡ g (suc m) → ⊥) where
  less : (i : ℕ) → i ≤ m → swap m (g (suc m)) (g i) < m
  less i le = go (swapped m (g (suc m)) (g i))
    where
      top : g (suc m) < suc m
      top = h (suc m) (omega arith)

      own : g i < suc m
      own = h i (omega arith)

      go : Swapped m (g (suc m)) (g i) → swap m (g (suc m)) (g i) < m
      go (inl (e, s)) =
          let ne : g (suc m) ≡ m → ⊥ = λ t. none i (omega arith) (e ∙ sym t) in
          omega (arith, top, own)
      go (inr (e, s)) = omega (arith, top, own)

  back : Repeat (λ i. swap m (g (suc m)) (g i)) m → Repeat g (suc m)
  back (i, j, lt, le, same) = (i, j, lt, omega arith, go (swapped m (g (suc m)) (g i)) (swapped m (g (suc m)) (g j)))
    where
      go : Swapped m (g (suc m)) (g i) → Swapped m (g (suc m)) (g j) → g i ≡ g j
      go (inl p) (inl q) = p.0 ∙ sym q.0
      go (inl p) (inr q) = absurd (none j (omega arith) (sym q.1 ∙ sym same ∙ p.1))
      go (inr p) (inl q) = absurd (none i (omega arith) (sym p.1 ∙ same ∙ q.1))
      go (inr p) (inr q) = sym p.1 ∙ same ∙ q.1

pub pigeon : (n : ℕ) (g : ℕ → ℕ) → ((i : ℕ) → i ≤ n → g i < n) → Repeat g n
pigeon zero g h = absurd (omega (arith, h 0 (omega arith)))
pigeon (suc m) g h = go (λ g' h'. pigeon m g' h') (find_eq g (g (suc m)) (suc m))
  where
    go : ((g' : ℕ → ℕ) → ((i : ℕ) → i ≤ m → g' i < m) → Repeat g' m) → Found g (g (suc m)) (suc m) → Repeat g (suc m)
    go rec (inl w) = (w.0, suc m, w.1, omega arith, w.2)
    go rec (inr none) = back m g h none (rec (λ i. swap m (g (suc m)) (g i)) (less m g h none))
