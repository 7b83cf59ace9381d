-- What the cycle's list is: v, and each node's next, each node once, closing at v.
use mathlib.Core.Path.{◌≡◌, refl, sym, ◌∙◌, ap}
use mathlib.Core.Bool.{Bool, true, false, cond, ◌||◌, true≢false}
use mathlib.Core.List.{[]}
use Prim.Native.Nat.{ℕ, zero, suc, ◌+◌, ◌-◌, ◌≤◌, ◌<◌}
use native.Mathlib.Omega.{arith}
use lib.ListN.{length, get_or}
use lib.Dec.{eqb}
use borrow.Author.Tests.{eqb-true, eqb-false}
use Rattle.rounds.specs.Rounds.{hops, back_in, returns_to, cycle_from, cycle_of}
use Rattle.rounds.proofs.Cycle.{hops_f, hops_add}

module _ (f : ℕ → ℕ) where
  cyc_at : (v c k i : ℕ) → i < length (cycle_from f v c k) → get_or (cycle_from f v c k) i 0 ≡ hops f i c
  unfolding cycle_from hops
  cyc_at v c zero i h = absurd (omega arith)
  cyc_at v c (suc k) zero h = refl
  cyc_at v c (suc k) (suc i) h = go (eqb (f c) v) h (λ g. cyc_at v (f c) k i g)
    where
      go : (b : Bool) → suc i < suc (length (cond b [] (cycle_from f v (f c) k)))
          → (i < length (cycle_from f v (f c) k) → get_or (cycle_from f v (f c) k) i 0 ≡ hops f i (f c))
          → get_or (cond b [] (cycle_from f v (f c) k)) i 0 ≡ f (hops f i c)
      go true h rec = absurd (omega arith)
      go false h rec = rec (omega arith) ∙ hops_f f i c

  cyc_len : (v c k : ℕ) → length (cycle_from f v c k) ≤ k
  unfolding cycle_from
  cyc_len v c zero = omega arith
  cyc_len v c (suc k) = go (eqb (f c) v) (cyc_len v (f c) k)
    where
      go : (b : Bool) → length (cycle_from f v (f c) k) ≤ k → suc (length (cond b [] (cycle_from f v (f c) k))) ≤ suc k
      go true h = omega arith
      go false h = omega arith

  cyc_closed : (v c k : ℕ) → back_in f v c k ≡ true → hops f (length (cycle_from f v c k)) c ≡ v
  unfolding cycle_from hops back_in
  cyc_closed v c zero e = absurd (true≢false (sym e))
  cyc_closed v c (suc k) e = go (eqb (f c) v) refl e (cyc_closed v (f c) k)
    where
      go : (b : Bool) → eqb (f c) v ≡ b → b || back_in f v (f c) k ≡ true
          → (back_in f v (f c) k ≡ true → hops f (length (cycle_from f v (f c) k)) (f c) ≡ v)
          → f (hops f (length (cond b [] (cycle_from f v (f c) k))) c) ≡ v
      go true t e rec = eqb-true (f c) v t
      go false t e rec = sym (hops_f f (length (cycle_from f v (f c) k)) c) ∙ rec e

  cyc_not_yet : (v c k j : ℕ) → 1 ≤ j → j < length (cycle_from f v c k) → hops f j c ≡ v → ⊥
  unfolding cycle_from hops
  cyc_not_yet v c zero j p h e = omega arith
  cyc_not_yet v c (suc k) zero p h e = omega arith
  cyc_not_yet v c (suc k) (suc j) p h e = go j (eqb (f c) v) refl h e (cyc_not_yet v (f c) k j)
    where
      go : (j : ℕ) (b : Bool) → eqb (f c) v ≡ b → suc j < suc (length (cond b [] (cycle_from f v (f c) k))) → f (hops f j c) ≡ v
          → (1 ≤ j → j < length (cycle_from f v (f c) k) → hops f j (f c) ≡ v → ⊥) → ⊥
      go j true t h e rec = omega arith
      go zero false t h e rec = eqb-false (f c) v t e
      go (suc j) false t h e rec = rec (omega arith) (omega arith) (hops_f f (suc j) c ∙ e)

  module _ (n v : ℕ) where
    -- at each place: that many hops from v
    pub cycle_at : (i : ℕ) → i < length (cycle_of f n v) → get_or (cycle_of f n v) i 0 ≡ hops f i v
    unfolding cycle_of
    cycle_at i h = cyc_at v v n i h

    pub cycle_len : length (cycle_of f n v) ≤ n
    unfolding cycle_of
    cycle_len = cyc_len v v n

    -- one hop past the last node is v again
    pub cycle_closed : returns_to f n v ≡ true → hops f (length (cycle_of f n v)) v ≡ v
    unfolding cycle_of returns_to
    cycle_closed e = cyc_closed v v n e

    -- each node once
    pub cycle_once : returns_to f n v ≡ true → (i j : ℕ) → i < j → j < length (cycle_of f n v) → get_or (cycle_of f n v) i 0 ≡ get_or (cycle_of f n v) j 0 → ⊥
    unfolding cycle_of
    cycle_once e i j lt h same =
        let p : ℕ = length (cycle_of f n v) in
        let meet : hops f i v ≡ hops f j v = sym (cycle_at i (omega arith)) ∙ same ∙ cycle_at j h in
        let sum : p - j + j ≡ p = omega arith in
        let round : hops f (p - j + i) v ≡ v =
        hops_add f (p - j) i v ∙ ap (hops f (p - j)) meet ∙ sym (hops_add f (p - j) j v) ∙ ap (λ x. hops f x v) sum ∙ cycle_closed e in
        cyc_not_yet v v n (p - j + i) (omega arith) (omega arith) round
