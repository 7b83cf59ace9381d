-- The lowest node on a cycle: the first that is found, and what the answer means.
use mathlib.Core.Path.{◌≡◌, refl, sym, ◌∙◌, ap, subst}
use mathlib.Core.Bool.{Bool, true, false, cond, true≢false}
use Prim.Native.Nat.{ℕ, zero, suc, ◌+◌, ◌≤◌, ◌<◌}
use native.Mathlib.Numerals.{add-one}
use native.Mathlib.Decide.{ℕ_discrete}
use native.Mathlib.Omega.{arith}
use Rattle.std.specs.Prelude.{Option, Some, None}
use Rattle.std.specs.List.{find, range_with_len}
use Rattle.rounds.specs.Rounds.{OnCycle, GoesRound, returns_to, low_from, lowest}
use Rattle.rounds.proofs.Cycle.{returns_on, on_returns}

-- the first node that is met again, among all of them
low_find : (f : ℕ → ℕ) (n v k : ℕ) → low_from f n v k ≡ find (returns_to f n) (range_with_len v k)
unfolding low_from
low_find f n v zero = refl
low_find f n v (suc k) = rw (add-one v) (ap (cond (returns_to f n v) (Some v)) (low_find f n (suc v) k))

pub lowest_find : (f : ℕ → ℕ) (n : ℕ) → lowest f n ≡ find (returns_to f n) (range_with_len 0 n)
unfolding lowest
lowest_find f n = low_find f n 0 n

-- what an answer of `low_from` says of the nodes from v to v + k
abbrev pub Says : (ℕ → ℕ) → ℕ → ℕ → ℕ → Option ℕ → Type 0
Says f n v k (Some w) = (v ≤ w) × (w < v + k) × (returns_to f n w ≡ true) × ((u : ℕ) → v ≤ u → u < w → returns_to f n u ≡ false)
Says f n v k None = (u : ℕ) → v ≤ u → u < v + k → returns_to f n u ≡ false

-- one node more in front, that is on no cycle
front : (f : ℕ → ℕ) (n v : ℕ) → returns_to f n v ≡ false → (u : ℕ) → v ≤ u → (suc v ≤ u → returns_to f n u ≡ false) → returns_to f n u ≡ false
front f n v e u le more = go (ℕ_discrete u v)
  where
    go : Dec (u ≡ v) → returns_to f n u ≡ false
    go (yes p) = ap (returns_to f n) p ∙ e
    go (no p) = more (omega arith)

widen : (f : ℕ → ℕ) (n v k : ℕ) → returns_to f n v ≡ false → (r : Option ℕ) → Says f n (suc v) k r → Says f n v (suc k) r
widen f n v k e (Some w) s = (omega arith, omega arith, s.2, λ u p q. front f n v e u p (λ h. s.3 u h q))
widen f n v k e None s = λ u p q. front f n v e u p (λ h. s u h (omega arith))

says : (f : ℕ → ℕ) (n v k : ℕ) → Says f n v k (low_from f n v k)
unfolding low_from
says f n v zero = λ u p q. absurd (omega arith)
says f n v (suc k) = go (returns_to f n v) refl (says f n (suc v) k)
  where
    go : (b : Bool) → returns_to f n v ≡ b → Says f n (suc v) k (low_from f n (suc v) k)
        → Says f n v (suc k) (cond b (Some v) (low_from f n (suc v) k))
    go true e rest = (omega arith, omega arith, e, λ u p q. absurd (omega arith))
    go false e rest = widen f n v k e (low_from f n (suc v) k) rest

-- the meaning, with no limit on the hops
abbrev pub Means : (ℕ → ℕ) → ℕ → Option ℕ → Type 0
Means f n (Some w) = (w < n) × OnCycle f w × ((u : ℕ) → u < w → OnCycle f u → ⊥)
Means f n None = GoesRound f n → ⊥

pub lowest_means : (f : ℕ → ℕ) (n : ℕ) → ((v : ℕ) → n ≤ v → n ≤ f v) → Means f n (lowest f n)
unfolding lowest
lowest_means f n ends = go (low_from f n 0 n) (says f n 0 n)
  where
    off : (u : ℕ) → u < n → returns_to f n u ≡ false → OnCycle f u → ⊥
    off u lt e on = true≢false (sym (on_returns f n ends u lt on) ∙ e)

    go : (r : Option ℕ) → Says f n 0 n r → Means f n r
    go (Some w) s = (omega arith, returns_on f n ends w s.2, λ u lt on. off u (omega arith) (s.3 u (omega arith) lt) on)
    go None s = λ g. off g.0 g.1 (s g.0 (omega arith) (omega (arith, g.1))) g.2

-- what the answer `Some v` hands to the writer of the cycle
pub node_means : (f : ℕ → ℕ) (n v : ℕ) → lowest f n ≡ Some v → (v < n) × (returns_to f n v ≡ true)
unfolding lowest
node_means f n v e = let s : Says f n 0 n (Some v) = subst (Says f n 0 n) e (says f n 0 n) in (omega arith, s.2)
