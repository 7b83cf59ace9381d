-- Paper 01, "Filters and tables": a header goes round when following its forward rules returns to a node; a rule that forwards
-- to its own node is a cycle of one node. "Verdict and walk": the cycle starts at the lowest numbered node that lies on any cycle
-- of that header and follows the hops, each node once; the rest of the 64 bytes are 255.
-- For one header a network is a function f on nodes: f v is the next node after v. There are n nodes, and n or more is an end.
use Rattle.std.specs.Prelude.{◌≡◌, Bool, false, cond, ◌||◌, List, [], ◌∷◌, ◌++◌, ℕ, zero, suc, ◌-◌, ◌≤◌, ◌<◌, length, replicate, drop, eqb, Option, Some, None}

-- Where k hops from v lead.
unfoldable pub hops : (ℕ → ℕ) → ℕ → ℕ → ℕ
hops f zero v = v
hops f (suc k) v = f (hops f k v)

-- Some positive number of hops leads from v to v.
abbrev pub OnCycle : (ℕ → ℕ) → ℕ → Type 0
OnCycle f v = (k : ℕ) × (1 ≤ k) × (hops f k v ≡ v)

-- Some node lies on a cycle.
abbrev pub GoesRound : (ℕ → ℕ) → ℕ → Type 0
GoesRound f n = (v : ℕ) × (v < n) × OnCycle f v

-- One of the next k hops from c enters v.
unfoldable pub back_in : (ℕ → ℕ) → ℕ → ℕ → ℕ → Bool
back_in f v c zero = false
back_in f v c (suc k) = eqb (f c) v || back_in f v (f c) k

-- Node v is met again within n hops: the computed test of lying on a cycle.
unfoldable pub returns_to : (ℕ → ℕ) → ℕ → ℕ → Bool
unfolding back_in
returns_to f n v = back_in f v v n

-- The first of the nodes v, v + 1, .. (k of them) that lies on a cycle.
unfoldable pub low_from : (ℕ → ℕ) → ℕ → ℕ → ℕ → Option ℕ
low_from f n v zero = None
low_from f n v (suc k) = cond (returns_to f n v) (Some v) (low_from f n (suc v) k)

-- The lowest numbered node that lies on any cycle.
unfoldable pub lowest : (ℕ → ℕ) → ℕ → Option ℕ
unfolding low_from
lowest f n = low_from f n 0 n

-- The nodes from c on, up to where the next would be v.
unfoldable pub cycle_from : (ℕ → ℕ) → ℕ → ℕ → ℕ → List ℕ
cycle_from f v c zero = []
cycle_from f v c (suc k) = c ∷ cond (eqb (f c) v) [] (cycle_from f v (f c) k)

-- The cycle of v.
unfoldable pub cycle_of : (ℕ → ℕ) → ℕ → ℕ → List ℕ
unfolding cycle_from
cycle_of f n v = cycle_from f v v n

-- The cycle from the lowest node; no nodes where there is none.
unfoldable pub cycle_for : (ℕ → ℕ) → ℕ → Option ℕ → List ℕ
unfolding cycle_of
cycle_for f n (Some v) = cycle_of f n v
cycle_for f n None = []

-- A byte list after a cycle is written to it: the cycle, 255 up to 64, and what it was past 64.
abbrev pub cycle_bytes : List ℕ → List ℕ → List ℕ
cycle_bytes l old = l ++ (replicate (64 - length l) 255 ++ drop 64 old)
