-- Paper 01, "Verdict and walk": the walk's answer is the outcome, the node and the hops. For circling, the node is the first one entered
-- again, the start counted as entered, and the hops include that entry. Refusals: the file's own, then 14 (header is 2^w or more),
-- 15 (start node is N or more), 16 (after N hops no end was reached and no node met twice), each at place 0.
use Rattle.std.specs.Prelude.{Result, Ok, Err, Bool, false, ◌||◌, cond, List, [], ◌∷◌, ℕ, zero, suc, ◌^◌, ltb, eqb}
use Rattle.reading.specs.declared.Action.{Action}
use Rattle.reading.specs.declared.Action.TheVariants.{Forward, Drop, Deliver}
use Rattle.reading.specs.declared.refusals.Refusal.{Refusal}
use Rattle.reading.specs.declared.refusals.Reason.TheVariants.{WideHeader, NoSuchStart, NoEnd}
use Rattle.reading.specs.Refusals.{refusal}
use Rattle.reading.specs.File.{Parsed, refused, accepted, parse}
use Rattle.judge.specs.Forwarding.{nodes_of, act_at, query_of}
use Rattle.walk.specs.declared.Outcome.{Outcome}
use Rattle.walk.specs.declared.Outcome.TheVariants.{Delivered, Dropped, Circling}

unfoldable pub is_in : ℕ → List ℕ → Bool
is_in v [] = false
is_in v (u ∷ us) = eqb v u || is_in v us

-- What an action at a node leads to after so many hops, with the nodes met so far; a forward to a node not met goes on.
unfoldable pub on_action : Action → List ℕ → ℕ → ℕ → (ℕ → Result Outcome Refusal) → Result Outcome Refusal
on_action (Forward next) met node hops go_on = cond (is_in next met) (Ok (Circling next (suc hops))) (go_on next)
on_action Drop met node hops go_on = Ok (Dropped node hops)
on_action Deliver met node hops go_on = Ok (Delivered node hops)

-- From a node on, with k hops left; acts says what each node does with the header.
unfoldable pub walk_from : (ℕ → Action) → List ℕ → ℕ → ℕ → ℕ → Result Outcome Refusal
walk_from acts met node hops zero = Err (refusal NoEnd 0)
walk_from acts met node hops (suc k) = on_action (acts node) met node hops (λ next. walk_from acts (next ∷ met) next (suc hops) k)

-- The walk through n nodes from the start, which counts as entered.
abbrev pub walk_through : (ℕ → Action) → ℕ → ℕ → Result Outcome Refusal
walk_through acts n start = walk_from acts (start ∷ []) start 0 n

-- 14 and 15 before it; the headers have w bits.
unfoldable pub walk_by : (ℕ → Action) → ℕ → ℕ → ℕ → ℕ → Result Outcome Refusal
walk_by acts w n header start =
    cond (ltb header (2 ^ w)) (cond (ltb start n) (walk_through acts n start) (Err (refusal NoSuchStart 0))) (Err (refusal WideHeader 0))

abbrev pub walk_read : Parsed → ℕ → ℕ → Result Outcome Refusal
walk_read (refused r) header start = Err r
walk_read (accepted net) header start = walk_by (act_at net (query_of net header)) net.width (nodes_of net) header start

-- Walk, from the file's bytes, a header and a start node.
unfoldable pub walk_of : List ℕ → ℕ → ℕ → Result Outcome Refusal
walk_of file header start = walk_read (parse file) header start
