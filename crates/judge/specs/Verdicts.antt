-- Paper 01, "Verdict and walk": free, or loop, with the least header that goes round and its cycle.
use Rattle.std.specs.Prelude.{Bool, cond, List, [], ℕ, zero, suc, ◌^◌, is_some}
use Rattle.pattern.specs.declared.Pattern.{Pattern}
use Rattle.reading.specs.Network.{Network}
use Rattle.rounds.specs.Rounds.{lowest, cycle_for}
use Rattle.judge.specs.declared.Verdict.{Verdict}
use Rattle.judge.specs.declared.Verdict.TheVariants.{Free, Loop}
use Rattle.judge.specs.Forwarding.{nodes_of, hop, query_of}

-- A query goes round: some node lies on a cycle.
unfoldable pub loops : Network → Pattern → Bool
unfolding lowest
loops net query = is_some (lowest (hop net query) (nodes_of net))

-- The first of the headers h, h + 1, .. (k of them) that passes the test; free where none does.
unfoldable pub first_from : (ℕ → Bool) → ℕ → ℕ → Verdict
first_from test h zero = Free
first_from test h (suc k) = cond (test h) (Loop h) (first_from test (suc h) k)

-- The least header that goes round.
unfoldable pub verdict_of : Network → Verdict
unfolding first_from
verdict_of net = first_from (λ h. loops net (query_of net h)) 0 (2 ^ net.width)

-- Its cycle, from the lowest numbered node that lies on any cycle of it; no nodes where the verdict is free.
unfoldable pub cycle_in : Network → Verdict → List ℕ
cycle_in net Free = []
cycle_in net (Loop h) = cycle_for (hop net (query_of net h)) (nodes_of net) (lowest (hop net (query_of net h)) (nodes_of net))
