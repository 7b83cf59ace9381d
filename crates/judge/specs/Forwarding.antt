-- Paper 01, "Filters and tables": the first rule matched in a node's table acts: forward, drop or deliver. No match means dropped.
-- A header goes round when following its forward rules returns to a node.
use Rattle.std.specs.Prelude.{cond, [], ℕ, ltb, length, get_or}
use Rattle.pattern.specs.declared.Pattern.{Pattern}
use Rattle.pattern.specs.Filters.{header_of}
use Rattle.reading.specs.declared.Action.{Action}
use Rattle.reading.specs.declared.Action.TheVariants.{Forward, Drop, Deliver}
use Rattle.reading.specs.Network.{Network, act}
use Rattle.rounds.specs.Rounds.{GoesRound}

abbrev pub nodes_of : Network → ℕ
nodes_of net = length net.tables

-- What node v does with a query: a header as a pattern, or a class's pattern.
abbrev pub act_at : Network → Pattern → ℕ → Action
act_at net query v = act (get_or net.tables v []) query

-- Where an action leads in a network of n nodes; n stands for an end.
abbrev pub leads_to : ℕ → Action → ℕ
leads_to n (Forward next) = next
leads_to n Drop = n
leads_to n Deliver = n

-- The node after v. What is no node is an end, and stays one.
unfoldable pub hop : Network → Pattern → ℕ → ℕ
hop net query v = cond (ltb v (nodes_of net)) (leads_to (nodes_of net) (act_at net query v)) v

-- Header h as a query.
abbrev pub query_of : Network → ℕ → Pattern
query_of net h = header_of net.width h

-- Header h goes round.
abbrev pub HeaderGoesRound : Network → ℕ → Type 0
HeaderGoesRound net h = GoesRound (hop net (query_of net h)) (nodes_of net)
