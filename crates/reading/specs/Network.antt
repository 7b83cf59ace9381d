-- Paper 01, "What it judges" and "Filters and tables": a network is a header width and one ordered table of rules per node.
-- The first rule matched in a node's table acts; no match means dropped.
use Rattle.std.specs.Prelude.{Option, Some, None, cond, ℕ}
use mathlib.Core.List.{List, [], ◌∷◌, map, flatten}
use Rattle.pattern.specs.declared.Pattern.{Pattern}
use Rattle.pattern.specs.Filters.{within}
use Rattle.reading.specs.declared.Rule.{Rule}
use Rattle.reading.specs.declared.Action.{Action}
use Rattle.reading.specs.declared.Action.TheVariants.{Forward, Drop, Deliver}

-- The nodes are the places of their tables: there are as many as tables.
pub record Network : Type 0 where
  pub width : ℕ
  pub tables : List (List Rule)

-- All rules, in file order.
abbrev pub rules_of : Network → List Rule
rules_of net = flatten net.tables

-- The filters of a network, in file order.
abbrev pub filters : Network → List Pattern
filters net = map (λ r. r.pattern) (rules_of net)

-- The next node after an action; none at an end.
abbrev pub next_by : Action → Option ℕ
next_by (Forward next) = Some next
next_by Drop = None
next_by Deliver = None

-- What a table does with a query: a class's pattern, or a header as the pattern that cares for every bit. Such a pattern lies
-- within a filter exactly when the header matches it.
unfoldable pub act : List Rule → Pattern → Action
act [] q = Drop
act (r ∷ rs) q = cond (within q r.pattern) r.action (act rs q)
