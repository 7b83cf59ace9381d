-- Paper 01, "The network file": record 01 comes first and once; then come N tables in node order from 0, each a 02 record and
-- its rules, then 7F and nothing more. A file is accepted when reading it meets no refusal.
use Rattle.std.specs.Prelude.{Option, Some, None, Result, Ok, Err, cond, List, [], ◌∷◌, ℕ, zero, suc, ◌+◌, length}
use Rattle.reading.specs.declared.Action.{Action}
use Rattle.reading.specs.declared.Action.TheVariants.{Forward, Drop, Deliver}
use Rattle.reading.specs.declared.Figures.{Figures}
use Rattle.reading.specs.declared.refusals.Reason.TheVariants.{NoEnd}
use Rattle.reading.specs.declared.refusals.Refusal.{Refusal}
use Rattle.reading.specs.declared.Rule.{Rule}
use Rattle.reading.specs.declared.records.Doing.{Doing}
use Rattle.reading.specs.declared.records.Doing.TheVariants.{Forwards, Drops, Delivers}
use Rattle.reading.specs.declared.records.Case.{Case}
use Rattle.reading.specs.declared.records.Case.TheVariants.{Network, Table, Rule as rule_case, End}
use Rattle.reading.specs.declared.records.Shape.{Shape}
use Rattle.reading.specs.declared.steps.State.{State}
use Rattle.reading.specs.declared.steps.Step.{Step}
use Rattle.reading.specs.declared.steps.Step.TheVariants.{Opened, Begun, Ruled, Ended}
use Rattle.reading.specs.Kinds.{byte_at, number_at, shape_of}
use Rattle.reading.specs.Network.{Network as TheNetwork, rules_of}
use Rattle.reading.specs.Refusals.{Row, rows, care_by, refusal}

-- The first row that holds decides; none means that the record is good.
abbrev pub decide : List Row → Step → Result Step Refusal
decide [] good = Ok good
decide (r ∷ rs) good = cond r.given (Err r.refusal) (decide rs good)

abbrev pub action_of : Doing → ℕ → Action
action_of Forwards next = Forward next
action_of Drops next = Drop
action_of Delivers next = Deliver

-- What a good record does: the network record opens the reading, a table record begins the next table, a rule joins its table.
abbrev pub good_at : List ℕ → State → Case → ℕ → Step
good_at s st Network next = Opened (record { at = next; width = byte_at s (st.at + 1); nodes = byte_at s (st.at + 2); tables = 0; rules = 0 })
good_at s st Table next = Begun (record { at = next; width = st.width; nodes = st.nodes; tables = st.tables + 1; rules = st.rules })
good_at s st (rule_case n d) next =
    Ruled
    (record { at = next; width = st.width; nodes = st.nodes; tables = st.tables; rules = st.rules + 1 })
    (record {
      pattern = record { care = care_by n st.width (number_at s (st.at + 1)); value = number_at s (st.at + 5) };
      action = action_of d (byte_at s (st.at + 9));
    })
good_at s st End next = Ended

-- No record of an unknown kind is good: a row refuses it.
abbrev pub good : List ℕ → State → Option Shape → Step
good s st (Some sh) = good_at s st sh.case (st.at + (1 + sh.body))
good s st None = Ended

unfoldable pub step_of : List ℕ → State → Result Step Refusal
step_of s st = decide (rows s st) (good s st (shape_of (byte_at s st.at)))

-- What the file gives from a state on: a refusal, or the width, the rules up to the next table record, and the tables after it.
pub data Rest : Type 0 where
  stop : Refusal → Rest
  rest : ℕ → List Rule → List (List Rule) → Rest

abbrev pub new_table : Rest → Rest
new_table (stop r) = stop r
new_table (rest w rs ts) = rest w [] (rs ∷ ts)

abbrev pub with_rule : Rule → Rest → Rest
with_rule r (stop x) = stop x
with_rule r (rest w rs ts) = rest w (r ∷ rs) ts

unfoldable pub on_step : State → Result Step Refusal → (State → Rest) → Rest
on_step st (Err r) go = stop r
on_step st (Ok (Opened next)) go = go next
on_step st (Ok (Begun next)) go = new_table (go next)
on_step st (Ok (Ruled next r)) go = with_rule r (go next)
on_step st (Ok Ended) go = rest st.width [] []

-- At most so many records; `parse` gives enough, so that the first clause is never met.
unfoldable pub run : ℕ → List ℕ → State → Rest
run zero s st = stop (refusal NoEnd 0)
run (suc f) s st = on_step st (step_of s st) (run f s)

abbrev pub start : State
start = record { at = 0; width = 0; nodes = 0; tables = 0; rules = 0 }

-- The reading of a file: the refusal, or the network.
pub data Parsed : Type 0 where
  refused : Refusal → Parsed
  accepted : TheNetwork → Parsed

-- No rule stands before the first table: `rs` is empty.
abbrev pub whole : Rest → Parsed
whole (stop r) = refused r
whole (rest w rs ts) = accepted (record { width = w; tables = ts })

-- Each record takes a byte at least, so a file has fewer records than length + 1.
unfoldable pub parse : List ℕ → Parsed
parse s = whole (run (length s + 1) s start)

-- What Read says of a reading: the refusal, or width, node count and rule count.
abbrev pub answer_of : Parsed → Result Figures Refusal
answer_of (refused r) = Err r
answer_of (accepted net) = Ok (record { width = net.width; nodes = length net.tables; rules = length (rules_of net) })

abbrev pub read_of : List ℕ → Result Figures Refusal
read_of s = answer_of (parse s)
