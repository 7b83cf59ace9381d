-- What the working arrays and a table's part of the file hold; serves the proofs. Paper 01's "rules over all tables" are the
-- arrays' entries, and "each node's table is a run of records in the middle of the file".
use Rattle.std.specs.Prelude.{Result, Ok, Err, Option, Some, None, List, [], ◌∷◌, ◌++◌, ℕ, zero, suc, ◌+◌, ◌-◌, map, length, get_or, take, drop}
use Rattle.pattern.specs.declared.Pattern.{Pattern}
use Rattle.pattern.specs.declared.Flaw.{Flaw}
use Rattle.reading.specs.declared.Action.{Action}
use Rattle.reading.specs.declared.Rule.{Rule}
use Rattle.reading.specs.declared.Rules.{Rules}
use Rattle.reading.specs.declared.Mark.{Mark}
use Rattle.reading.specs.declared.Figures.{Figures}
use Rattle.reading.specs.declared.records.Written.{Written}
use Rattle.reading.specs.declared.records.Record.{Record}
use Rattle.reading.specs.declared.records.Record.TheVariants as record_of
use Rattle.reading.specs.declared.records.Unread.{Unread}
use Rattle.reading.specs.declared.refusals.Refusal.{Refusal}
use Rattle.reading.specs.declared.steps.State.{State}
use Rattle.reading.specs.declared.steps.Step.{Step}
use Rattle.reading.specs.declared.steps.Step.TheVariants.{Opened, Begun, Ruled, Ended}
use Rattle.reading.specs.File.{step_of, start}
use Rattle.reading.specs.Code.{record_at, noted_in}

-- A note for each record that is taken in, up to the file's end or its first refusal.
abbrev pub onward : {A : Type 0} → Result Step Refusal → (State → List A) → List A
onward (Err r) go = []
onward (Ok (Opened st)) go = go st
onward (Ok (Begun st)) go = go st
onward (Ok (Ruled st r)) go = go st
onward (Ok Ended) go = []

unfoldable pub notes : {A : Type 0} → (State → Result Step Refusal → List A) → ℕ → List ℕ → State → List A
notes g zero s st = []
notes g (suc f) s st = g st (step_of s st) ++ onward (step_of s st) (notes g f s)

abbrev pub notes_of : {A : Type 0} → (State → Result Step Refusal → List A) → List ℕ → List A
notes_of g s = notes g (length s + 1) s start

-- A note of each rule; a note of the state at each table record and at the end record.
abbrev pub per_rule : {A : Type 0} → (Rule → A) → State → Result Step Refusal → List A
per_rule f st (Err r) = []
per_rule f st (Ok (Opened next)) = []
per_rule f st (Ok (Begun next)) = []
per_rule f st (Ok (Ruled next r)) = f r ∷ []
per_rule f st (Ok Ended) = []

abbrev pub per_table : {A : Type 0} → (State → A) → State → Result Step Refusal → List A
per_table f st (Err r) = []
per_table f st (Ok (Opened next)) = []
per_table f st (Ok (Begun next)) = f st ∷ []
per_table f st (Ok (Ruled next r)) = []
per_table f st (Ok Ended) = f st ∷ []

abbrev pub patterns_of : List ℕ → List Pattern
patterns_of = notes_of (per_rule (λ r. r.pattern))

abbrev pub actions_of : List ℕ → List Action
actions_of = notes_of (per_rule (λ r. r.action))

-- The number of each node's first rule and the place of its table record; then the rule count and the place of 7F.
abbrev pub mark_of : State → Mark
mark_of st = record { rule = st.rules; place = st.at }

abbrev pub marks_of : List ℕ → List Mark
marks_of = notes_of (per_table mark_of)

abbrev pub firsts_of : List ℕ → List ℕ
firsts_of s = map (λ m. m.rule) (marks_of s)

abbrev pub begins_of : List ℕ → List ℕ
begins_of s = map (λ m. m.place) (marks_of s)

-- The figures of a file that ends in this state.
abbrev pub figures_of : State → Figures
figures_of st = record { width = st.width; nodes = st.nodes; rules = st.rules }

-- An array after filling: the notes in front, then what stood there.
abbrev pub filled : {A : Type 0} → List A → List A → List A
filled xs old = xs ++ drop (length xs) old

-- The rule record at a place, if one stands there and its filter is good, and the place after it.
abbrev pub good_rule : ℕ → Written → Result Pattern Flaw → Option (Rule × ℕ)
good_rule at wr (Ok p) = Some (record { pattern = p; action = wr.action }, at + (1 + wr.body))
good_rule at wr (Err flaw) = None

abbrev pub found_in : ℕ → ℕ → Result Record Unread → Option (Rule × ℕ)
found_in w at (Ok (record_of.Rule wr)) = good_rule at wr (noted_in w wr)
found_in w at (Ok (record_of.Network v n)) = None
found_in w at (Ok (record_of.Table v)) = None
found_in w at (Ok record_of.End) = None
found_in w at (Err why) = None

unfoldable pub found_at : ℕ → List ℕ → ℕ → Option (Rule × ℕ)
found_at w s at = found_in w at (record_at s at)

-- The rules from a place on, up to the first thing that is no good rule record.
abbrev pub on_found : Option (Rule × ℕ) → (ℕ → List Rule) → List Rule
on_found (Some (r, next)) go = r ∷ go next
on_found None go = []

unfoldable pub rules_from : ℕ → ℕ → List ℕ → ℕ → List Rule
rules_from zero w s at = []
rules_from (suc f) w s at = on_found (found_at w s at) (rules_from f w s)

unfoldable pub rules_in : ℕ → List ℕ → List Rule
rules_in w part = rules_from (length part + 1) w part 0

-- The rules that the reader of a part still has to give.
unfoldable pub rules_left : Rules → List Rule
rules_left r = rules_from (length r.records.file.now + 1) r.width.bits r.records.file.now r.records.at

-- Node v's mark. Past the last one there is none.
abbrev pub unmarked : Mark
unmarked = record { rule = 0; place = 0 }

abbrev pub place_in : List Mark → ℕ → ℕ
place_in marks v = (get_or marks v unmarked).place

abbrev pub rule_in : List Mark → ℕ → ℕ
rule_in marks v = (get_or marks v unmarked).rule

-- Node v's part of the file, by the places of the marks: from its table record's end to the next mark.
abbrev pub part_at : List ℕ → List Mark → ℕ → List ℕ
part_at s marks v = take (place_in marks (v + 1) - (place_in marks v + 2)) (drop (place_in marks v + 2) s)
