-- What the code's steps are; serves the proofs. Each definition is what one function of the record reader or of the step gives.
use Rattle.std.specs.Prelude.{Option, Some, None, Result, Ok, Err, Bool, true, not, cond, List, ℕ, ◌+◌, ◌<◌, eqb, ltb, leb, length}
use Rattle.pattern.specs.declared.Pattern.{Pattern}
use Rattle.pattern.specs.declared.Flaw.{Flaw}
use Rattle.pattern.specs.Notations.{caring_of, freeing_of}
use Rattle.reading.specs.declared.Action.{Action}
use Rattle.reading.specs.declared.Action.TheVariants.{Forward, Drop, Deliver}
use Rattle.reading.specs.declared.records.Notation.{Notation}
use Rattle.reading.specs.declared.records.Notation.TheVariants.{Caring, Freeing}
use Rattle.reading.specs.declared.records.Doing.{Doing}
use Rattle.reading.specs.declared.records.Doing.TheVariants.{Forwards, Drops, Delivers}
use Rattle.reading.specs.declared.records.Case.{Case}
use Rattle.reading.specs.declared.records.Case.TheVariants.{Network, Table, Rule, End}
use Rattle.reading.specs.declared.records.Shape.{Shape}
use Rattle.reading.specs.declared.records.Written.{Written}
use Rattle.reading.specs.declared.records.Record.{Record}
use Rattle.reading.specs.declared.records.Record.TheVariants as record_of
use Rattle.reading.specs.declared.records.Unread.{Unread}
use Rattle.reading.specs.declared.records.Unread.TheVariants.{Missing, Unknown, Short}
use Rattle.reading.specs.declared.refusals.Reason.TheVariants.{UnknownKind, OutOfPlace, CutShort, BadWidth, BadNodeCount, TableNumber, NoSuchNext, TooManyRules, AfterTheEnd}
use Rattle.reading.specs.declared.refusals.Refusal.{Refusal}
use Rattle.reading.specs.declared.steps.State.{State}
use Rattle.reading.specs.declared.steps.Step.{Step}
use Rattle.reading.specs.declared.steps.Step.TheVariants.{Opened, Begun, Ruled, Ended}
use Rattle.reading.specs.Kinds.{byte_at, number_at, shape_of}
use Rattle.reading.specs.Refusals.{out_of_place, one_too_many, between, widest, most_nodes, most_rules, refusal, reason_of}
use Rattle.reading.specs.File.{action_of}

abbrev pub shape : Case → ℕ → Shape
shape c n = record { case = c; body = n }

abbrev pub rule_shape : Notation → ℕ → Shape
rule_shape n i = cond (eqb i 0) (shape (Rule n Forwards) 9) (cond (eqb i 1) (shape (Rule n Drops) 8) (shape (Rule n Delivers) 8))

-- The length of the body by the record's case.
abbrev pub rule_body : Doing → ℕ
rule_body Forwards = 9
rule_body Drops = 8
rule_body Delivers = 8

abbrev pub body_of : Case → ℕ
body_of Network = 2
body_of Table = 1
body_of (Rule n d) = rule_body d
body_of End = 0

-- The record is all there.
abbrev pub Whole : List ℕ → ℕ → Case → Type 0
Whole s at c = at + body_of c < length s

abbrev pub action_at : List ℕ → ℕ → Doing → Action
action_at s at d = action_of d (byte_at s (at + 9))

abbrev pub written_at : List ℕ → ℕ → Notation → Doing → ℕ → Record
written_at s at n d body = record_of.Rule (record { notation = n; mask = number_at s (at + 1); value = number_at s (at + 5); action = action_at s at d; body = body })

unfoldable pub whole_at : List ℕ → ℕ → Case → ℕ → Record
whole_at s at Network body = record_of.Network (byte_at s (at + 1)) (byte_at s (at + 2))
whole_at s at Table body = record_of.Table (byte_at s (at + 1))
whole_at s at (Rule n d) body = written_at s at n d body
whole_at s at End body = record_of.End

unfoldable pub shaped_at : List ℕ → ℕ → Option Shape → Result Record Unread
shaped_at s at None = Err Unknown
shaped_at s at (Some sh) = cond (leb (length s) (at + sh.body)) (Err (Short sh.case)) (Ok (whole_at s at sh.case sh.body))

unfoldable pub record_at : List ℕ → ℕ → Result Record Unread
record_at s at = cond (leb (length s) at) (Err Missing) (shaped_at s at (shape_of (byte_at s at)))

-- The filter that a rule record writes.
abbrev pub noted_by : Notation → ℕ → ℕ → ℕ → Result Pattern Flaw
noted_by Caring w mask value = caring_of w mask value
noted_by Freeing w mask value = freeing_of w mask value

abbrev pub noted_in : ℕ → Written → Result Pattern Flaw
noted_in w wr = noted_by wr.notation w wr.mask wr.value

-- A record that is cut short.
abbrev pub short_refusal : State → Case → Refusal
short_refusal st c =
    cond (out_of_place c st) (refusal OutOfPlace st.at) (cond (one_too_many c st) (refusal TooManyRules st.at) (refusal CutShort st.at))

unfoldable pub network_step : State → ℕ → ℕ → Result Step Refusal
network_step st w n =
    cond (out_of_place Network st) (Err (refusal OutOfPlace st.at))
    (cond (not (between 1 widest w)) (Err (refusal BadWidth 0))
    (cond (not (between 1 most_nodes n)) (Err (refusal BadNodeCount 0))
    (Ok (Opened (record { at = st.at + 3; width = w; nodes = n; tables = 0; rules = 0 })))))

unfoldable pub table_step : State → ℕ → Result Step Refusal
table_step st v =
    cond (out_of_place Table st) (Err (refusal OutOfPlace st.at))
    (cond (not (eqb v st.tables)) (Err (refusal TableNumber st.at))
    (Ok (Begun (record { at = st.at + 2; width = st.width; nodes = st.nodes; tables = st.tables + 1; rules = st.rules }))))

-- Whether an action leads to a node that is there.
abbrev pub leads_in : ℕ → Action → Bool
leads_in n (Forward next) = ltb next n
leads_in n Drop = true
leads_in n Deliver = true

unfoldable pub ruled_step : State → Written → Pattern → Result Step Refusal
ruled_step st wr p =
    cond (leads_in st.nodes wr.action)
    (Ok (Ruled
    (record { at = st.at + (1 + wr.body); width = st.width; nodes = st.nodes; tables = st.tables; rules = st.rules + 1 })
    (record { pattern = p; action = wr.action })))
    (Err (refusal NoSuchNext st.at))

unfoldable pub filter_step : State → Written → Result Pattern Flaw → Result Step Refusal
filter_step st wr (Ok p) = ruled_step st wr p
filter_step st wr (Err flaw) = Err (refusal (reason_of flaw) st.at)

unfoldable pub rule_step : State → Written → Result Step Refusal
rule_step st wr =
    cond (out_of_place (Rule Caring Drops) st) (Err (refusal OutOfPlace st.at))
    (cond (leb most_rules st.rules) (Err (refusal TooManyRules st.at))
    (filter_step st wr (noted_in st.width wr)))

unfoldable pub end_step : State → ℕ → Result Step Refusal
end_step st n = cond (out_of_place End st) (Err (refusal OutOfPlace st.at)) (cond (ltb (st.at + 1) n) (Err (refusal AfterTheEnd (st.at + 1))) (Ok Ended))

-- What the code does with what stands at the state's place, in a file of n bytes.
unfoldable pub step_on : ℕ → State → Result Record Unread → Result Step Refusal
step_on n st (Ok (record_of.Network w m)) = network_step st w m
step_on n st (Ok (record_of.Table v)) = table_step st v
step_on n st (Ok (record_of.Rule wr)) = rule_step st wr
step_on n st (Ok record_of.End) = end_step st n
step_on n st (Err (Short c)) = Err (short_refusal st c)
step_on n st (Err Unknown) = Err (refusal UnknownKind st.at)
step_on n st (Err Missing) = Err (refusal CutShort n)
