-- Paper 01, "Refusal numbers": the first faulty record decides; within it the order is 1, 2, 10, 3, then the fields in file
-- order: 4, 5 / 6 / 8 for mask, 8 for value, 9, 7. The byte after 7F is not read as a record: it gets 11.
use Rattle.std.specs.Prelude.{Option, Some, None, is_none, Bool, true, false, not, ◌&&◌, cond, List, [], ◌∷◌, ℕ, ◌+◌, ◌^◌, eqb, ltb, leb, length}
use Rattle.std.specs.Int.Bits.{bit_and}
use Rattle.pattern.specs.Notations.{complement}
use Rattle.pattern.specs.declared.Flaw.{Flaw}
use Rattle.pattern.specs.declared.Flaw.TheVariants.{WideMask, WideValue, ValueAtFree as value_at_free}
use Rattle.reading.specs.declared.refusals.Reason.{Reason}
use Rattle.reading.specs.declared.refusals.Reason.TheVariants.{UnknownKind, OutOfPlace, CutShort, BadWidth, BadNodeCount, TableNumber, NoSuchNext, OutsideWidth, ValueAtFree, TooManyRules, AfterTheEnd, TooManyClasses, ShortLists, WideHeader, NoSuchStart, NoEnd}
use Rattle.reading.specs.declared.refusals.Refusal.{Refusal}
use Rattle.reading.specs.declared.records.Notation.{Notation}
use Rattle.reading.specs.declared.records.Notation.TheVariants.{Caring, Freeing}
use Rattle.reading.specs.declared.records.Doing.{Doing}
use Rattle.reading.specs.declared.records.Doing.TheVariants.{Forwards, Drops, Delivers}
use Rattle.reading.specs.declared.records.Case.{Case}
use Rattle.reading.specs.declared.records.Case.TheVariants.{Network, Table, Rule, End}
use Rattle.reading.specs.declared.records.Shape.{Shape}
use Rattle.reading.specs.declared.steps.State.{State}
use Rattle.reading.specs.Kinds.{byte_at, number_at, shape_of}

-- The card of numbers: 1 to 11 are about the file.
abbrev pub number_of : Reason → ℕ
number_of UnknownKind = 1
number_of OutOfPlace = 2
number_of CutShort = 3
number_of BadWidth = 4
number_of BadNodeCount = 5
number_of TableNumber = 6
number_of NoSuchNext = 7
number_of OutsideWidth = 8
number_of ValueAtFree = 9
number_of TooManyRules = 10
number_of AfterTheEnd = 11
number_of TooManyClasses = 12
number_of ShortLists = 13
number_of WideHeader = 14
number_of NoSuchStart = 15
number_of NoEnd = 16

abbrev pub refusal : Reason → ℕ → Refusal
refusal n p = record { reason = n; place = p }

-- The refusals 8 and 9 of a filter.
abbrev pub reason_of : Flaw → Reason
reason_of WideMask = OutsideWidth
reason_of WideValue = OutsideWidth
reason_of value_at_free = ValueAtFree

-- The most that the scope allows.
abbrev pub widest : ℕ
widest = 32

abbrev pub most_nodes : ℕ
most_nodes = 64

abbrev pub most_rules : ℕ
most_rules = 256

abbrev pub between : ℕ → ℕ → ℕ → Bool
between a b n = leb a n && leb n b

-- 01 is missing first or repeated, 02 stands after N tables, a rule before a table, 7F before N tables. Before 01 the state's width is 0.
abbrev pub out_of_place : Case → State → Bool
out_of_place Network st = not (eqb st.width 0)
out_of_place Table st = cond (eqb st.width 0) true (leb st.nodes st.tables)
out_of_place (Rule n d) st = cond (eqb st.width 0) true (eqb st.tables 0)
out_of_place End st = cond (eqb st.width 0) true (ltb st.tables st.nodes)

-- A 257th rule.
abbrev pub one_too_many : Case → State → Bool
one_too_many Network st = false
one_too_many Table st = false
one_too_many (Rule n d) st = leb most_rules st.rules
one_too_many End st = false

-- The care mask of a rule: kinds 13 to 15 write the free bits.
abbrev pub care_by : Notation → ℕ → ℕ → ℕ
care_by Caring w mask = mask
care_by Freeing w mask = complement w mask

abbrev pub forwards : Doing → Bool
forwards Forwards = true
forwards Drops = false
forwards Delivers = false

-- A row of the table of refusals: when it is given, and the refusal, by its reason and its place.
pub record Row : Type 0 where
  pub given : Bool
  pub refusal : Refusal

abbrev pub row : Bool → Reason → ℕ → Row
row b n p = record { given = b; refusal = refusal n p }

-- The rows for the fields of a record, in file order.
abbrev pub field_rows : List ℕ → State → Case → List Row
field_rows s st Network =
    -- The width is not 1 to 32; N is not 1 to 64.
    row (not (between 1 widest (byte_at s (st.at + 1)))) BadWidth 0
    ∷ row (not (between 1 most_nodes (byte_at s (st.at + 2)))) BadNodeCount 0
    ∷ []
field_rows s st Table =
    -- The table number is not the next.
    row (not (eqb (byte_at s (st.at + 1)) st.tables)) TableNumber st.at
    ∷ []
field_rows s st (Rule n d) =
    -- The mask has a one above bit w-1; the value has.
    row (not (ltb (number_at s (st.at + 1)) (2 ^ st.width))) OutsideWidth st.at
    ∷ row (not (ltb (number_at s (st.at + 5)) (2 ^ st.width))) OutsideWidth st.at
    -- The value has a one at a free bit.
    ∷ row (not (eqb (bit_and (number_at s (st.at + 5)) (care_by n st.width (number_at s (st.at + 1)))) (number_at s (st.at + 5)))) ValueAtFree st.at
    -- The next node is N or more.
    ∷ row (forwards d && not (ltb (byte_at s (st.at + 9)) st.nodes)) NoSuchNext st.at
    ∷ []
field_rows s st End =
    -- A byte after 7F.
    row (ltb (st.at + 1) (length s)) AfterTheEnd (st.at + 1)
    ∷ []

-- The rows for a record whose kind is in the table, with this shape.
abbrev pub known_rows : List ℕ → State → Option Shape → List Row
known_rows s st None = []
known_rows s st (Some sh) =
    -- A known kind is out of place.
    row (out_of_place sh.case st) OutOfPlace st.at
    -- A 257th rule.
    ∷ row (one_too_many sh.case st) TooManyRules st.at
    -- The file ends inside the body.
    ∷ row (leb (length s) (st.at + sh.body)) CutShort st.at
    ∷ field_rows s st sh.case

-- The rows for the record at the state's place, by what the table says of its kind.
abbrev pub rows_at : List ℕ → State → Option Shape → List Row
rows_at s st found =
    -- The file ends where a record should start: there is no kind to look at.
    row (leb (length s) st.at) CutShort (length s)
    -- The kind is not in the table.
    ∷ row (is_none found) UnknownKind st.at
    ∷ known_rows s st found

abbrev pub rows : List ℕ → State → List Row
rows s st = rows_at s st (shape_of (byte_at s st.at))
