-- Paper 01, "The network file": one byte of kind, then a body whose length the kind fixes. Numbers are big-endian.
use Rattle.std.specs.Prelude.{Option, Some, None, cond, List, [], ◌∷◌, ℕ, ◌+◌, ◌*◌, eqb, get_or}
use Rattle.reading.specs.declared.records.Notation.TheVariants.{Caring, Freeing}
use Rattle.reading.specs.declared.records.Doing.TheVariants.{Forwards, Drops, Delivers}
use Rattle.reading.specs.declared.records.Case.{Case}
use Rattle.reading.specs.declared.records.Case.TheVariants.{Network, Table, Rule, End}
use Rattle.reading.specs.declared.records.Shape.{Shape}

abbrev pub byte_at : List ℕ → ℕ → ℕ
byte_at s i = get_or s i 0

-- Four bytes, the highest first.
abbrev pub number_at : List ℕ → ℕ → ℕ
number_at s i = ((byte_at s i * 256 + byte_at s (i + 1)) * 256 + byte_at s (i + 2)) * 256 + byte_at s (i + 3)

-- A row of the table of kinds: the kind byte, the record's case, the length of its body.
pub record Kind : Type 0 where
  pub byte : ℕ
  pub shape : Shape

abbrev pub kind : ℕ → Case → ℕ → Kind
kind k c n = record { byte = k; shape = record { case = c; body = n } }

abbrev pub kinds : List Kind
kinds =
    kind 0x01 Network 2
    ∷ kind 0x02 Table 1
    ∷ kind 0x03 (Rule Caring Forwards) 9
    ∷ kind 0x04 (Rule Caring Drops) 8
    ∷ kind 0x05 (Rule Caring Delivers) 8
    ∷ kind 0x13 (Rule Freeing Forwards) 9
    ∷ kind 0x14 (Rule Freeing Drops) 8
    ∷ kind 0x15 (Rule Freeing Delivers) 8
    ∷ kind 0x7F End 0
    ∷ []

abbrev pub find_kind : ℕ → List Kind → Option Shape
find_kind k [] = None
find_kind k (x ∷ xs) = cond (eqb k x.byte) (Some x.shape) (find_kind k xs)

-- What a kind byte says; a kind that is not in the table says nothing.
unfoldable pub shape_of : ℕ → Option Shape
shape_of k = find_kind k kinds
