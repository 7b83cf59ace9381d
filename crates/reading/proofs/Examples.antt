-- Files of paper 01, whole and damaged, with what Read answers: one table under one claim, computed.
use Prim.Native.Nat.{ℕ}
use mathlib.Core.List.{List, [], ◌∷◌, ◌++◌, map, flatten}
use mathlib.Core.Path.{◌≡◌, refl}
use lib.ListN.{take}
use Rattle.std.specs.Prelude.{Result, Ok, Err}
use Rattle.reading.specs.declared.Figures.{Figures}
use Rattle.reading.specs.declared.refusals.Reason.{Reason}
use Rattle.reading.specs.declared.refusals.Reason.TheVariants.{UnknownKind, OutOfPlace, CutShort, BadWidth, BadNodeCount, TableNumber, NoSuchNext, OutsideWidth, ValueAtFree, AfterTheEnd}
use Rattle.reading.specs.declared.refusals.Refusal.{Refusal}
use Rattle.reading.specs.Refusals.{refusal, number_of}
use Rattle.reading.specs.Kinds.{shape_of}
use Rattle.reading.specs.File.{step_of, on_step, run, parse, read_of}

pub record Example : Type 0 where
  pub file : List ℕ
  pub answer : Result Figures Refusal
  pub number : ℕ

-- The number of an answer, as C is given it: the refusal's, or 0.
abbrev number : Result Figures Refusal → ℕ
number (Ok figures) = 0
number (Err r) = number_of r.reason

abbrev given : List ℕ → Result Figures Refusal × ℕ → Example
given s told = record { file = s; answer = told.0; number = told.1 }

abbrev accepted : ℕ → ℕ → ℕ → Result Figures Refusal × ℕ
accepted w n r = (Ok (record { width = w; nodes = n; rules = r }), 0)

abbrev refused : ℕ → Reason → ℕ → Result Figures Refusal × ℕ
refused n reason p = (Err (refusal reason p), n)

-- Four bytes for a small number.
abbrev wide : ℕ → List ℕ
wide n = 0 ∷ 0 ∷ 0 ∷ n ∷ []

abbrev rule : ℕ → ℕ → ℕ → List ℕ
rule kind mask value = (kind ∷ []) ++ wide mask ++ wide value

-- Input C, with its first rule.
abbrev c_with : List ℕ → List ℕ
c_with first =
    (0x01 ∷ 3 ∷ 2 ∷ 0x02 ∷ 0 ∷ []) ++ first ++ (0x02 ∷ 1 ∷ []) ++ rule 0x04 6 6 ++ rule 0x03 4 4 ++ (0 ∷ 0x7F ∷ [])

abbrev file_c : List ℕ
file_c = c_with (rule 0x03 4 4 ++ (1 ∷ []))

abbrev pub examples : List Example
examples =
    given file_c (accepted 3 2 3)
    -- H: the first rule of kind 13 with mask 3. I: of kind 03 with mask 3.
    ∷ given (c_with (rule 0x13 3 4 ++ (1 ∷ []))) (accepted 3 2 3)
    ∷ given (c_with (rule 0x03 3 4 ++ (1 ∷ []))) (refused 9 ValueAtFree 5)
    -- Empty; cut inside a body, where a record should start, after the kind byte.
    ∷ given [] (refused 3 CutShort 0)
    ∷ given (take 2 file_c) (refused 3 CutShort 0)
    ∷ given (take 5 file_c) (refused 3 CutShort 5)
    ∷ given (take 12 file_c) (refused 3 CutShort 5)
    ∷ given (take 16 file_c) (refused 3 CutShort 15)
    -- No kind; a rule before a table; a second 01; 7F too early; a third table; bytes after 7F.
    ∷ given (0x06 ∷ []) (refused 1 UnknownKind 0)
    ∷ given (0x01 ∷ 3 ∷ 2 ∷ 0x05 ∷ []) (refused 2 OutOfPlace 3)
    ∷ given (0x01 ∷ 3 ∷ 2 ∷ 0x01 ∷ []) (refused 2 OutOfPlace 3)
    ∷ given (0x01 ∷ 3 ∷ 2 ∷ 0x02 ∷ 0 ∷ 0x7F ∷ []) (refused 2 OutOfPlace 5)
    ∷ given (0x01 ∷ 3 ∷ 1 ∷ 0x02 ∷ 0 ∷ 0x02 ∷ []) (refused 2 OutOfPlace 5)
    ∷ given (file_c ++ (0x06 ∷ [])) (refused 11 AfterTheEnd 37)
    -- Widths 0 and 33, nodes 0 and 65; the wrong table; the next node missing.
    ∷ given (0x01 ∷ 0 ∷ 65 ∷ []) (refused 4 BadWidth 0)
    ∷ given (0x01 ∷ 33 ∷ 1 ∷ []) (refused 4 BadWidth 0)
    ∷ given (0x01 ∷ 32 ∷ 0 ∷ []) (refused 5 BadNodeCount 0)
    ∷ given (0x01 ∷ 1 ∷ 65 ∷ []) (refused 5 BadNodeCount 0)
    ∷ given (0x01 ∷ 3 ∷ 2 ∷ 0x02 ∷ 1 ∷ []) (refused 6 TableNumber 3)
    ∷ given (c_with (rule 0x03 4 4 ++ (2 ∷ []))) (refused 7 NoSuchNext 5)
    -- Ones above the width, in mask and value, in both notations.
    ∷ given (c_with (rule 0x03 8 0 ++ (1 ∷ []))) (refused 8 OutsideWidth 5)
    ∷ given (c_with (rule 0x13 8 0 ++ (1 ∷ []))) (refused 8 OutsideWidth 5)
    ∷ given (c_with (rule 0x13 3 12 ++ (9 ∷ []))) (refused 8 OutsideWidth 5)
    ∷ []

pub examples_hold : map (λ x. read_of x.file) examples ≡ map (λ x. x.answer) examples
unfolding parse run on_step step_of shape_of flatten
examples_hold = refl

-- and each refusal by its number
pub numbers_hold : map (λ x. number (read_of x.file)) examples ≡ map (λ x. x.number) examples
unfolding parse run on_step step_of shape_of flatten
numbers_hold = refl
