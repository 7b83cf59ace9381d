-- Paper 01, "The printed verdict": numbers are decimal; a pattern has its highest bit left and * for a free bit. A text is the list of its bytes.
use Rattle.std.specs.Prelude.{ℕ, zero, suc, ◌+◌, ◌/◌, ◌%◌, ◌^◌, cond, List, [], ◌∷◌, ◌++◌, eqb, ltb}
use Prim.Native.Char.{code}
use Prim.Native.String.{String, [] as end, ◌∷◌ as ◌then◌}
use Rattle.pattern.specs.declared.Pattern.{Pattern}
use Rattle.pattern.specs.Filters.{header_of}

-- The bytes of a word, letter by letter. A text of one letter, as "*", stands for the letter too.
abbrev pub word : String → List ℕ
word end = []
word (c then s) = code c ∷ word s

-- The byte of a digit.
abbrev pub digit : ℕ → ℕ
digit d = 48 + d

-- The last digits of n, at most so many, the highest first, with no zero in front.
unfoldable pub digits : ℕ → ℕ → List ℕ
digits zero n = []
digits (suc most) n = cond (ltb n 10) [] (digits most (n / 10)) ++ (digit (n % 10) ∷ [])

-- A number in decimal: n has at most n + 1 digits.
unfoldable pub decimal : ℕ → List ℕ
decimal n = digits (suc n) n

-- The letter of a pattern's bit b: * where the bit is free, else its value.
abbrev pub letter : Pattern → ℕ → ℕ
letter p b = cond (eqb (p.care / 2 ^ b % 2) 0) (code "*") (digit (p.value / 2 ^ b % 2))

-- The letters of a pattern of w bits, the highest bit left.
unfoldable pub letters : ℕ → Pattern → List ℕ
letters zero p = []
letters (suc b) p = letter p b ∷ letters b p

-- A header in w letters.
abbrev pub header_letters : ℕ → ℕ → List ℕ
header_letters w h = letters w (header_of w h)
