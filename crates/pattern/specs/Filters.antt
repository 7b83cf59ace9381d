-- Paper 01, "Filters and tables": a filter is a care mask and a value.
use Rattle.std.specs.Prelude.{Bool, ◌&&◌, cond, ◌≡◌, ℕ, zero, suc, ◌+◌, ◌-◌, ◌^◌, ◌<◌, eqb}
use Rattle.std.specs.Int.Bits.{bit_and, bit_or}
use Rattle.std.specs.Int.Count.{ones}
use Rattle.pattern.specs.declared.Pattern.{Pattern}

-- Header h matches when h and the value agree at every cared bit.
abbrev pub hits : Pattern → ℕ → Bool
hits p h = eqb (bit_and h p.care) p.value

-- The all-free pattern matches every header.
abbrev pub all_free : Pattern
all_free = record { care = 0; value = 0 }

-- The pattern of one header of w bits cares for every bit.
abbrev pub header_of : ℕ → ℕ → Pattern
header_of w h = record { care = 2 ^ w - 1; value = h }

-- Zero above bit w-1, and the value is zero at free bits.
abbrev pub WellFormed : ℕ → Pattern → Type 0
WellFormed w p = (p.care < 2 ^ w) × (bit_and p.value p.care ≡ p.value)

-- p lies within q: every bit that q cares for is cared for by p, with q's value.
abbrev pub within : Pattern → Pattern → Bool
within p q = eqb (bit_and p.care q.care) q.care && eqb (bit_and p.value q.care) q.value

-- p and q agree on the bits that both care about.
abbrev pub agree : Pattern → Pattern → Bool
agree p q = eqb (bit_and p.value (bit_and p.care q.care)) (bit_and q.value (bit_and p.care q.care))

-- The common part of two filters that agree is again a filter.
abbrev pub common : Pattern → Pattern → Pattern
common p q = record { care = bit_or p.care q.care; value = bit_or p.value q.value }

-- A filter with f free bits holds 2^f headers.
abbrev pub held : ℕ → Pattern → ℕ
held w p = 2 ^ (w - ones p.care)

-- Counting over the header space: how many numbers below n pass the test. The headers of w bits are those below 2^w.
unfoldable pub count : (ℕ → Bool) → ℕ → ℕ
count t zero = zero
count t (suc n) = count t n + cond (t n) 1 0
