-- Paper 01, "The network file": the two notations of a mask, and the refusals 8 and 9 of a filter.
use Rattle.std.specs.Prelude.{Result, Ok, Err, cond, ℕ, ◌-◌, ◌^◌, eqb, ltb}
use Rattle.std.specs.Int.Bits.{bit_and, bit_xor}
use Rattle.pattern.specs.declared.Pattern.{Pattern}
use Rattle.pattern.specs.declared.Flaw.{Flaw}
use Rattle.pattern.specs.declared.Flaw.TheVariants.{WideMask, WideValue, ValueAtFree}

-- The mask is zero above bit w-1, then the value is, then the value is zero at free bits.
unfoldable pub noted_of : ℕ → ℕ → ℕ → ℕ → Result Pattern Flaw
noted_of w care mask value =
    cond (ltb mask (2 ^ w)) (cond (ltb value (2 ^ w)) (cond (eqb (bit_and value care) value)
    (Ok (record { care = care; value = value })) (Err ValueAtFree)) (Err WideValue)) (Err WideMask)

-- A mask's one means a bit that must match.
abbrev pub caring_of : ℕ → ℕ → ℕ → Result Pattern Flaw
caring_of w mask value = noted_of w mask mask value

-- A mask's one means free: the care mask is the mask's complement within the low w bits.
abbrev pub complement : ℕ → ℕ → ℕ
complement w mask = bit_xor (2 ^ w - 1) mask

abbrev pub freeing_of : ℕ → ℕ → ℕ → Result Pattern Flaw
freeing_of w mask value = noted_of w (complement w mask) mask value
