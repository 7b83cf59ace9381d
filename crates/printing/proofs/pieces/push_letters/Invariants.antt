-- The invariant: the letters of the lower bits are still to come.
use Rattle.std.proofs.Common.{◌≡◌, ◌++◌, ◌+◌}
use Rattle.arrayvec.specs.ArrayString.{array_string_len}
use Rattle.printing.specs.Text.{letters}
use Rattle.printing.proofs.pieces.push_letters.Given as goal

abbrev pub invariant-loop-bit : goal.invariant-loop-bit
invariant-loop-bit l =
    (l.line.bytes ++ letters l.bit l.pattern ≡ l.initial.line.bytes ++ letters l.fn.width.bits l.pattern)
    × (array_string_len l.line + l.bit ≡ array_string_len l.initial.line + l.fn.width.bits)
