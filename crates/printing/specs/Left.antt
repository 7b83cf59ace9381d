-- What is printed of an answer and its lists; serves the proofs.
use Rattle.std.specs.Prelude.{◌≡◌, Bool, true, false, List, [], ◌∷◌, ℕ, drop}
use Rattle.judge.specs.Judging.{Lent, lent_of}
use Rattle.printing.specs.declared.Printed.{Printed}
use Rattle.printing.specs.declared.Lines.{Lines}
use Rattle.printing.specs.Lines.{lines}

abbrev pub lent_in : Printed → Lent
lent_in p = lent_of p.cares.now p.values.now p.sizes.now p.cycle.now

-- All its lines.
abbrev pub lines_of : Printed → List (List ℕ)
lines_of p = lines p.answer (lent_in p)

-- The lines that are still to come.
abbrev pub lines_left : Lines → List (List ℕ)
lines_left ls = drop ls.next (lines_of ls.printed)

-- The first of the lines that are to come is taken off, and it is this one; or none is to come.
abbrev pub TakesFirst : Lines → Bool → List ℕ → Lines → Type 0
TakesFirst before took line after = (took ≡ true → lines_left before ≡ line ∷ lines_left after) × (took ≡ false → (lines_left before ≡ []) × (lines_left after ≡ []))
