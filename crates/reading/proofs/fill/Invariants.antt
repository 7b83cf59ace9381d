-- The working arrays are filled. Between two records each holds its numbers of the records taken in (`Filling`).
use Prim.Native.Nat.{◌-◌}
use lib.ListN.{length}
use Rattle.reading.proofs.Filling.{Filling}
use Rattle.reading.proofs.fill.Given as goal

abbrev pub invariant-loop-next : goal.invariant-loop-next
invariant-loop-next l = Filling l.file l.initial.arrays l.arrays l.st

abbrev pub decreases-loop-next : goal.decreases-loop-next
decreases-loop-next l = length l.file - l.st.at
