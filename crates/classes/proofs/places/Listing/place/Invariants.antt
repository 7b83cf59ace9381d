-- `Listing::place` meets its contract. The loop's invariant: all entries passed come before the pattern.
use Prim.Native.Nat.{ℕ, ◌≤◌, ◌<◌}
use lib.Dec.{T}
use Rattle.classes.specs.Classes.{before}
use Rattle.classes.specs.Given.{pattern_at}
use Rattle.classes.proofs.places.Listing.place.Given as goal

abbrev pub invariant-loop-i : goal.invariant-loop-i
invariant-loop-i l = (k : ℕ) → l.from ≤ k → k < l.i → T (before (pattern_at l.self.cares.now l.self.values.now k) l.p)
