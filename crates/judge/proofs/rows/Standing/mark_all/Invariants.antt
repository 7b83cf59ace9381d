-- The first i classes have their marks.
use mathlib.Core.Path.{◌≡◌}
use mathlib.Core.Bool.{false}
use Prim.Native.Nat.{ℕ, ◌<◌}
use lib.ListN.{length, get_or}
use Rattle.least.specs.Steps.{pattern_in}
use Rattle.judge.specs.Verdicts.{loops}
use Rattle.judge.specs.Steps.{network_of}
use Rattle.judge.proofs.rows.Standing.mark_all.Given as goal

abbrev pub invariant-loop-i : goal.invariant-loop-i
invariant-loop-i l =
    (length l.marks ≡ length l.listed.cares.now)
    × ((k : ℕ) → k < l.i → get_or l.marks k false ≡ loops (network_of l.self.file.now) (pattern_in l.listed k))
