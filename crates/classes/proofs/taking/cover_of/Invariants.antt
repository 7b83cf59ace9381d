-- `classes::taking::cover_of` meets its contract. The loop's invariant: what is gathered is the cover by the filters passed.
use mathlib.Core.Path.{◌≡◌}
use lib.ListN.{take}
use Rattle.classes.specs.Steps.{cover}
use Rattle.classes.proofs.taking.cover_of.Given as goal

abbrev pub invariant-loop-g : goal.invariant-loop-g
invariant-loop-g l = l.all ≡ cover l.f (take l.g-index l.filters)
