-- `classes::entries::Entries::within_sum` meets its contract. The loop's invariant: what is summed and what is still to come make the whole.
use mathlib.Core.Path.{◌≡◌}
use Prim.Native.Nat.{◌+◌}
use Rattle.pattern.specs.Filters.{within}
use Rattle.classes.specs.Steps.{sum_if, rows_from}
use Rattle.classes.proofs.entries.Entries.within_sum.Given as goal

abbrev pub invariant-loop-j : goal.invariant-loop-j
invariant-loop-j l = l.sum + sum_if (λ q. within q l.p) (rows_from l.self l.j) ≡ sum_if (λ q. within q l.p) (rows_from l.self l.from)
