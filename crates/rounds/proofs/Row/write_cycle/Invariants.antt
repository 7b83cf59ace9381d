-- `rounds::Row::write_cycle` meets its contract. The invariant: what is written, and the cycle from cur on, is the cycle; the cycle closes in the hops left.
use mathlib.Core.Path.{◌≡◌}
use mathlib.Core.Bool.{true}
use mathlib.Core.List.{◌++◌}
use Prim.Native.Nat.{◌<◌, ◌-◌}
use lib.ListN.{take, drop}
use Rattle.rounds.specs.Rounds.{back_in, cycle_from, cycle_of}
use Rattle.rounds.specs.Rows.{next_of}
use Rattle.rounds.proofs.Row.write_cycle.Given as goal

abbrev pub invariant-loop-i : goal.invariant-loop-i
invariant-loop-i l =
    (l.cur < l.self.nodes) × (drop l.i l.out ≡ drop l.i l.initial.out)
    × (cycle_of (next_of l.self.next l.self.nodes) l.self.nodes l.v ≡ take l.i l.out ++ cycle_from (next_of l.self.next l.self.nodes) l.v l.cur (l.i-end - l.i))
    × (back_in (next_of l.self.next l.self.nodes) l.v l.cur (l.i-end - l.i) ≡ true)
