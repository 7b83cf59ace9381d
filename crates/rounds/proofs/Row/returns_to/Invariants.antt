-- `rounds::Row::returns_to` meets its contract. The invariant: what is still to be tested from cur, with the turns left, is what was to be tested.
use mathlib.Core.Path.{◌≡◌}
use Prim.Native.Nat.{◌<◌, ◌-◌}
use Rattle.rounds.specs.Rounds.{returns_to, back_in}
use Rattle.rounds.specs.Rows.{next_of}
use Rattle.rounds.proofs.Row.returns_to.Given as goal

abbrev pub invariant-loop : goal.invariant-loop
invariant-loop l =
    (l.cur < l.self.nodes) × (returns_to (next_of l.self.next l.self.nodes) l.self.nodes l.v ≡ back_in (next_of l.self.next l.self.nodes) l.v l.cur (l.end - l.counter))
