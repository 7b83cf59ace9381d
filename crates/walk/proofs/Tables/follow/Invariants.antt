-- `walk::Tables::follow` meets its contract. Over the hops: the walk from here is the walk, and seen marks the nodes met.
-- Over the rules: the rules from i on decide what the node does.
use mathlib.Core.Path.{◌≡◌}
use Prim.Native.Nat.{◌-◌}
use Rattle.walk.specs.Steps.{acts_in}
use Rattle.walk.proofs.WalkSteps.{Here, Looking}
use Rattle.walk.proofs.Tables.follow.Given as goal

abbrev pub invariant-loop-i : goal.invariant-loop-i
invariant-loop-i l = Looking l.self.arrays.now l.self.nodes l.header l.start l.seen l.node l.hops l.i l.i-end × (l.hops ≡ l.initial.hops)

abbrev pub invariant-walk : goal.invariant-walk
invariant-walk l = Here (acts_in l.self.arrays.now l.header) l.self.nodes l.start l.seen l.node l.hops

abbrev pub decreases-walk : goal.decreases-walk
decreases-walk l = l.self.nodes - l.hops
