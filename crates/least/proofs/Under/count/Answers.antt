-- `least::Under::count` meets its contract. The loop's invariant: the classes from place i on have their counts.
use native.Mathlib.Omega.{arith}
use Rattle.least.proofs.Turns.{counted_none, turn_care, turn_bound, turn_store}
use Rattle.least.proofs.Under.count.Goals as goal

pub loop-i-init : goal.loop-i-init
loop-i-init c = rw c.len-i.ensures (counted_none (c.args.self.classes.enough _ c.args.self.formed))

pub count_at-requires-clause-bits : goal.count_at-requires-clause-bits
count_at-requires-clause-bits c = turn_care c.loop-i.invariant c.loop-i-test.true

pub count_at-requires-clause-enough : goal.count_at-requires-clause-enough
count_at-requires-clause-enough c = turn_bound c.loop-i.invariant c.loop-i-test.true

pub loop-i-preserved : goal.loop-i-preserved
loop-i-preserved c = turn_store c.loop-i.invariant c.loop-i-test.true c.count_at.ensures (omega (arith, c.loop-i.invariant.upto))
