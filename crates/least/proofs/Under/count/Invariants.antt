-- `least::Under::count` meets its contract. The loop's invariant: the classes from place i on have their counts.
use lib.ListN.{length}
use Rattle.least.proofs.Turns.{Counted}
use Rattle.least.proofs.Under.count.Given as goal

abbrev pub invariant-loop-i : goal.invariant-loop-i
invariant-loop-i l =
    Counted l.self.classes.width.bits l.self.prefix l.self.classes.listed.cares.now l.self.classes.listed.values.now l.counts (length l.self.classes.listed.cares.now) l.i
