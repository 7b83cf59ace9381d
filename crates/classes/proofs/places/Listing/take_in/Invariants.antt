-- `Listing::take_in` meets its contract. The loop's invariant: the entries from i on are sifted, those below are as they were.
use Rattle.classes.proofs.Steps.{Sifting}
use Rattle.classes.proofs.places.Listing.take_in.Given as goal

abbrev pub invariant-loop-i : goal.invariant-loop-i
invariant-loop-i l = Sifting l.f.width.bits l.f.pattern l.i l.self l.initial.self
