-- `least::MarkedClasses::least` meets its contract. The loop's invariant: the bits found so far are those of a prefix m, and the search
-- from m is the whole search.
use Rattle.least.specs.Steps.{under}
use Rattle.least.proofs.Search.{Found}
use Rattle.least.proofs.MarkedClasses.least.Given as goal

abbrev pub invariant-loop-k : goal.invariant-loop-k
invariant-loop-k l = Found (under l.self) l.self.width.bits l.k l.prefix.care l.prefix.value
