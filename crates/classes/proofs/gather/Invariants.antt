-- `classes::gather` meets its contract. The loop's invariant: the entries are the class list of the filters taken in so far.
use Rattle.classes.proofs.Whole.{Building}
use Rattle.classes.proofs.gather.Given as goal

abbrev pub invariant-loop-j : goal.invariant-loop-j
invariant-loop-j l = Building l.width.bits l.filters l.j l.list l.fn.list
