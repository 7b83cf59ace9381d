-- `verdict::print` ends: each turn takes a line off those that are to come.
use lib.ListN.{length}
use Rattle.printing.specs.Left.{lines_left}
use Rattle.verdict.proofs.print.Given as goal

abbrev pub decreases-loop-lines : goal.decreases-loop-lines
decreases-loop-lines l = length (lines_left l.lines)
