-- `read_full` meets its contract, and ends. The invariant: no more bytes are held than there is room for.
use Rattle.std.proofs.Common.{length, ◌-◌, ◌≤◌}
use Rattle.verdict.proofs.read_full.Given as goal

abbrev pub invariant-loop-got : goal.invariant-loop-got
invariant-loop-got l = l.got ≤ length l.file

abbrev pub decreases-loop-got : goal.decreases-loop-got
decreases-loop-got l = length l.initial.file - l.got
