-- The lookup in a table's part. The rules that are left give the answer.
use mathlib.Core.Path.{◌≡◌}
use Rattle.reading.specs.Network.{act}
use Rattle.reading.specs.Arrays.{rules_in, rules_left}
use Rattle.reading.proofs.lookup.Given as goal

abbrev pub invariant-loop-rule : goal.invariant-loop-rule
invariant-loop-rule l = act (rules_in l.fn.width.bits l.part) l.query ≡ act (rules_left l.rule-iterator) l.query
