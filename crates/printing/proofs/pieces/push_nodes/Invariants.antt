-- The invariant: the nodes from the next one on are still to come, and each node before took at most 4 bytes.
use Rattle.std.proofs.Common.{◌≡◌, ◌++◌, ◌+◌, ◌*◌, ◌≤◌, drop}
use Rattle.arrayvec.specs.ArrayString.{array_string_len}
use Rattle.printing.specs.Lines.{nodes}
use Rattle.printing.proofs.pieces.push_nodes.Given as goal

abbrev pub invariant-loop-node : goal.invariant-loop-node
invariant-loop-node l =
    (l.line.bytes ++ nodes (drop l.node-index l.cycle) ≡ l.initial.line.bytes ++ nodes l.cycle)
    × (array_string_len l.line ≤ array_string_len l.initial.line + 4 * l.node-index)
