-- The next node is shown, or the cycle has ended.
use mathlib.Core.List.{append_assoc, append-nil}
use native.Mathlib.Omega.{arith}
use lib.ListN.{get_or}
use Rattle.printing.proofs.Nodes.{nodes_none, nodes_ended, nodes_next}
use Rattle.printing.proofs.Numbers.{written_decimal}
use Rattle.printing.proofs.pieces.push_nodes.Goals as goal

pub returns-then-node-clause-text : goal.returns-then-node-clause-text
returns-then-node-clause-text c = rw (nodes_ended c.args.cycle.now c.loop-node.node-index (omega arith) c.if-node.true, append-nil) at c.loop-node.invariant.0

pub loop-node-preserved : goal.loop-node-preserved
loop-node-preserved c =
    let shown = written_decimal (get_or c.args.cycle.now c.loop-node.node-index 0) (omega (arith, c.type_inv.cycle c.loop-node.node-index)) in
    (simp (c.push_number.ensures.text, c.push_str.ensures.bytes, append_assoc, shown) (rw (nodes_next c.args.cycle.now c.loop-node.node-index (omega arith) c.if-node.false) at c.loop-node.invariant.0), omega arith)

pub returns-clause-text : goal.returns-clause-text
returns-clause-text c = rw (nodes_none c.args.cycle.now c.loop-node.node-index (omega arith), append-nil) at c.loop-node.invariant.0
