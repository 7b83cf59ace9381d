-- The row is the network's hop.
use native.Mathlib.Omega.{arith}
use Rattle.judge.specs.Steps.{network_of}
use Rattle.judge.proofs.RowLaws.{row_is_hop}
use Rattle.judge.proofs.rows.Standing.row.Goals as goal

pub returns-clause-next : goal.returns-clause-next
returns-clause-next c =
    rw c.from-nodes.ensures
    (row_is_hop (network_of c.args.self.file.now) c.args.query c.loop-v.next c.args.self.nodes c.args.self.stands.nodes (λ u h. c.loop-v.invariant.1 u (omega (arith, h, c.loop-v-test.false, c.from-nodes.ensures))))
