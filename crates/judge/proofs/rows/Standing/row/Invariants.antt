-- The nodes below v have their next nodes.
use mathlib.Core.Path.{◌≡◌}
use Prim.Native.Nat.{ℕ, ◌<◌}
use Rattle.std.specs.Prelude.{None}
use lib.ListN.{length, get_or}
use Rattle.reading.specs.Network.{next_by}
use Rattle.judge.specs.Forwarding.{act_at}
use Rattle.judge.specs.Steps.{network_of}
use Rattle.judge.proofs.rows.Standing.row.Given as goal

abbrev pub invariant-loop-v : goal.invariant-loop-v
invariant-loop-v l = (length l.next ≡ 64) × ((u : ℕ) → u < l.v → get_or l.next u None ≡ next_by (act_at (network_of l.self.file.now) l.query u))
