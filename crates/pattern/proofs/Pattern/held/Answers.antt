-- `Pattern::held` meets its contract: a pattern cares for no more bits than there are.
use native.Mathlib.Omega.{arith}
use lib.Count.{ones-le}
use Rattle.pattern.proofs.Pattern.held.Goals as goal

pub overflow_sub-result : goal.overflow_sub-result
overflow_sub-result c = omega (arith, ones-le c.args.width.bits c.args.self.care c.requires, c.from.ensures)
