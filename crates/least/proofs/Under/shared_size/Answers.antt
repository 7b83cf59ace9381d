-- `least::Under::shared_size` meets its contract: the common part's size where the two agree.
use lib.Bits.{or_lt}
use Rattle.least.proofs.Under.shared_size.Goals as goal

pub held-requires : goal.held-requires
held-requires c = rw c.common.ensures (or_lt c.args.self.classes.width.bits c.args.p.care c.args.self.prefix.care c.requires c.args.self.formed.0)
