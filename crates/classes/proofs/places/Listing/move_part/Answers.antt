-- `Listing::move_part` meets its contract: nothing moves, all moves and the entry goes, or a part moves and the entry stays.
use native.Mathlib.Omega.{arith}
use Rattle.classes.proofs.Steps.{moved_part}
use Rattle.classes.proofs.places.Listing.move_part.Goals as goal

pub returns : goal.returns
returns c =
    moved_part c.args.p c.args.k c.args.self.now c.args.i c.requires.inside c.requires.few c.resize.new.self c.resize.ensures _ c.if-k-eq0.false (λ e. omega arith) c.add_entry-2.ensures
