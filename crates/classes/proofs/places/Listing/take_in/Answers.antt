-- `Listing::take_in` meets its contract. The loop's invariant: the entries from i on are sifted, those below are as they were.
use Prim.Native.Nat.{◌-◌}
use native.Mathlib.Omega.{arith}
use Rattle.classes.proofs.Steps.{sifting_start, sifting_sound, sifting_step}
use Rattle.classes.proofs.places.Listing.take_in.Goals as goal

pub loop-i-init : goal.loop-i-init
loop-i-init c = sifting_start c.args.f.width.bits c.args.f.pattern c.args.self.now

pub sift_one-requires-clause-sound : goal.sift_one-requires-clause-sound
sift_one-requires-clause-sound c =
    sifting_sound c.args.f.width.bits c.args.f.pattern (c.loop-i.i - 1) c.loop-i.i c.loop-i.self c.args.self.now (omega arith) c.loop-i.invariant c.requires.sound

pub loop-i-preserved : goal.loop-i-preserved
loop-i-preserved c =
    sifting_step c.args.f.width.bits c.args.f.pattern (c.loop-i.i - 1) c.loop-i.i c.loop-i.self c.args.self.now (omega arith) c.loop-i.invariant _ c.sift_one.ensures
