-- `classes::gather` meets its contract. The loop's invariant: the entries are the class list of the filters taken in so far.
use Rattle.pattern.specs.Filters.{all_free}
use Rattle.classes.proofs.Whole.{building_start, building_sound}
use Rattle.classes.proofs.gather.Goals as goal

pub loop-j-init : goal.loop-j-init
loop-j-init c =
    building_start c.args.width.bits c.args.filters.now c.headers.result _ c.args.list.now c.requires.empty c.headers.ensures c.insert.ensures

pub take_next-requires-clause-sound : goal.take_next-requires-clause-sound
take_next-requires-clause-sound c =
    building_sound c.args.width.bits c.args.filters.now c.requires.formed c.loop-j.j all_free _ _ c.loop-j.invariant c.loop-j-test.true
