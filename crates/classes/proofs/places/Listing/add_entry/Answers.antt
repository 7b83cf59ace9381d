-- `Listing::add_entry` meets its contract: the pattern is there and its size grows, or it is put in at its place.
use Rattle.classes.proofs.Steps.{add_there, add_new}
use Rattle.classes.proofs.places.Listing.add_entry.Goals as goal

pub returns-in-Ok : goal.returns-in-Ok
returns-in-Ok c = add_there c.args.p c.args.k _ c.args.self.now c.args.from c.in-Ok.i c.in-Ok.ensures c.requires.few c.resize.ensures

pub returns-in-Err : goal.returns-in-Err
returns-in-Err c = add_new c.args.p c.args.k _ c.args.self.now c.args.from c.in-Err.i c.in-Err.ensures c.requires.few c.insert.ensures
