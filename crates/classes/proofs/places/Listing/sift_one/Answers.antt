-- `Listing::sift_one` meets its contract: an entry that the filter cuts is parted, and any other stays.
use mathlib.Core.Path.{sym, ap₂, ◌∙◌}
use Prim.Native.Nat.{◌+◌, ◌-◌}
use native.Mathlib.Nat.{le_trans}
use native.Mathlib.Omega.{arith}
use lib.ListN.{get_or}
use Rattle.classes.specs.Steps.{entries_from}
use Rattle.classes.proofs.Steps.{sift_stays, sift_moves, Parting, parting}
use Rattle.classes.proofs.places.Listing.sift_one.Goals as goal
use Rattle.classes.proofs.places.Listing.sift_one.Goals.{After-common-part}

-- what the filter cuts off
cut_off : (c : After-common-part) → Parting c.args.f.width.bits c.common-part.result (get_or c.args.self.now.sizes.now c.args.i 0) (entries_from c.args.self.now (c.args.i + 1))
cut_off c =
    parting c.args.f.width.bits c.args.f.pattern c.args.self.now c.args.i c.pattern-p.result c.common-part.result c.args.f.width.short c.args.f.fits c.requires.sound
    c.pattern-p.ensures (sym c.if-is_cut.true ∙ c.is_cut.ensures) c.common-part.ensures

pub held-h-requires : goal.held-h-requires
held-h-requires c = (cut_off (goal.at.held-h-requires c).After-common-part).bits

pub within_sum-s-requires-clause-bound : goal.within_sum-s-requires-clause-bound
within_sum-s-requires-clause-bound c =
    let g = cut_off (goal.at.within_sum-s-requires-clause-bound c).After-common-part in
    le_trans g.held_more g.few

pub overflow_sub-h : goal.overflow_sub-h
overflow_sub-h c =
    let g = cut_off (goal.at.overflow_sub-h c).After-common-part in
    omega (arith, g.held_more, c.held-h.ensures, c.within_sum-s.ensures)

pub returns-else-is_cut : goal.returns-else-is_cut
returns-else-is_cut c =
    sift_stays c.args.f.width.bits c.args.f.pattern c.args.self.now c.args.i c.requires.inside c.pattern-p.result c.pattern-p.ensures (sym c.is_cut.ensures ∙ c.if-is_cut.false)

pub returns-then-is_cut : goal.returns-then-is_cut
returns-then-is_cut c =
    sift_moves c.args.f.width.bits c.args.f.pattern c.args.self.now c.args.i c.requires.inside c.move_part.new.self (c.held-h.result - c.within_sum-s.result) c.pattern-p.result c.common-part.result
    c.pattern-p.ensures (sym c.is_cut.ensures ∙ c.if-is_cut.true) c.common-part.ensures (ap₂ (λ x y. x - y) c.held-h.ensures c.within_sum-s.ensures) c.move_part.ensures
