-- `walk::Tables::follow` meets its contract, by the laws of a hop and of a rule in `WalkSteps`.
use mathlib.Core.Path.{refl}
use Rattle.walk.proofs.WalkSteps.{here_first, here_next, looks, looks_on, ends_deliver, ends_drop, ends_circling, ends_none, ends_late}
use Rattle.walk.proofs.Tables.follow.Goals as goal

pub walk-init : goal.walk-init
walk-init c = rw c.from.ensures (here_first _ _ _ c.requires)

pub loop-i-init : goal.loop-i-init
loop-i-init c = (rw c.from-v.ensures (looks _ _ _ _ _ _ _ c.args.self.stand c.walk.invariant c.if-hops-self.false), refl)

pub walk-preserved : goal.walk-preserved
walk-preserved c =
    let clear = simp c.from-w.ensures at c.if-seen-w.false in
    rw c.from-w.ensures (here_next _ _ _ _ _ _ _ _ _ c.loop-i.invariant.0 c.loop-i-test.true c.if-hits.ensures _ c.in-Forward.is clear)

pub loop-i-preserved : goal.loop-i-preserved
loop-i-preserved c = (looks_on _ _ _ _ _ _ _ _ _ c.loop-i.invariant.0 c.loop-i-test.true c.if-hits.ensures, c.loop-i.invariant.1)

pub returns-then-hops-self : goal.returns-then-hops-self
returns-then-hops-self c = rw c.at.ensures (ends_late _ _ _ _ _ _ c.walk.invariant c.if-hops-self.true)

pub returns-in-Deliver : goal.returns-in-Deliver
returns-in-Deliver c = ends_deliver _ _ _ _ _ _ _ _ _ c.loop-i.invariant.0 c.loop-i-test.true c.if-hits.ensures c.in-Deliver.is

pub returns-in-Drop : goal.returns-in-Drop
returns-in-Drop c = ends_drop _ _ _ _ _ _ _ _ _ c.loop-i.invariant.0 c.loop-i-test.true c.if-hits.ensures c.in-Drop.is

pub returns-then-seen-w : goal.returns-then-seen-w
returns-then-seen-w c =
    let marked = simp c.from-w.ensures at c.if-seen-w.true in
    ends_circling _ _ _ _ _ _ _ _ _ c.loop-i.invariant.0 c.loop-i-test.true c.if-hits.ensures _ c.in-Forward.is marked

pub returns-after-loop-i : goal.returns-after-loop-i
returns-after-loop-i c = ends_none _ _ _ _ _ _ _ _ _ c.loop-i.invariant.0 c.loop-i-test.false
