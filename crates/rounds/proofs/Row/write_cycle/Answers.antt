-- `rounds::Row::write_cycle` meets its contract. The invariant: what is written, and the cycle from cur on, is the cycle; the cycle closes in the hops left.
use mathlib.Core.Path.{◌≡◌, refl, sym, ◌∙◌, ap}
use mathlib.Core.Bool.{true, true≢false}
use mathlib.Core.List.{◌∷◌, ◌++◌}
use Prim.Native.Nat.{ℕ, ◌-◌, ◌+◌}
use native.Mathlib.Omega.{arith}
use lib.ListN.{take}
use Rattle.rounds.specs.Rounds.{back_in, cycle_from, cycle_of}
use Rattle.rounds.specs.Rows.{next_of}
use Rattle.rounds.proofs.Cycle.{back_first, back_miss, back_live, back_none, next_read, has_next, row_ends}
use Rattle.rounds.proofs.Written.{put_more, put_last, drop_more, cyc_first, cyc_last, cyc_more}
use Rattle.rounds.proofs.Row.write_cycle.Goals as goal

pub loop-i-init : goal.loop-i-init
loop-i-init c = (c.requires.0, refl, cyc_first _ _ _, sym (back_first _ _ _) ∙ c.requires.1)

pub unwrap-requires : goal.unwrap-requires
unwrap-requires c = has_next _ _ _ _ _ c.requires.0 c.loop-i.invariant.0 c.loop-i-test.true c.loop-i.invariant.3

pub returns-then-cur-v : goal.returns-then-cur-v
returns-then-cur-v c =
    let f : ℕ → ℕ = next_of c.args.self.now.next c.args.self.now.nodes in
    let e : f c.loop-i.cur ≡ c.args.v = next_read _ _ _ _ c.loop-i.invariant.0 c.unwrap.ensures ∙ sym c.from-cur.ensures ∙ c.if-cur-v.true in
    put_last c.loop-i.out c.args.out.now (cycle_of f c.args.self.now.nodes c.args.v) c.loop-i.i c.loop-i.cur (omega arith) c.loop-i.invariant.1
    (c.loop-i.invariant.2 ∙ ap (λ t. take c.loop-i.i c.loop-i.out ++ t) (cyc_last f _ _ _ _ c.loop-i-test.true e))

pub loop-i-preserved : goal.loop-i-preserved
loop-i-preserved c =
    let n : ℕ = c.args.self.now.nodes in
    let f : ℕ → ℕ = next_of c.args.self.now.next n in
    let k : ℕ = n - (c.loop-i.i + 1) in
    let to : f c.loop-i.cur ≡ c.from-cur.result = next_read _ _ _ _ c.loop-i.invariant.0 c.unwrap.ensures ∙ sym c.from-cur.ensures in
    let miss : f c.loop-i.cur ≡ c.args.v → ⊥ = λ e. c.if-cur-v.false (sym to ∙ e) in
    let closes : back_in f c.args.v c.from-cur.result k ≡ true =
    ap (λ x. back_in f c.args.v x k) (sym to) ∙ sym (back_miss f _ _ _ _ c.loop-i-test.true miss) ∙ c.loop-i.invariant.3 in (
      back_live f n (row_ends _ _) c.args.v c.from-cur.result k c.requires.0 closes,
      drop_more c.loop-i.out c.args.out.now c.loop-i.i c.loop-i.cur c.loop-i.invariant.1,
      c.loop-i.invariant.2
          ∙ ap (λ t. take c.loop-i.i c.loop-i.out ++ t) (cyc_more f _ _ _ _ c.loop-i-test.true miss)
          ∙ ap (λ x. take c.loop-i.i c.loop-i.out ++ (c.loop-i.cur ∷ cycle_from f c.args.v x k)) to
          ∙ put_more c.loop-i.out (cycle_from f c.args.v c.from-cur.result k) c.loop-i.i c.loop-i.cur (omega arith),
      closes,
    )

pub returns : goal.returns
returns c = absurd (true≢false (sym c.loop-i.invariant.3 ∙ back_none _ _ _ _ _ c.loop-i-test.false))
