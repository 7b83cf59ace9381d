-- `rounds::Row::returns_to` meets its contract. The invariant: what is still to be tested from cur, with the turns left, is what was to be tested.
use mathlib.Core.Path.{◌≡◌, sym, ◌∙◌, ap}
use Prim.Native.Nat.{ℕ, ◌<◌, ◌-◌, ◌+◌}
use native.Mathlib.Omega.{arith}
use Rattle.rounds.specs.Rounds.{returns_to, back_in}
use Rattle.rounds.proofs.Cycle.{back_first, back_hit, back_miss, back_ended, back_none, next_read, end_read, row_ends}
use Rattle.rounds.proofs.Row.returns_to.Goals as goal

-- one turn that is no hit
turn : (f : ℕ → ℕ) (n v cur i r : ℕ) → returns_to f n v ≡ back_in f v cur (n - i) → i < n → f cur ≡ r → (r ≡ v → ⊥) → returns_to f n v ≡ back_in f v r (n - (i + 1))
turn f n v cur i r so lt to miss = so ∙ back_miss f n i v cur lt (λ m. miss (sym to ∙ m)) ∙ ap (λ x. back_in f v x (n - (i + 1))) to

pub loop-init : goal.loop-init
loop-init c = (c.requires, back_first _ _ _)

pub returns-in_default : goal.returns-in_default
returns-in_default c =
    let n = c.args.self.now.nodes in
    sym (turn _ n _ _ _ n c.loop.invariant.1 c.loop-test.true (end_read _ _ _ c.loop.invariant.0 c.in_default.is) (λ m. omega (arith, m, c.requires))
    ∙ back_ended _ _ (row_ends _ _) _ _ _ c.requires (omega arith))

pub returns-then-cur-v : goal.returns-then-cur-v
returns-then-cur-v c =
    sym (c.loop.invariant.1 ∙ back_hit _ _ _ _ _ c.loop-test.true (next_read _ _ _ _ c.loop.invariant.0 c.in-Some.is ∙ sym c.from-cur.ensures ∙ c.if-cur-v.true))

pub returns-then-self-cur : goal.returns-then-self-cur
returns-then-self-cur c =
    sym (turn _ _ _ _ _ _ c.loop.invariant.1 c.loop-test.true (next_read _ _ _ _ c.loop.invariant.0 c.in-Some.is ∙ sym c.from-cur.ensures) c.if-cur-v.false
    ∙ back_ended _ _ (row_ends _ _) _ _ _ c.requires (omega (arith, c.if-self-cur.true)))

pub loop-preserved : goal.loop-preserved
loop-preserved c = (
  omega (arith, c.if-self-cur.false),
  turn _ _ _ _ _ _ c.loop.invariant.1 c.loop-test.true (next_read _ _ _ _ c.loop.invariant.0 c.in-Some.is ∙ sym c.from-cur.ensures) c.if-cur-v.false,
)

pub returns : goal.returns
returns c = sym (c.loop.invariant.1 ∙ back_none _ _ _ _ _ c.loop-test.false)
