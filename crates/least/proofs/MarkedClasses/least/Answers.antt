-- `least::MarkedClasses::least` meets its contract: each turn of the loop asks under the prefix with a 0 in the next bit.
use mathlib.Core.Path.{sym, ◌∙◌}
use Prim.Native.Nat.{ℕ, ◌^◌, ◌≤◌, ◌<◌}
use lib.Pow.{pow_mono}
use native.Mathlib.Omega.{arith}
use Rattle.least.proofs.Search.{found_all, care_fits, value_fits, asked_formed, found_low, found_high}
use Rattle.least.proofs.MarkedClasses.least.Goals as goal

-- A number of `width` bits is one of 32.
wide : {w n : ℕ} → w ≤ 32 → n < 2 ^ w → n < 2 ^ 32
wide {w} h l = omega (arith, pow_mono {i = w} {j = 32} h)

pub overflow_add-prefix : goal.overflow_add-prefix
overflow_add-prefix c = record { fits = wide c.args.self.width.short (care_fits c.loop-k.invariant c.loop-k-test.true) }

pub invariant_of-asked : goal.invariant_of-asked
invariant_of-asked c = record { formed = asked_formed c.loop-k.invariant c.loop-k-test.true }

pub overflow_add-prefix-then-not-some : goal.overflow_add-prefix-then-not-some
overflow_add-prefix-then-not-some c = record { fits = wide c.args.self.width.short (value_fits c.loop-k.invariant c.loop-k-test.true) }

pub loop-k-preserved-then-not-some : goal.loop-k-preserved-then-not-some
loop-k-preserved-then-not-some c = found_high c.loop-k.invariant c.loop-k-test.true (sym c.if-not-some.true ∙ c.some.ensures)

pub loop-k-preserved : goal.loop-k-preserved
loop-k-preserved c = found_low c.loop-k.invariant c.loop-k-test.true (sym c.if-not-some.false ∙ c.some.ensures)

pub returns : goal.returns
returns c = found_all c.loop-k.invariant c.loop-k-test.false
