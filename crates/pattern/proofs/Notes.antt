-- What `filter_of` answers on each of its ways, from the tests that led there.
use mathlib.Core.Path.{◌≡◌}
use mathlib.Core.Bool.{true, false}
use Prim.Native.Nat.{ℕ, ◌-◌, ◌^◌, ◌≤◌, ◌<◌}
use native.Mathlib.Omega.{arith}
use lib.Bits.{bit_and}
use lib.Dec.{ltb}
use lib.Pow.{pow_pos}
use borrow.Author.Tests.{lt-ltb, le-ltb, eq-eqb, ne_eqb}
use Rattle.std.specs.Prelude.{Ok, Err}
use Rattle.pattern.specs.declared.Flaw.TheVariants.{WideMask, WideValue, ValueAtFree}
use Rattle.pattern.specs.Notations.{noted_of}

module _ (w care mask value most : ℕ) (is : most ≡ 2 ^ w - 1) where
  above : (x : ℕ) → most < x → ltb x (2 ^ w) ≡ false
  above x h = le-ltb x (2 ^ w) (omega arith)

  below : (x : ℕ) → x ≤ most → ltb x (2 ^ w) ≡ true
  below x h = lt-ltb x (2 ^ w) (omega (arith, pow_pos w))

  pub wide_mask : most < mask → Err WideMask ≡ noted_of w care mask value
  unfolding noted_of
  wide_mask h = rw (above mask h)

  pub wide_value : mask ≤ most → most < value → Err WideValue ≡ noted_of w care mask value
  unfolding noted_of
  wide_value h l = rw (below mask h, above value l)

  pub fine : mask ≤ most → value ≤ most → bit_and value care ≡ value → Ok (record { care = care; value = value }) ≡ noted_of w care mask value
  unfolding noted_of
  fine h l e = rw (below mask h, below value l, eq-eqb (bit_and value care) value e)

  pub at_free : mask ≤ most → value ≤ most → (bit_and value care ≡ value → ⊥) → Err ValueAtFree ≡ noted_of w care mask value
  unfolding noted_of
  at_free h l f = rw (below mask h, below value l, ne_eqb (bit_and value care) value f)
