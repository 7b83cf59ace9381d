-- The order of masks (every bit of a is one of b), the low ones, and the complement that the second notation means.
use mathlib.Core.Path.{◌≡◌, refl, sym, ap, ◌∙◌}
use mathlib.Core.Logic.{◌≢◌}
use mathlib.Core.Bool.{Bool, false, not, ◌&&◌, and-false}
use mathlib.Core.List.{[], ◌∷◌}
use Prim.Native.Nat.{ℕ, zero, suc, ◌-◌, ◌/◌, ◌%◌, ◌^◌, ◌≤◌, ◌<◌, zero-le}
use lib.Arith.{lt_of_le-ne}
use lib.Bits.{bit_and, bit_or, and_le_r, and_mask, xor_lt}
use lib.Dec.{ltb, leb-suc-suc}
use lib.Pow.{ones_lt, pow_pos}
use borrow.Author.Tests.{lt-ltb, le-ltb}
use native.Mathlib.Nat.{le_trans, le_of_eq, mod-eq_of_lt, pow-suc, zero-lt-suc}
use native.Mathlib.Omega.{arith}
use Rattle.pattern.specs.Notations.{complement, caring_of, freeing_of, noted_of}
use Rattle.pattern.proofs.Digits.{Ex, var, ◌∩◌, ◌∪◌, ◌≐◌, by_bits, bit, bit_zero, bit_and_lem, bit_xor_lem, pos, odd}

abbrev pub x0 : Ex
x0 = var 0

abbrev pub x1 : Ex
x1 = var 1

abbrev pub x2 : Ex
x2 = var 2

abbrev pub x3 : Ex
x3 = var 3

abbrev pub x4 : Ex
x4 = var 4

pub or_assoc : (a b c : ℕ) → bit_or (bit_or a b) c ≡ bit_or a (bit_or b c)
or_assoc a b c = by_bits (a ∷ b ∷ c ∷ []) [] ((x0 ∪ x1) ∪ x2 ≐ x0 ∪ (x1 ∪ x2)) tt

-- ---- every bit of a is one of b

pub sub_antisym : (a b : ℕ) → bit_and a b ≡ a → bit_and b a ≡ b → a ≡ b
sub_antisym a b = by_bits (a ∷ b ∷ []) ((x0 ∩ x1 ≐ x0) ∷ (x1 ∩ x0 ≐ x1) ∷ []) (x0 ≐ x1) tt

pub sub_le : (a b : ℕ) → bit_and a b ≡ a → a ≤ b
sub_le a b e = le_trans (le_of_eq (sym e)) (and_le_r a b)

pub sub_lt : (a b : ℕ) → bit_and a b ≡ a → a ≢ b → a < b
sub_lt a b e f = lt_of_le-ne (sub_le a b e) f

-- ---- the low w bits

-- A number of w bits has no bit outside the w low ones.
pub low_ones : (w m : ℕ) → m < 2 ^ w → bit_and m (2 ^ w - 1) ≡ m
low_ones w m h = and_mask m w ∙ mod-eq_of_lt h

-- Their digits are ones, and no others are.
pub bit-ones : (k w : ℕ) → bit k (2 ^ w - 1) ≡ ltb k w
unfolding bit
bit-ones zero zero = refl
bit-ones (suc k) zero = bit_zero k ∙ sym (le-ltb (suc k) zero zero-le)
bit-ones zero (suc w) = ap pos (odd w) ∙ sym (lt-ltb zero (suc w) (zero-lt-suc w))
  where
    odd : (w : ℕ) → (2 ^ suc w - 1) % 2 ≡ 1
    odd w = omega (arith, pow-suc 2 w, pow_pos w)
bit-ones (suc k) (suc w) = ap (bit k) (half w) ∙ bit-ones k w ∙ sym (leb-suc-suc (suc k) w)
  where
    half : (w : ℕ) → (2 ^ suc w - 1) / 2 ≡ 2 ^ w - 1
    half w = omega (arith, pow-suc 2 w, pow_pos w)

-- ---- the second notation: a mask's one means free

pub complement_lt : (w m : ℕ) → m < 2 ^ w → complement w m < 2 ^ w
complement_lt w m h = xor_lt w (2 ^ w - 1) m (ones_lt w) h

-- Within the low w bits the care mask has a one where the mask has none ..
pub complement-inside : (w m k : ℕ) → k < w → bit k (complement w m) ≡ not (bit k m)
complement-inside w m k h = bit_xor_lem k (2 ^ w - 1) m ∙ ap (λ (b : Bool). odd b (bit k m)) (bit-ones k w ∙ lt-ltb k w h)

-- .. and above them it has none.
pub complement_outside : (w m k : ℕ) → m < 2 ^ w → w ≤ k → bit k (complement w m) ≡ false
complement_outside w m k l h =
    sym (ap (bit k) (low_ones w (complement w m) (complement_lt w m l)))
    ∙ bit_and_lem k (complement w m) (2 ^ w - 1)
    ∙ ap (λ (b : Bool). bit k (complement w m) && b) (bit-ones k w ∙ le-ltb k w h)
    ∙ and-false (bit k (complement w m))

-- So a filter of the second notation is that of the first with the complement for its mask.
pub freeing_means : (w m v : ℕ) → m < 2 ^ w → freeing_of w m v ≡ caring_of w (complement w m) v
unfolding noted_of
freeing_means w m v h = rw (lt-ltb m (2 ^ w) h, lt-ltb (complement w m) (2 ^ w) (complement_lt w m h))
