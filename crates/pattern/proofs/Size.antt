-- How many headers a pattern holds: 2 to the number of its free bits. And the laws of counting.
use mathlib.Core.Path.{◌≡◌, refl, sym, ap, ap₂, ◌∙◌, subst}
use mathlib.Core.Bool.{Bool, true, false, ◌&&◌, cond}
use Prim.Native.Nat.{ℕ, zero, suc, ◌+◌, ◌-◌, ◌*◌, ◌/◌, ◌%◌, ◌^◌, ◌≤◌, ◌<◌, min}
use native.Mathlib.Nat.{add-zero, zero-sub, pow-suc, mod-lt, zero-lt-suc, lt-suc_self, lt_trans, le_refl, not-suc-le-zero, le_of_suc-le-suc}
use native.Mathlib.Omega.{arith}
use lib.Arith.{lt-one, digits_div, digits_mod}
use lib.Pow.{pow-add, shr_lt}
use native.Mathlib.Numerals.{add-one}
use lib.Dec.{eqb, eqb→eq}
use lib.Bits.{bit_and, and_step, and_shr, and_zero_r}
use lib.Count.{ones, ones_step, ones-le}
use Rattle.pattern.specs.declared.Pattern.{Pattern}
use Rattle.pattern.specs.Filters.{hits, held, WellFormed, count}
use Rattle.pattern.proofs.Tests.{eq→eqb, both, iff_eq}

-- ---- counts

-- 1 where the test passes
abbrev pub ind : Bool → ℕ
ind b = cond b 1 0

pub count_ext : (f g : ℕ → Bool) (n : ℕ) → ((k : ℕ) → k < n → f k ≡ g k) → count f n ≡ count g n
unfolding count
count_ext f g zero e = refl
count_ext f g (suc n) e =
    ap₂ (λ (x y : ℕ). x + y) (count_ext f g n (λ k h. e k (lt_trans h (lt-suc_self n)))) (ap ind (e n (lt-suc_self n)))

-- the even and the odd numbers apart
pub count_double : (f : ℕ → Bool) (n : ℕ) → count f (n * 2) ≡ count (λ k. f (k * 2 + 0)) n + count (λ k. f (k * 2 + 1)) n
unfolding count
count_double f zero = refl
count_double f (suc n) =
    ap (count f) step
    ∙ ap₂ (λ (x y : ℕ). count f (n * 2) + ind (f x) + ind (f y)) (sym (add-zero (n * 2))) odd
    ∙ sums (count f (n * 2)) (count (λ k. f (k * 2 + 0)) n) (count (λ k. f (k * 2 + 1)) n) (ind (f (n * 2 + 0))) (ind (f (n * 2 + 1))) (count_double f n)
  where
    step : suc n * 2 ≡ suc (suc (n * 2))
    step = omega arith

    odd : suc (n * 2) ≡ n * 2 + 1
    odd = omega arith

    sums : (a b c d e : ℕ) → a ≡ b + c → a + d + e ≡ b + d + (c + e)
    sums a b c d e h = omega arith

-- a fixed test beside the test
pub count_fixed : (f : ℕ → Bool) (b : Bool) (n : ℕ) → count (λ k. f k && b) n ≡ cond b (count f n) 0
unfolding count
count_fixed f b zero = none b
  where
    none : (b : Bool) → zero ≡ cond b 0 0
    none true = refl
    none false = refl
count_fixed f b (suc n) = ap (λ (x : ℕ). x + ind (f n && b)) (count_fixed f b n) ∙ one b (f n) (count f n)
  where
    one : (b c : Bool) (m : ℕ) → cond b m 0 + ind (c && b) ≡ cond b (m + ind c) 0
    one true true m = refl
    one true false m = refl
    one false true m = refl
    one false false m = refl

-- ---- a filter's headers, lowest bit first

digit : (x y v : ℕ) → y < 2 → eqb (x * 2 + y) v ≡ eqb x (v / 2) && eqb y (v % 2)
digit x y v h =
    iff_eq (eqb (x * 2 + y) v) (eqb x (v / 2) && eqb y (v % 2))
    (λ t. (both (eqb x (v / 2)) (eqb y (v % 2))).1 (eq→eqb (high (eqb→eq (x * 2 + y) v t)), eq→eqb (low (eqb→eq (x * 2 + y) v t))))
    (λ t. let s = (both (eqb x (v / 2)) (eqb y (v % 2))).0 t in eq→eqb (join (eqb→eq x (v / 2) s.0) (eqb→eq y (v % 2) s.1)))
  where
    high : x * 2 + y ≡ v → x ≡ v / 2
    high e = omega arith

    low : x * 2 + y ≡ v → y ≡ v % 2
    low e = omega arith

    join : x ≡ v / 2 → y ≡ v % 2 → x * 2 + y ≡ v
    join e f = omega arith

-- the header with low bit b and the bits of k above it
and_digit : (k b c : ℕ) → b < 2 → bit_and (k * 2 + b) c ≡ bit_and k (c / 2) * 2 + min b (c % 2)
and_digit k b c h =
    and_step (k * 2 + b) c
    ∙ ap₂ (λ (x y : ℕ). bit_and x (c / 2) * 2 + min y (c % 2)) (digits_div k h) (digits_mod k h)

half_fit : (v c : ℕ) → bit_and v c ≡ v → bit_and (v / 2) (c / 2) ≡ v / 2
half_fit v c e = sym (and_shr v c 1) ∙ ap (λ (x : ℕ). x / 2) e

low_fit : (v c : ℕ) → bit_and v c ≡ v → v % 2 ≤ c % 2
low_fit v c e = omega (arith, and_step v c)

branch : (c v b n : ℕ) → b < 2
    → count (λ k. eqb (bit_and (k * 2 + b) c) v) n ≡ cond (eqb (min b (c % 2)) (v % 2)) (count (λ k. eqb (bit_and k (c / 2)) (v / 2)) n) 0
branch c v b n h =
    count_ext (λ k. eqb (bit_and (k * 2 + b) c) v) (λ k. eqb (bit_and k (c / 2)) (v / 2) && eqb (min b (c % 2)) (v % 2)) n
    (λ k _. ap (λ (x : ℕ). eqb x v) (and_digit k b c h) ∙ digit (bit_and k (c / 2)) (min b (c % 2)) v (below k))
    ∙ count_fixed (λ k. eqb (bit_and k (c / 2)) (v / 2)) (eqb (min b (c % 2)) (v % 2)) n
  where
    below : ℕ → min b (c % 2) < 2
    below k = omega arith

-- the two values of the low bit together: twice as many where it is free
low_bit : (x y a : ℕ) → x < 2 → y ≤ x → cond (eqb (min 0 x) y) a 0 + cond (eqb (min 1 x) y) a 0 ≡ a * 2 ^ (1 - x)
low_bit zero zero a h l = omega arith
low_bit zero (suc y) a h l = absurd (not-suc-le-zero l)
low_bit (suc zero) zero a h l = omega arith
low_bit (suc zero) (suc zero) a h l = omega arith
low_bit (suc zero) (suc (suc y)) a h l = absurd (not-suc-le-zero (le_of_suc-le-suc l))
low_bit (suc (suc x)) y a h l = absurd (not-suc-le-zero (le_of_suc-le-suc (le_of_suc-le-suc h)))

pub size : (w c v : ℕ) → c < 2 ^ w → bit_and v c ≡ v → count (λ h. eqb (bit_and h c) v) (2 ^ w) ≡ 2 ^ (w - ones c)
unfolding count
size zero c v hc e =
    ap (λ (x : ℕ). 0 + ind (eqb 0 x)) (sym e ∙ ap (bit_and v) (lt-one hc) ∙ and_zero_r v) ∙ sym (ap (λ (x : ℕ). 2 ^ x) (zero-sub (ones c)))
size (suc w) c v hc e =
    ap (count (λ h. eqb (bit_and h c) v)) (pow-suc 2 w)
    ∙ count_double (λ h. eqb (bit_and h c) v) (2 ^ w)
    ∙ ap₂ (λ (x y : ℕ). x + y) (branch c v 0 (2 ^ w) (zero-lt-suc 1)) (branch c v 1 (2 ^ w) (le_refl 2))
    ∙ low_bit (c % 2) (v % 2) (count (λ k. eqb (bit_and k (c / 2)) (v / 2)) (2 ^ w)) (mod-lt c (zero-lt-suc 1)) (low_fit v c e)
    ∙ ap (λ (x : ℕ). x * 2 ^ (1 - c % 2)) (size w (c / 2) (v / 2) half (half_fit v c e))
    ∙ sym (pow-add 2 (w - ones (c / 2)) (1 - c % 2))
    ∙ ap (λ (x : ℕ). 2 ^ x) free
  where
    half : c / 2 < 2 ^ w
    half = shr_lt w 1 (subst (λ (x : ℕ). c < 2 ^ x) (sym (add-one w)) hc)

    free : w - ones (c / 2) + (1 - c % 2) ≡ suc w - ones c
    free = omega (arith, ones_step c, ones-le w (c / 2) half)

-- a pattern with f free bits holds 2 ^ f headers of the space
pub pattern_size : (w : ℕ) (p : Pattern) → WellFormed w p → count (hits p) (2 ^ w) ≡ held w p
pattern_size w p good = size w p.care p.value good.0 good.1
