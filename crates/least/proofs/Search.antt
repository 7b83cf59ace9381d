-- The least header that passes a test, found from its high bits down; and the pattern of a prefix.
use mathlib.Core.Path.{◌≡◌, refl, sym, ap, ap₂, ◌∙◌, subst}
use mathlib.Core.Logic.{◌↔◌}
use mathlib.Core.Bool.{Bool, true, false, cond}
use Prim.Native.Nat.{ℕ, zero, suc, ◌+◌, ◌-◌, ◌*◌, ◌/◌, ◌%◌, ◌^◌, ◌≤◌, ◌<◌, zero-le}
use native.Mathlib.Nat.{mod-eq_of_lt, div-one, div-eq_of_lt, eq_of_mul-eq-mul_right, pow-suc, mul_assoc, add-mul, one-mul, mul-lt-mul_of_pos_right}
use native.Mathlib.Numerals.{add-one}
use native.Mathlib.Omega.{arith}
use lib.Dec.{T}
use lib.Pow.{pow-add, pow_pos, pow-lt, pow_mono, shr_lt, shr-shr, shl-shr}
use lib.Bits.{bit_and, and_high}
use Rattle.pattern.specs.declared.Pattern.{Pattern}
use Rattle.pattern.specs.Filters.{hits, WellFormed}
use Rattle.pattern.proofs.Within.{pair, hits_says}
use Rattle.least.specs.Steps.{prefix, search}

-- ---- the pattern of a prefix

module _ (w k m : ℕ) (le : k ≤ w) where
  whole : w - k + k ≡ w
  whole = omega arith

  high : (h : ℕ) → bit_and h (2 ^ w - 2 ^ k) ≡ h / 2 ^ k % 2 ^ (w - k) * 2 ^ k
  high h = ap (λ (x : ℕ). bit_and h (2 ^ x - 2 ^ k)) (sym whole) ∙ and_high h (w - k) k

  pub top_lt : (h : ℕ) → h < 2 ^ w → h / 2 ^ k < 2 ^ (w - k)
  top_lt h l = shr_lt (w - k) k (subst (λ (x : ℕ). h < 2 ^ x) (sym whole) l)

  pub prefix-hits : (h : ℕ) → h < 2 ^ w → T (hits (prefix w k m) h) ↔ (h / 2 ^ k ≡ m)
  prefix-hits h l = (
    λ t. eq_of_mul-eq-mul_right (2 ^ k) (pow_pos k) (h / 2 ^ k) m (sym here ∙ (hits_says (prefix w k m) h).0 t),
    λ e. (hits_says (prefix w k m) h).1 (here ∙ ap (λ (x : ℕ). x * 2 ^ k) e),
  )
    where
      here : bit_and h (2 ^ w - 2 ^ k) ≡ h / 2 ^ k * 2 ^ k
      here = high h ∙ ap (λ (x : ℕ). x * 2 ^ k) (mod-eq_of_lt (top_lt h l))

  pub prefix_formed : m < 2 ^ (w - k) → WellFormed w (prefix w k m)
  prefix_formed l = (
    omega (arith, pow_pos k, pow_pos w),
    high (m * 2 ^ k) ∙ ap (λ (x : ℕ). x % 2 ^ (w - k) * 2 ^ k) (shl-shr m k) ∙ ap (λ (x : ℕ). x * 2 ^ k) (mod-eq_of_lt l),
  )

-- ---- the search

-- the headers that pass have m or more in their bits from k on, and some have m
abbrev pub From : (ℕ → Bool) → ℕ → ℕ → ℕ → Type 0
From t n k m = ((h : ℕ) × (h < n) × T (t h) × (h / 2 ^ k ≡ m)) × ((h : ℕ) → h < n → T (t h) → m ≤ h / 2 ^ k)

halve : (h k : ℕ) → h / 2 ^ suc k ≡ h / 2 ^ k / 2
halve h k = ap (λ (x : ℕ). h / 2 ^ x) (sym (add-one k)) ∙ sym (shr-shr h k 1)

from_first : (t : ℕ → Bool) (k h : ℕ) → h < 2 ^ k → T (t h) → From t (2 ^ k) k 0
from_first t k h l s = ((h, l, s, div-eq_of_lt l), λ g _ _. zero-le)

-- some that pass have a 0 next
from_low : (t : ℕ → Bool) (n k m : ℕ) → From t n (suc k) m → (h : ℕ) → h < n → T (t h) → h / 2 ^ k ≡ m * 2 → From t n k (m * 2)
from_low t n k m s h l p e = ((h, l, p, e), λ g j u. twice (g / 2 ^ k) (g / 2 ^ suc k) (s.1 g j u) (halve g k))
  where
    twice : (x y : ℕ) → m ≤ y → y ≡ x / 2 → m * 2 ≤ x
    twice x y a b = omega arith

-- none has
from_high : (t : ℕ → Bool) (n k m : ℕ) → From t n (suc k) m → ((h : ℕ) → h < n → T (t h) → h / 2 ^ k ≡ m * 2 → ⊥) → From t n k (m * 2 + 1)
from_high t n k m s no-low = (
  (s.0.0, s.0.1, s.0.2, other (s.0.0 / 2 ^ k) (sym (halve s.0.0 k) ∙ s.0.3) (no-low s.0.0 s.0.1 s.0.2)),
  λ g j u. above (g / 2 ^ k) (g / 2 ^ suc k) (s.1 g j u) (halve g k) (no-low g j u),
)
  where
    other : (x : ℕ) → x / 2 ≡ m → (x ≡ m * 2 → ⊥) → x ≡ m * 2 + 1
    other x a b = omega arith

    above : (x y : ℕ) → m ≤ y → y ≡ x / 2 → (x ≡ m * 2 → ⊥) → m * 2 + 1 ≤ x
    above x y a b c = omega arith

-- the test on prefixes tells whether some header that passes stands under the prefix
abbrev pub Tells : (Pattern → Bool) → (ℕ → Bool) → ℕ → Type 0
Tells some t w = (P : Pattern) → WellFormed w P → T (some P) ↔ ((h : ℕ) × (h < 2 ^ w) × T (hits P h) × T (t h))

module _ (some : Pattern → Bool) (t : ℕ → Bool) (w : ℕ) (tells : Tells some t w) where
  searched : (k m : ℕ) → k ≤ w → From t (2 ^ w) k m → From t (2 ^ w) 0 (search some w k m)
  unfolding search
  searched zero m le s = s
  searched (suc k) m le s = go (some (prefix w k (m * 2))) refl (searched k (m * 2) below) (searched k (m * 2 + 1) below)
    where
      below : k ≤ w
      below = omega arith

      formed : WellFormed w (prefix w k (m * 2))
      formed = prefix_formed w k (m * 2) below (less (s.0.0 / 2 ^ k) (sym (halve s.0.0 k) ∙ s.0.3) (top_lt w k (m * 2) below s.0.0 s.0.1))
        where
          less : (x : ℕ) → x / 2 ≡ m → x < 2 ^ (w - k) → m * 2 < 2 ^ (w - k)
          less x e l = omega arith

      go : (b : Bool) → some (prefix w k (m * 2)) ≡ b → (From t (2 ^ w) k (m * 2) → From t (2 ^ w) 0 (search some w k (m * 2)))
          → (From t (2 ^ w) k (m * 2 + 1) → From t (2 ^ w) 0 (search some w k (m * 2 + 1)))
          → From t (2 ^ w) 0 (cond b (search some w k (m * 2)) (search some w k (m * 2 + 1)))
      go true e low high =
          let h = (tells (prefix w k (m * 2)) formed).0 (subst T (sym e) tt) in
          low (from_low t (2 ^ w) k m s h.0 h.1 h.3 ((prefix-hits w k (m * 2) below h.0 h.1).0 h.2))
      go false e low high =
          high (from_high t (2 ^ w) k m s
          (λ h l p q. subst T e ((tells (prefix w k (m * 2)) formed).1 (h, l, (prefix-hits w k (m * 2) below h l).1 q, p))))

  -- what the search finds is the least header that passes, where one does
  pub search_least : (h : ℕ) → h < 2 ^ w → T (t h)
      → (search some w w 0 < 2 ^ w) × T (t (search some w w 0)) × ((g : ℕ) → g < 2 ^ w → T (t g) → search some w w 0 ≤ g)
  search_least h l p = (
    subst (λ (x : ℕ). x < 2 ^ w) same s.0.1,
    subst (λ (x : ℕ). T (t x)) same s.0.2,
    λ g lt u. omega (arith, s.1 g lt u, div-one g),
  )
    where
      s : From t (2 ^ w) 0 (search some w w 0)
      s = searched w 0 (omega arith) (from_first t w h l p)

      same : s.0.0 ≡ search some w w 0
      same = sym (div-one s.0.0) ∙ s.0.3

-- ---- the search, a bit at a time

-- With `left` bits to go, the bits found are those of a prefix m, and the search from m is the whole search.
pub record Found (some : Pattern → Bool) (w left care value : ℕ) : Type 0 where
  pub short : w ≤ 32
  pub upto : left ≤ w
  pub cares : care ≡ 2 ^ w - 2 ^ left
  pub m : ℕ
  pub small : m < 2 ^ (w - left)
  pub values : value ≡ m * 2 ^ left
  pub same : search some w w 0 ≡ search some w left m

pub found_all : {some : Pattern → Bool} {w left care value : ℕ} → Found some w left care value → left ≤ 0 → value ≡ search some w w 0
unfolding search
found_all {some} {w} {left} s h =
    s.values ∙ ap (λ (k : ℕ). s.m * 2 ^ k) none ∙ omega arith ∙ sym (s.same ∙ ap (λ (k : ℕ). search some w k s.m) none)
  where
    none : left ≡ 0
    none = omega arith

-- The next bit: the prefix with a 0 there is asked.
module _ {some : Pattern → Bool} {w left care value : ℕ} (s : Found some w left care value) (more : 0 < left) where
  -- a one, shifted to its place in 32 bits
  abbrev pub bit : ℕ
  bit = 1 * 2 ^ (left - 1) % 2 ^ 32

  is : bit ≡ 2 ^ (left - 1)
  is = ap (λ (x : ℕ). x % 2 ^ 32) (one-mul (2 ^ (left - 1))) ∙ mod-eq_of_lt (pow-lt {i = left - 1} {j = 32} (omega (arith, s.short, s.upto)))

  up : left ≡ suc (left - 1)
  up = omega arith

  twice : 2 ^ left ≡ 2 * 2 ^ (left - 1)
  twice = ap (λ (x : ℕ). 2 ^ x) up ∙ omega (arith, pow-suc 2 (left - 1))

  next_care : care + bit ≡ 2 ^ w - 2 ^ (left - 1)
  next_care = omega (arith, s.cares, is, twice, pow_mono {i = left} {j = w} s.upto)

  next_value : value ≡ s.m * 2 * 2 ^ (left - 1)
  next_value = s.values ∙ ap (λ (x : ℕ). s.m * x) twice ∙ sym (mul_assoc s.m 2 (2 ^ (left - 1)))

  high_small : s.m * 2 + 1 < 2 ^ (w - (left - 1))
  high_small = omega (arith, s.small, ap (λ (x : ℕ). 2 ^ x) wider, pow-suc 2 (w - left))
    where
      wider : w - (left - 1) ≡ suc (w - left)
      wider = omega (arith, s.upto)

  high_value : value + bit ≡ (s.m * 2 + 1) * 2 ^ (left - 1)
  high_value =
      ap₂ (λ (x y : ℕ). x + y) next_value (is ∙ sym (one-mul (2 ^ (left - 1)))) ∙ sym (add-mul (s.m * 2) 1 (2 ^ (left - 1)))

  pub care_fits : care + bit < 2 ^ w
  care_fits = omega (arith, next_care, pow_pos (left - 1), pow_pos w)

  pub value_fits : value + bit < 2 ^ w
  value_fits =
      subst (λ (x : ℕ). x < 2 ^ w) (sym high_value)
      (subst (λ (x : ℕ). (s.m * 2 + 1) * 2 ^ (left - 1) < 2 ^ x) all
      (subst (λ (x : ℕ). (s.m * 2 + 1) * 2 ^ (left - 1) < x) (sym (pow-add 2 (w - (left - 1)) (left - 1))) (mul-lt-mul_of_pos_right high_small (pow_pos (left - 1)))))
    where
      all : w - (left - 1) + (left - 1) ≡ w
      all = omega (arith, s.upto)

  abbrev pub asked : Pattern
  asked = record { care = care + bit; value = value }

  is_prefix : asked ≡ prefix w (left - 1) (s.m * 2)
  is_prefix = pair next_care next_value

  pub asked_formed : WellFormed w asked
  asked_formed = subst (WellFormed w) (sym is_prefix) (prefix_formed w (left - 1) (s.m * 2) (omega (arith, s.upto)) (omega (arith, high_small)))

  step : (b : Bool) → b ≡ some asked → search some w w 0 ≡ cond b (search some w (left - 1) (s.m * 2)) (search some w (left - 1) (s.m * 2 + 1))
  unfolding search
  step b t =
      s.same
      ∙ ap (λ (x : ℕ). search some w x s.m) up
      ∙ ap (λ (b : Bool). cond b (search some w (left - 1) (s.m * 2)) (search some w (left - 1) (s.m * 2 + 1))) (ap some (sym is_prefix) ∙ sym t)

  pub found_low : true ≡ some asked → Found some w (left - 1) (care + bit) value
  found_low t = record {
    short = s.short;
    upto = omega (arith, s.upto);
    cares = next_care;
    m = s.m * 2;
    small = omega (arith, high_small);
    values = next_value;
    same = step true t;
  }

  pub found_high : false ≡ some asked → Found some w (left - 1) (care + bit) (value + bit)
  found_high t = record {
    short = s.short;
    upto = omega (arith, s.upto);
    cares = next_care;
    m = s.m * 2 + 1;
    small = high_small;
    values = high_value;
    same = step false t;
  }
