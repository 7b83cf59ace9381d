-- Containment and common part of patterns, as equations of masks and as what they say of headers.
use mathlib.Core.Path.{◌≡◌, sym, ap, ◌∙◌}
use mathlib.Core.Logic.{◌↔◌, ◌≢◌}
use mathlib.Core.Bool.{Bool, true, ◌&&◌, and-true}
use mathlib.Core.List.{List, [], ◌∷◌}
use Prim.Native.Nat.{ℕ, ◌-◌, ◌<◌, ◌^◌}
use native.Mathlib.Nat.{lt_of_le_of_lt}
use lib.Dec.{T, eqb, eqb→eq}
use lib.Bits.{bit_and, bit_or, bit_xor, and_comm, and_le_r, and_zero_r, or_lt, xor_lt}
use Rattle.pattern.specs.declared.Pattern.{Pattern}
use Rattle.pattern.specs.Filters.{hits, within, agree, common, header_of, all_free}
use Rattle.pattern.proofs.Tests.{eq→eqb, both, iff_eq, beside}
use Rattle.pattern.proofs.Digits.{bit, bit_ext, bit_and_lem, Eqn, ◌∩◌, ◌∪◌, ◌⊻◌, ◌≐◌, by_bits}
use Rattle.pattern.proofs.Masks.{x0, x1, x2, x3, x4, sub_lt, low_ones}

-- two patterns are equal when their care masks and values are
pub pair : {p q : Pattern} → p.care ≡ q.care → p.value ≡ q.value → p ≡ q
pair e f = λ i. record { care = e i; value = f i }

-- p's value has no one at a free bit
abbrev pub Fit : Pattern → Type 0
Fit p = bit_and p.value p.care ≡ p.value

abbrev pub Within : Pattern → Pattern → Type 0
Within p q = (bit_and p.care q.care ≡ q.care) × (bit_and p.value q.care ≡ q.value)

pub within_says : (p q : Pattern) → T (within p q) ↔ Within p q
within_says p q = (
  λ t. let s = (both (eqb (bit_and p.care q.care) q.care) (eqb (bit_and p.value q.care) q.value)).0 t in
      (eqb→eq (bit_and p.care q.care) q.care s.0, eqb→eq (bit_and p.value q.care) q.value s.1),
  λ e. (both (eqb (bit_and p.care q.care) q.care) (eqb (bit_and p.value q.care) q.value)).1 (eq→eqb e.0, eq→eqb e.1),
)

pub hits_says : (p : Pattern) (h : ℕ) → T (hits p h) ↔ (bit_and h p.care ≡ p.value)
hits_says p h = (λ t. eqb→eq (bit_and h p.care) p.value t, λ e. eq→eqb e)

-- Header h matches exactly when h and the value agree at every cared bit.
pub hits_agrees : (p : Pattern) → Fit p → (h : ℕ) → T (hits p h) ↔ ((k : ℕ) → bit k p.care ≡ true → bit k h ≡ bit k p.value)
hits_agrees p fit h = (
  λ t k c. sym (and-true (bit k h)) ∙ ap (λ (b : Bool). bit k h && b) (sym c) ∙ sym (bit_and_lem k h p.care) ∙ ap (bit k) ((hits_says p h).0 t),
  λ e. (hits_says p h).1 (bit_ext (bit_and h p.care) p.value (λ k. bit_and_lem k h p.care ∙ beside (bit k h) (bit k p.value) (bit k p.care) (e k) ∙ sym (bit_and_lem k p.value p.care) ∙ ap (bit k) fit)),
)

-- ---- containment

-- what lies within q hits what q hits
pub within-hits : (p q : Pattern) (h : ℕ) → Within p q → T (hits p h) → T (hits q h)
within-hits p q h i t =
    (hits_says q h).1
    (by_bits (h ∷ p.care ∷ p.value ∷ q.care ∷ q.value ∷ [])
    ((x1 ∩ x3 ≐ x3) ∷ (x2 ∩ x3 ≐ x4) ∷ (x0 ∩ x1 ≐ x2) ∷ [])
    (x0 ∩ x3 ≐ x4) tt i.0 i.1 ((hits_says p h).0 t))

-- and only it does: the two headers that tell are p's value, and p's value with a one at each bit that only q cares for
pub hits-within : (w : ℕ) (p q : Pattern) → Fit p → p.value < 2 ^ w → q.care < 2 ^ w
    → ((h : ℕ) → h < 2 ^ w → T (hits p h) → T (hits q h)) → Within p q
hits-within w p q fit hv hc all = (
  by_bits (p.care ∷ p.value ∷ q.care ∷ q.value ∷ [])
      ((x1 ∩ x0 ≐ x1) ∷ (x1 ∩ x2 ≐ x3) ∷ ((x1 ∪ (x2 ⊻ (x0 ∩ x2))) ∩ x2 ≐ x3) ∷ [])
      (x0 ∩ x2 ≐ x2) tt fit low ((hits_says q top).0 (all top top_lt ((hits_says p top).1 top_hits))),
  low,
)
  where
    low : bit_and p.value q.care ≡ q.value
    low = (hits_says q p.value).0 (all p.value hv ((hits_says p p.value).1 fit))

    top : ℕ
    top = bit_or p.value (bit_xor q.care (bit_and p.care q.care))

    top_lt : top < 2 ^ w
    top_lt =
        or_lt w p.value (bit_xor q.care (bit_and p.care q.care)) hv
        (xor_lt w q.care (bit_and p.care q.care) hc (lt_of_le_of_lt (and_le_r p.care q.care) hc))

    top_hits : bit_and top p.care ≡ p.value
    top_hits =
        by_bits (p.care ∷ p.value ∷ q.care ∷ []) ((x1 ∩ x0 ≐ x1) ∷ [])
        ((x1 ∪ (x2 ⊻ (x0 ∩ x2))) ∩ x0 ≐ x1) tt fit

pub within_refl : (p : Pattern) → Fit p → Within p p
within_refl p fit = (by_bits (p.care ∷ []) [] (x0 ∩ x0 ≐ x0) tt, fit)

pub within_trans : (p q r : Pattern) → Within p q → Within q r → Within p r
within_trans p q r i j = (
  by_bits (p.care ∷ q.care ∷ r.care ∷ []) ((x0 ∩ x1 ≐ x1) ∷ (x1 ∩ x2 ≐ x2) ∷ []) (x0 ∩ x2 ≐ x2) tt i.0 j.0,
  by_bits (p.value ∷ q.care ∷ q.value ∷ r.care ∷ r.value ∷ [])
      ((x1 ∩ x3 ≐ x3) ∷ (x0 ∩ x1 ≐ x2) ∷ (x2 ∩ x3 ≐ x4) ∷ [])
      (x0 ∩ x3 ≐ x4) tt j.0 i.1 j.1,
)

pub within_antisym : (p q : Pattern) → Fit p → Within p q → Within q p → p ≡ q
within_antisym p q fp i j = pair cares values
  where
    cares : p.care ≡ q.care
    cares = by_bits (p.care ∷ q.care ∷ []) ((x0 ∩ x1 ≐ x1) ∷ (x1 ∩ x0 ≐ x0) ∷ []) (x0 ≐ x1) tt i.0 j.0

    values : p.value ≡ q.value
    values = sym fp ∙ ap (bit_and p.value) cares ∙ i.1

-- lying within is exactly containment of the headers of w bits
pub within_contains : (w : ℕ) (p q : Pattern) → Fit p → p.value < 2 ^ w → q.care < 2 ^ w
    → Within p q ↔ ((h : ℕ) → h < 2 ^ w → T (hits p h) → T (hits q h))
within_contains w p q fit hv hc = (λ i h l. within-hits p q h i, hits-within w p q fit hv hc)

-- a header as a pattern lies within what it matches
pub header_within : (w h : ℕ) (p : Pattern) → p.care < 2 ^ w → within (header_of w h) p ≡ hits p h
header_within w h p l = ap (λ (b : Bool). b && hits p h) (iff_eq (eqb (bit_and (2 ^ w - 1) p.care) p.care) true (λ t. tt) (λ t. eq→eqb (and_comm (2 ^ w - 1) p.care ∙ low_ones w p.care l)))

pub all_free-hits : (h : ℕ) → T (hits all_free h)
all_free-hits h = (hits_says all_free h).1 (and_zero_r h)

-- the smaller one of two different patterns has the larger care mask as a number
pub within_lt : (p q : Pattern) → Fit p → Within p q → p ≢ q → q.care < p.care
within_lt p q fit i f =
    sub_lt q.care p.care (by_bits (p.care ∷ q.care ∷ []) ((x0 ∩ x1 ≐ x1) ∷ []) (x1 ∩ x0 ≐ x1) tt i.0)
    (λ e. f (pair (sym e) (values e)))
  where
    values : q.care ≡ p.care → p.value ≡ q.value
    values e = sym fit ∙ ap (bit_and p.value) (sym e) ∙ i.1

-- ---- the common part

-- p and q agree on the bits both care for
abbrev pub Agree : Pattern → Pattern → Type 0
Agree p q = bit_and p.value (bit_and p.care q.care) ≡ bit_and q.value (bit_and p.care q.care)

pub agree_says : (p q : Pattern) → T (agree p q) ↔ Agree p q
agree_says p q = (
  λ t. eqb→eq (bit_and p.value (bit_and p.care q.care)) (bit_and q.value (bit_and p.care q.care)) t,
  λ e. eq→eqb e,
)

-- a header matches both exactly when they agree and it matches the common part
pub common-hits : (p q : Pattern) → Fit p → Fit q → (h : ℕ) → (T (hits p h) × T (hits q h)) ↔ (Agree p q × T (hits (common p q) h))
common-hits p q fp fq h = (
  λ t. (
    by_bits env ((x0 ∩ x1 ≐ x2) ∷ (x0 ∩ x3 ≐ x4) ∷ []) (x2 ∩ (x1 ∩ x3) ≐ x4 ∩ (x1 ∩ x3)) tt ((hits_says p h).0 t.0) ((hits_says q h).0 t.1),
    (hits_says (common p q) h).1
        (by_bits env ((x0 ∩ x1 ≐ x2) ∷ (x0 ∩ x3 ≐ x4) ∷ []) (x0 ∩ (x1 ∪ x3) ≐ x2 ∪ x4) tt ((hits_says p h).0 t.0) ((hits_says q h).0 t.1)),
  ),
  λ t. (
    (hits_says p h).1 (by_bits env premises (x0 ∩ x1 ≐ x2) tt fp fq t.0 ((hits_says (common p q) h).0 t.1)),
    (hits_says q h).1 (by_bits env premises (x0 ∩ x3 ≐ x4) tt fp fq t.0 ((hits_says (common p q) h).0 t.1)),
  ),
)
  where
    env : List ℕ
    env = h ∷ p.care ∷ p.value ∷ q.care ∷ q.value ∷ []

    premises : List Eqn
    premises = (x2 ∩ x1 ≐ x2) ∷ (x4 ∩ x3 ≐ x4) ∷ (x2 ∩ (x1 ∩ x3) ≐ x4 ∩ (x1 ∩ x3)) ∷ (x0 ∩ (x1 ∪ x3) ≐ x2 ∪ x4) ∷ []

pub common_fit : (p q : Pattern) → Fit p → Fit q → Fit (common p q)
common_fit p q =
    by_bits (p.care ∷ p.value ∷ q.care ∷ q.value ∷ []) ((x1 ∩ x0 ≐ x1) ∷ (x3 ∩ x2 ≐ x3) ∷ []) ((x1 ∪ x3) ∩ (x0 ∪ x2) ≐ x1 ∪ x3) tt
