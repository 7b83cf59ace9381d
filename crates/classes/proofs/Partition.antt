-- Headers counted class by class: a count over headers that is a sum over patterns at each header is a sum of counts.
use mathlib.Core.Path.{◌≡◌, refl, sym, ap, ap₂, ◌∙◌, subst}
use mathlib.Core.Bool.{Bool, true, false, not, ◌||◌, cond}
use mathlib.Core.List.{List, [], ◌∷◌}
use Prim.Native.Nat.{ℕ, zero, suc, ◌+◌, ◌<◌}
use native.Mathlib.Nat.{lt-suc_self, lt_trans, add-zero, zero-add}
use native.Mathlib.Omega.{arith}
use lib.Dec.{T, T_not}
use lib.Bits.{bit_and}
use Rattle.pattern.specs.declared.Pattern.{Pattern}
use Rattle.pattern.specs.Filters.{hits, within, count}
use Rattle.pattern.proofs.Tests.{both, iff_eq}
use Rattle.pattern.proofs.Digits.{◌∩◌, ◌≐◌, by_bits}
use Rattle.pattern.proofs.Masks.{x0, x1, x2, x3}
use Rattle.pattern.proofs.Within.{within_says, hits_says, within-hits}
use Rattle.pattern.proofs.Size.{ind}
use Rattle.classes.specs.Classes.{care_of, pat_of, same, among}
use Rattle.classes.proofs.Counts.{cond_zero, cond_add}
use Rattle.classes.proofs.Order.{or_r, same_says, among_first, distinct}

-- ---- sums over a list of patterns

abbrev pub sum_over : (Pattern → ℕ) → List Pattern → ℕ
sum_over g [] = 0
sum_over g (q ∷ K) = g q + sum_over g K

pub sum_ext : (f g : Pattern → ℕ) (K : List Pattern) → ((q : Pattern) → f q ≡ g q) → sum_over f K ≡ sum_over g K
sum_ext f g [] e = refl
sum_ext f g (q ∷ K) e = ap₂ (λ (x y : ℕ). x + y) (e q) (sum_ext f g K e)

pub sum_add : (f g : Pattern → ℕ) (K : List Pattern) → sum_over (λ q. f q + g q) K ≡ sum_over f K + sum_over g K
sum_add f g [] = refl
sum_add f g (q ∷ K) = omega (arith, sum_add f g K)

pub sum_zero : (f : Pattern → ℕ) (K : List Pattern) → ((q : Pattern) → T (among q K) → f q ≡ 0) → sum_over f K ≡ 0
sum_zero f [] e = refl
sum_zero f (q ∷ K) e = omega (arith, e q (among_first q K), sum_zero f K (λ r m. e r (or_r (same r q) (among r K) m)))

-- a sum to which only one member of the list adds
pub sum_one : (f : Pattern → ℕ) (p : Pattern) (K : List Pattern) → T (distinct K) → T (among p K) → ((q : Pattern) → (p ≡ q → ⊥) → f q ≡ 0)
    → sum_over f K ≡ f p
sum_one f p [] d m e = absurd m
sum_one f p (q ∷ K) d m e = go (λ k. sum_one f p K ds.1 k e) (same p q) refl m
  where
    ds : T (not (among q K)) × T (distinct K)
    ds = (both (not (among q K)) (distinct K)).0 d

    go : (T (among p K) → sum_over f K ≡ f p) → (b : Bool) → same p q ≡ b → T (b || among p K) → f q + sum_over f K ≡ f p
    go rest true s t =
        ap₂ (λ (x y : ℕ). x + y) (ap f (sym pq)) (sum_zero f K (λ r k. e r (λ pr. T_not (among q K) ds.0 (subst (λ (u : Pattern). T (among u K)) (sym pr ∙ pq) k))))
        ∙ add-zero (f p)
      where
        pq : p ≡ q
        pq = (same_says p q).0 (subst T (sym s) tt)
    go rest false s t =
        ap₂ (λ (x y : ℕ). x + y) (e q (λ pq. subst T s ((same_says p q).1 pq))) (rest t) ∙ zero-add (f p)

-- ---- a count that is a sum at each header is a sum of counts

pub exchange : (K : List Pattern) (b : Pattern → Bool) (f : ℕ → Bool) (g : Pattern → ℕ → Bool) (n : ℕ)
    → ((h : ℕ) → h < n → ind (f h) ≡ sum_over (λ q. cond (b q) (ind (g q h)) 0) K)
    → count f n ≡ sum_over (λ q. cond (b q) (count (g q) n) 0) K
unfolding count
exchange K b f g zero e = sym (sum_zero (λ q. cond (b q) zero zero) K (λ q _. cond_zero (b q)))
exchange K b f g (suc n) e =
    ap₂ (λ (x y : ℕ). x + y) (exchange K b f g n (λ h l. e h (lt_trans l (lt-suc_self n)))) (e n (lt-suc_self n))
    ∙ sym (sum_add (λ q. cond (b q) (count (g q) n) 0) (λ q. cond (b q) (ind (g q n)) 0) K)
    ∙ sum_ext (λ q. cond (b q) (count (g q) n) 0 + cond (b q) (ind (g q n)) 0) (λ q. cond (b q) (count (g q) n + ind (g q n)) 0) K
    (λ q. sym (cond_add (b q) (count (g q) n) (ind (g q n))))

-- ---- patterns that are closed

-- a header hits its own pattern
pub own : (fs : List Pattern) (h : ℕ) → T (hits (pat_of fs h) h)
own fs h = (hits_says (pat_of fs h) h).1 refl

-- every h that hits q has q's cared bits among those of its pattern
abbrev pub Closed : ℕ → List Pattern → Pattern → Type 0
Closed n fs q = (h : ℕ) → h < n → T (hits q h) → bit_and q.care (care_of fs h) ≡ q.care

-- of a closed p: a header hits p when its own pattern lies within p
pub hits_own : (n : ℕ) (fs : List Pattern) (p : Pattern) → Closed n fs p → (h : ℕ) → h < n → hits p h ≡ within (pat_of fs h) p
hits_own n fs p cl h l =
    iff_eq (hits p h) (within (pat_of fs h) p)
    (λ t. (within_says (pat_of fs h) p).1 (
      by_bits (p.care ∷ care_of fs h ∷ []) ((x0 ∩ x1 ≐ x0) ∷ []) (x1 ∩ x0 ≐ x0) tt (cl h l t),
      by_bits (p.care ∷ care_of fs h ∷ h ∷ p.value ∷ []) ((x0 ∩ x1 ≐ x0) ∷ (x2 ∩ x0 ≐ x3) ∷ []) ((x2 ∩ x1) ∩ x0 ≐ x3) tt (cl h l t) ((hits_says p h).0 t),
    ))
    (λ t. within-hits (pat_of fs h) p h ((within_says (pat_of fs h) p).0 t) (own fs h))
