-- The number of classes is the length of the class list, and taking in more filters never lessens it.
use mathlib.Core.Path.{◌≡◌, refl, sym, ap, ap₂, ◌∙◌, subst}
use mathlib.Core.Bool.{Bool, true, false, ◌&&◌, cond, beq}
use mathlib.Core.List.{List, [], ◌∷◌, ◌++◌}
use Prim.Native.Nat.{ℕ, zero, suc, ◌+◌, ◌^◌, ◌≤◌, ◌<◌}
use native.Mathlib.Nat.{le_trans, le_of_eq}
use native.Mathlib.Omega.{arith}
use lib.Arith.{le-zero}
use lib.Dec.{T, eqb, eqb→eq}
use lib.ListN.{length}
use Rattle.pattern.specs.declared.Pattern.{Pattern}
use Rattle.pattern.specs.Filters.{hits, count}
use Rattle.pattern.proofs.Tests.{eq→eqb, both, iff_eq, beside}
use Rattle.pattern.proofs.Size.{ind, count_ext}
use Rattle.classes.specs.Classes.{pat_of, same, Entry, class_list, among}
use Rattle.classes.proofs.Counts.{count_mono, first_count}
use Rattle.classes.proofs.Order.{or_r, same_says, same_refl, among_first, distinct}
use Rattle.classes.proofs.Partition.{sum_over, sum_one, exchange}
use Rattle.classes.proofs.Headers.{alike, same_alike}
use Rattle.classes.proofs.Tally.{pats, class_size, list_sizes, list_proper, listed_size, list_has}
use Rattle.classes.proofs.Listed.{list_distinct}

-- No header below h is in h's class.
abbrev pub leads : List Pattern → ℕ → Bool
leads fs h = eqb (count (λ k. alike fs k h) h) 0

-- The number of classes of the headers of w bits: one header leads each.
abbrev pub classes : ℕ → List Pattern → ℕ
classes w fs = count (leads fs) (2 ^ w)

sum_length : (K : List Pattern) → sum_over (λ q. 1) K ≡ length K
sum_length [] = refl
sum_length (q ∷ K) = omega (arith, sum_length K)

pub sum_ext_in : (f g : Pattern → ℕ) (K : List Pattern) → ((q : Pattern) → T (among q K) → f q ≡ g q) → sum_over f K ≡ sum_over g K
sum_ext_in f g [] e = refl
sum_ext_in f g (q ∷ K) e =
    ap₂ (λ (x y : ℕ). x + y) (e q (among_first q K)) (sum_ext_in f g K (λ r m. e r (or_r (same r q) (among r K) m)))

-- a class has one leader if it has a header
one_leader : (n : ℕ) (fs : List Pattern) (q : Pattern) → zero < count (λ h. same (pat_of fs h) q) n → count (λ h. leads fs h && same (pat_of fs h) q) n ≡ 1
one_leader n fs q some =
    count_ext (λ h. leads fs h && same (pat_of fs h) q) (λ h. eqb (count (λ k. same (pat_of fs k) q) h) 0 && same (pat_of fs h) q) n
    (λ h _. beside (leads fs h) (eqb (count (λ k. same (pat_of fs k) q) h) 0) (same (pat_of fs h) q) (λ t. lead h ((same_says (pat_of fs h) q).0 (subst T (sym t) tt))))
    ∙ first_count (λ k. same (pat_of fs k) q) n
    ∙ ap (λ (b : Bool). cond b 0 1) (iff_eq (eqb (count (λ k. same (pat_of fs k) q) n) 0) false
    (λ t. none (count (λ k. same (pat_of fs k) q) n) some (eqb→eq (count (λ k. same (pat_of fs k) q) n) 0 t)) (λ t. absurd t))
  where
    lead : (h : ℕ) → pat_of fs h ≡ q → leads fs h ≡ eqb (count (λ k. same (pat_of fs k) q) h) 0
    lead h e =
        subst (λ (r : Pattern). leads fs h ≡ eqb (count (λ k. same (pat_of fs k) r) h) 0) e
        (ap (λ (c : ℕ). eqb c 0) (count_ext (λ k. alike fs k h) (λ k. same (pat_of fs k) (pat_of fs h)) h (λ k _. sym (same_alike fs k h))))

    none : (m : ℕ) → zero < m → m ≡ 0 → ⊥
    none m p e = omega arith

-- a list of distinct patterns that has every header's, and only those of headers, has one for each class
pub classes-length : (w : ℕ) (fs K : List Pattern) → T (distinct K) → ((h : ℕ) → h < 2 ^ w → T (among (pat_of fs h) K))
    → ((q : Pattern) → T (among q K) → zero < class_size w fs q) → classes w fs ≡ length K
classes-length w fs K d has some =
    exchange K (λ q. true) (leads fs) (λ q h. leads fs h && same (pat_of fs h) q) (2 ^ w) point
    ∙ sum_ext_in (λ q. count (λ h. leads fs h && same (pat_of fs h) q) (2 ^ w)) (λ q. 1) K (λ q m. one_leader (2 ^ w) fs q (some q m))
    ∙ sum_length K
  where
    none : (b s : Bool) → (T s → ⊥) → ind (b && s) ≡ 0
    none b true f = absurd (f tt)
    none true false f = refl
    none false false f = refl

    alone : (b s : Bool) → T s → ind b ≡ ind (b && s)
    alone true true t = refl
    alone false true t = refl
    alone b false t = absurd t

    point : (h : ℕ) → h < 2 ^ w → ind (leads fs h) ≡ sum_over (λ q. ind (leads fs h && same (pat_of fs h) q)) K
    point h l =
        alone (leads fs h) (same (pat_of fs h) (pat_of fs h)) (same_refl (pat_of fs h))
        ∙ sym (sum_one (λ q. ind (leads fs h && same (pat_of fs h) q)) (pat_of fs h) K d (has h l)
        (λ q f. none (leads fs h) (same (pat_of fs h) q) (λ s. f ((same_says (pat_of fs h) q).0 s))))

-- ---- the filters taken in so far make no more classes than all of them

alike-prefix : (fs gs : List Pattern) (h k : ℕ) → T (alike (fs ++ gs) h k) → T (alike fs h k)
alike-prefix [] gs h k t = tt
alike-prefix (f ∷ fs) gs h k t =
    let s = (both (beq (hits f h) (hits f k)) (alike (fs ++ gs) h k)).0 t in
    (both (beq (hits f h) (hits f k)) (alike fs h k)).1 (s.0, alike-prefix fs gs h k s.1)

pub classes-prefix : (w : ℕ) (fs gs : List Pattern) → classes w fs ≤ classes w (fs ++ gs)
classes-prefix w fs gs =
    count_mono (leads fs) (leads (fs ++ gs)) (2 ^ w)
    (λ h _ t. eq→eqb (le-zero (le_trans
    (count_mono (λ k. alike (fs ++ gs) k h) (λ k. alike fs k h) h (λ k _ s. alike-prefix fs gs k h s))
    (le_of_eq (eqb→eq (count (λ k. alike fs k h) h) 0 t)))))

-- ---- the length of the class list

pub pats-length : (L : List Entry) → length (pats L) ≡ length L
pats-length [] = refl
pats-length (e ∷ L) = ap suc (pats-length L)

pub list_length : (w : ℕ) (fs : List Pattern) → length (class_list w fs) ≡ classes w fs
list_length w fs =
    sym (pats-length (class_list w fs))
    ∙ sym (classes-length w fs (pats (class_list w fs)) (list_distinct w fs) (list_has w fs)
    (λ q m. subst (λ (n : ℕ). zero < n) (list_sizes w fs q) (listed_size q (class_list w fs) (list_proper w fs) m)))

-- more filters, no fewer classes
pub list_prefix : (w : ℕ) (fs gs : List Pattern) → length (class_list w fs) ≤ length (class_list w (fs ++ gs))
list_prefix w fs gs = omega (arith, list_length w fs, list_length w (fs ++ gs), classes-prefix w fs gs)
