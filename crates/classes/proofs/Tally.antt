-- The class list as a tally: its sums are counts of headers, it ascends, no entry is empty, and it is the only such list.
use mathlib.Core.Path.{◌≡◌, refl, sym, ap, ap₂, ◌∙◌, subst}
use mathlib.Core.Logic.{◌↔◌, ◌⊎◌, inl, inr}
use mathlib.Core.Bool.{Bool, true, false, cond}
use mathlib.Core.List.{List, [], ◌∷◌}
use Prim.Native.Nat.{ℕ, zero, suc, ◌+◌, ◌^◌, ◌<◌}
use native.Mathlib.Omega.{arith}
use lib.Dec.{T}
use Rattle.pattern.specs.declared.Pattern.{Pattern}
use Rattle.pattern.specs.Filters.{count}
use Rattle.pattern.proofs.Tests.{both}
use Rattle.pattern.proofs.Size.{ind, count_ext}
use Rattle.classes.specs.Classes.{pat_of, same, before, Entry, entry, tally, tally_all, class_list, among}
use Rattle.classes.specs.Steps.{sum_if}
use Rattle.classes.proofs.Counts.{cond_add, count_same, count-pos}
use Rattle.classes.proofs.Order.{or_l, or_r, or_says, is_true, is_false, same_says, same_refl, before-total, before_irrefl, before_all, ascending, before_all_trans}
use Rattle.classes.proofs.Headers.{pat-set}

-- ---- what is said of a list of entries

abbrev pub pats : List Entry → List Pattern
pats [] = []
pats (e ∷ L) = e.pat ∷ pats L

-- The size listed at q, 0 where q is not listed.
abbrev pub size_at : Pattern → List Entry → ℕ
size_at q L = sum_if (λ p. same p q) L

-- Ascending, and no entry is empty.
abbrev pub Proper : List Entry → Type 0
Proper [] = Unit
Proper (e ∷ L) = T (before_all e.pat (pats L)) × (zero < e.size) × Proper L

-- How many headers of w bits have pattern q.
abbrev pub class_size : ℕ → List Pattern → Pattern → ℕ
class_size w fs q = count (λ h. same (pat_of fs h) q) (2 ^ w)

-- ---- sums

pub sum_tally : (t : Pattern → Bool) (p : Pattern) (n : ℕ) (L : List Entry) → sum_if t (tally p n L) ≡ sum_if t L + cond (t p) n 0
sum_tally t p n [] = omega arith
sum_tally t p n (e ∷ L) = go (sum_tally t p n L) (before p e.pat) (same p e.pat) refl
  where
    go : sum_if t (tally p n L) ≡ sum_if t L + cond (t p) n 0 → (a b : Bool) → same p e.pat ≡ b
        → sum_if t (cond a (entry p n ∷ e ∷ L) (cond b (entry e.pat (e.size + n) ∷ L) (e ∷ tally p n L))) ≡ cond (t e.pat) e.size 0 + sum_if t L + cond (t p) n 0
    go ih true b s = omega arith
    go ih false true s =
        omega (
          arith,
          cond_add (t e.pat) e.size n,
          ap (λ (q : Pattern). cond (t q) n 0) ((same_says p e.pat).0 (subst T (sym s) tt)),
        )
    go ih false false s = omega arith

-- every sum over the tally is a count
pub sum_all : (t : Pattern → Bool) (g : ℕ → Pattern) (n : ℕ) → sum_if t (tally_all g n) ≡ count (λ h. t (g h)) n
unfolding tally_all count
sum_all t g zero = refl
sum_all t g (suc n) = sum_tally t (g n) 1 (tally_all g n) ∙ ap (λ (x : ℕ). x + ind (t (g n))) (sum_all t g n)

-- ---- order

pub before-tally : (a p : Pattern) (n : ℕ) (L : List Entry) → T (before a p) → T (before_all a (pats L)) → T (before_all a (pats (tally p n L)))
before-tally a p n [] b h = (both (before a p) true).1 (b, tt)
before-tally a p n (e ∷ L) b h = go (before-tally a p n L b s.1) (before p e.pat) (same p e.pat)
  where
    s : T (before a e.pat) × T (before_all a (pats L))
    s = (both (before a e.pat) (before_all a (pats L))).0 h

    go : T (before_all a (pats (tally p n L))) → (x y : Bool)
        → T (before_all a (pats (cond x (entry p n ∷ e ∷ L) (cond y (entry e.pat (e.size + n) ∷ L) (e ∷ tally p n L)))))
    go ih true y = (both (before a p) (before_all a (pats (e ∷ L)))).1 (b, h)
    go ih false true = h
    go ih false false = (both (before a e.pat) (before_all a (pats (tally p n L)))).1 (s.0, ih)

pub proper_tally : (p : Pattern) (n : ℕ) (L : List Entry) → zero < n → Proper L → Proper (tally p n L)
proper_tally p n [] h r = (tt, h, tt)
proper_tally p n (e ∷ L) h r = go (proper_tally p n L h r.2) (before p e.pat) refl (same p e.pat) refl
  where
    go : Proper (tally p n L) → (x : Bool) → before p e.pat ≡ x → (y : Bool) → same p e.pat ≡ y
        → Proper (cond x (entry p n ∷ e ∷ L) (cond y (entry e.pat (e.size + n) ∷ L) (e ∷ tally p n L)))
    go ih true a y b =
        let u = subst T (sym a) tt in
        ((both (before p e.pat) (before_all p (pats L))).1 (u, before_all_trans p e.pat (pats L) u r.0), h, r)
    go ih false a true b = (r.0, omega arith, r.2)
    go ih false a false b =
        (before-tally e.pat p n L (before-total p e.pat (λ t. subst T a t) (λ q. subst T b ((same_says p e.pat).1 q))) r.0, r.1, ih)

pub proper_all : (g : ℕ → Pattern) (n : ℕ) → Proper (tally_all g n)
unfolding tally_all
proper_all g zero = tt
proper_all g (suc n) = proper_tally (g n) 1 (tally_all g n) (omega arith) (proper_all g n)

-- ---- two proper lists with the same sizes listed are equal

same_self : (p : Pattern) → same p p ≡ true
same_self p = is_true (same p p) (same_refl p)

same_not : (p q : Pattern) → (p ≡ q → ⊥) → same p q ≡ false
same_not p q f = is_false (same p q) (λ t. f ((same_says p q).0 t))

-- nothing is listed at what comes before all
pub none_before : (q : Pattern) (L : List Entry) → T (before_all q (pats L)) → size_at q L ≡ 0
none_before q [] h = refl
none_before q (e ∷ L) h =
    ap₂ (λ (b : Bool) (x : ℕ). cond b e.size 0 + x)
    (same_not e.pat q (λ eq. before_irrefl q (subst (λ (u : Pattern). T (before q u)) eq s.0)))
    (none_before q L s.1)
  where
    s : T (before q e.pat) × T (before_all q (pats L))
    s = (both (before q e.pat) (before_all q (pats L))).0 h

pub size_head : (e : Entry) (L : List Entry) → T (before_all e.pat (pats L)) → size_at e.pat (e ∷ L) ≡ e.size
size_head e L h =
    omega (arith, ap (λ (b : Bool). cond b e.size 0) (same_self e.pat), none_before e.pat L h)

-- p first in K; in a list that p comes before, nothing is listed at p
first : (e d : Entry) (K L : List Entry) → Proper (e ∷ K) → Proper (d ∷ L) → ((q : Pattern) → size_at q (e ∷ K) ≡ size_at q (d ∷ L)) → T (before e.pat d.pat) → ⊥
first e d K L a b s t =
    omega (
      arith,
      size_head e K a.0,
      s e.pat,
      none_before e.pat (d ∷ L)
          ((both (before e.pat d.pat) (before_all e.pat (pats L))).1 (t, before_all_trans e.pat d.pat (pats L) t b.0)),
      a.1,
    )

pub proper_unique : (K L : List Entry) → Proper K → Proper L → ((q : Pattern) → size_at q K ≡ size_at q L) → K ≡ L
proper_unique [] [] a b s = refl
proper_unique [] (d ∷ L) a b s = absurd (omega (arith, s d.pat, size_head d L b.0, b.1))
proper_unique (e ∷ K) [] a b s = absurd (omega (arith, s e.pat, size_head e K a.0, a.1))
proper_unique (e ∷ K) (d ∷ L) a b s = ap₂ (λ (x : Entry) (l : List Entry). x ∷ l) heads (proper_unique K L a.2 b.2 tails)
  where
    pq : e.pat ≡ d.pat
    pq = go (same e.pat d.pat) refl (before e.pat d.pat) refl
      where
        go : (x : Bool) → same e.pat d.pat ≡ x → (y : Bool) → before e.pat d.pat ≡ y → e.pat ≡ d.pat
        go true x y z = (same_says e.pat d.pat).0 (subst T (sym x) tt)
        go false x true z = absurd (first e d K L a b s (subst T (sym z) tt))
        go false x false z =
            absurd (first d e L K b a (λ q. sym (s q)) (before-total e.pat d.pat (λ t. subst T z t) (λ u. subst T x ((same_says e.pat d.pat).1 u))))

    sizes : e.size ≡ d.size
    sizes = sym (size_head e K a.0) ∙ s e.pat ∙ ap (λ (q : Pattern). size_at q (d ∷ L)) pq ∙ size_head d L b.0

    heads : e ≡ d
    heads = λ i. record { pat = pq i; size = sizes i }

    tails : (q : Pattern) → size_at q K ≡ size_at q L
    tails q = omega (arith, s q, ap (λ (x : Entry). cond (same x.pat q) x.size 0) heads)

-- ---- the class list

pub list_sizes : (w : ℕ) (fs : List Pattern) (q : Pattern) → size_at q (class_list w fs) ≡ class_size w fs q
list_sizes w fs q = sum_all (λ p. same p q) (pat_of fs) (2 ^ w)

pub list_proper : (w : ℕ) (fs : List Pattern) → Proper (class_list w fs)
list_proper w fs = proper_all (pat_of fs) (2 ^ w)

-- the only one
pub list_unique : (w : ℕ) (fs : List Pattern) (L : List Entry) → Proper L → ((q : Pattern) → size_at q L ≡ class_size w fs q) → L ≡ class_list w fs
list_unique w fs L a s = proper_unique L (class_list w fs) a (list_proper w fs) (λ q. s q ∙ sym (list_sizes w fs q))

-- the sizes add up
pub list_total : (w : ℕ) (fs : List Pattern) → sum_if (λ p. true) (class_list w fs) ≡ 2 ^ w
list_total w fs = sum_all (λ p. true) (pat_of fs) (2 ^ w) ∙ count_same true (2 ^ w)

-- it depends only on which filters there are
pub list_same : (w : ℕ) (fs gs : List Pattern) → ((h : ℕ) → h < 2 ^ w → pat_of fs h ≡ pat_of gs h) → class_list w fs ≡ class_list w gs
list_same w fs gs e =
    list_unique w gs (class_list w fs) (list_proper w fs)
    (λ q. list_sizes w fs q ∙ count_ext (λ h. same (pat_of fs h) q) (λ h. same (pat_of gs h) q) (2 ^ w) (λ h l. ap (λ (p : Pattern). same p q) (e h l)))

-- in whatever order, and however often
pub list_set : (w : ℕ) (fs gs : List Pattern) → ((f : Pattern) → T (among f fs) ↔ T (among f gs)) → class_list w fs ≡ class_list w gs
list_set w fs gs e = list_same w fs gs (λ h _. pat-set fs gs e h)

-- what is listed

pub listed_size : (q : Pattern) (L : List Entry) → Proper L → T (among q (pats L)) → zero < size_at q L
listed_size q [] a m = absurd m
listed_size q (e ∷ L) a m = go (listed_size q L a.2) (or_says (same q e.pat) (among q (pats L)) m)
  where
    go : (T (among q (pats L)) → zero < size_at q L) → T (same q e.pat) ⊎ T (among q (pats L)) → zero < size_at q (e ∷ L)
    go ih (inl s) =
        let eq = sym ((same_says q e.pat).0 s) in
        omega (arith, a.1, ap (λ (b : Bool). cond b e.size 0) (is_true (same e.pat q) ((same_says e.pat q).1 eq)))
    go ih (inr t) = omega (arith, ih t)

pub unlisted : (q : Pattern) (L : List Entry) → (T (among q (pats L)) → ⊥) → size_at q L ≡ 0
unlisted q [] n = refl
unlisted q (e ∷ L) n =
    omega (
      arith,
      ap (λ (b : Bool). cond b e.size 0)
          (is_false (same e.pat q) (λ t. n (or_l (same q e.pat) (among q (pats L)) ((same_says q e.pat).1 (sym ((same_says e.pat q).0 t)))))),
      unlisted q L (λ m. n (or_r (same q e.pat) (among q (pats L)) m)),
    )

pub list_has : (w : ℕ) (fs : List Pattern) (h : ℕ) → h < 2 ^ w → T (among (pat_of fs h) (pats (class_list w fs)))
list_has w fs h l = go (among (pat_of fs h) (pats (class_list w fs))) refl
  where
    go : (b : Bool) → among (pat_of fs h) (pats (class_list w fs)) ≡ b → T b
    go true e = tt
    go false e =
        absurd (omega (
          arith,
          unlisted (pat_of fs h) (class_list w fs) (λ t. subst T e t),
          list_sizes w fs (pat_of fs h),
          count-pos (λ k. same (pat_of fs k) (pat_of fs h)) (2 ^ w) h l (same_refl (pat_of fs h)),
        ))

-- it ascends
pub proper_ascending : (L : List Entry) → Proper L → T (ascending (pats L))
proper_ascending [] a = tt
proper_ascending (e ∷ L) a = (both (before_all e.pat (pats L)) (ascending (pats L))).1 (a.0, proper_ascending L a.2)
