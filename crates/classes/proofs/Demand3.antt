-- Demand 3, of the class list's own entries: every header is at home at exactly one of them, two headers share a home exactly
-- when no filter tells them apart, and the sizes are true.
use mathlib.Core.Path.{◌≡◌, refl, sym, ap, ◌∙◌, subst}
use mathlib.Core.Logic.{◌↔◌, ◌⊎◌, inl, inr}
use mathlib.Core.Bool.{Bool, true, false, not, ◌&&◌, ◌||◌, cond}
use mathlib.Core.List.{List, [], ◌∷◌}
use Prim.Native.Nat.{ℕ, ◌+◌, ◌^◌, ◌≤◌, ◌<◌}
use native.Mathlib.Omega.{arith}
use lib.Dec.{T, T_not}
use lib.ListN.{length}
use lib.Pow.{pow_pos}
use Rattle.pattern.specs.declared.Pattern.{Pattern}
use Rattle.pattern.specs.Filters.{hits, all_free, within, common, count}
use Rattle.pattern.proofs.Tests.{both, iff_eq}
use Rattle.pattern.proofs.Within.{within_says, within_antisym, within_lt}
use Rattle.pattern.proofs.Size.{count_ext}
use Rattle.classes.specs.Classes.{pat_of, same, before, Entry, class_list, among}
use Rattle.classes.specs.Steps.{sum_if}
use Rattle.classes.proofs.Order.{or_r, or_says, same_says, before_care, among_first, ascending}
use Rattle.classes.proofs.Partition.{own}
use Rattle.classes.proofs.Headers.{pat_none, pat_miss, pat-hit, alike-pat, alike_all, alike-hits, pat-alike}
use Rattle.classes.proofs.Tally.{pats, list_sizes, list_proper, list_total, list_set, listed_size, list_has}
use Rattle.classes.proofs.Listed.{listed_fit, listed_least, list_ascending, Every, every_entry}
use Rattle.classes.proofs.Number.{list_prefix}
use Rattle.classes.proofs.Grow.{list_snoc}

-- ---- the words of the demand, of a list's own entries

-- p lies within every listed pattern that matches h.
abbrev pub least_of : List Entry → Pattern → ℕ → Bool
least_of [] p h = true
least_of (e ∷ L) p h = (not (hits e.pat h) || within p e.pat) && least_of L p h

-- h is at home at p: p matches h, and of the listed patterns that match h it lies within all the others.
abbrev pub home : List Entry → Pattern → ℕ → Bool
home L p h = hits p h && least_of L p h

-- p is the pattern of an entry.
abbrev pub Lists : List Entry → Pattern → Type 0
Lists L p = T (among p (pats L))

abbrev pub total : List Entry → ℕ
total [] = 0
total (e ∷ L) = e.size + total L

-- ---- what they mean

least_says : (L : List Entry) (p : Pattern) (h : ℕ) → T (least_of L p h) → (q : Pattern) → Lists L q → T (hits q h) → T (within p q)
least_says [] p h t q m k = absurd m
least_says (e ∷ L) p h t q m k =
    let s = (both (not (hits e.pat h) || within p e.pat) (least_of L p h)).0 t in
    go (least_says L p h s.1 q) (or_says (same q e.pat) (among q (pats L)) m) (or_says (not (hits e.pat h)) (within p e.pat) s.0)
  where
    go : (Lists L q → T (hits q h) → T (within p q)) → T (same q e.pat) ⊎ Lists L q → T (not (hits e.pat h)) ⊎ T (within p e.pat) → T (within p q)
    go ih (inr l) o = ih l k
    go ih (inl i) (inl n) = absurd (T_not (hits e.pat h) n (subst (λ (r : Pattern). T (hits r h)) ((same_says q e.pat).0 i) k))
    go ih (inl i) (inr o) = subst (λ (r : Pattern). T (within p r)) (sym ((same_says q e.pat).0 i)) o

least_from : (L : List Entry) (p : Pattern) (h : ℕ) → ((q : Pattern) → Lists L q → T (hits q h) → T (within p q)) → T (least_of L p h)
least_from [] p h f = tt
least_from (e ∷ L) p h f =
    (both (not (hits e.pat h) || within p e.pat) (least_of L p h)).1 (
      go (hits e.pat h) (f e.pat (among_first e.pat (pats L))),
      least_from L p h (λ q m. f q (or_r (same q e.pat) (among q (pats L)) m)),
    )
  where
    go : (b : Bool) → (T b → T (within p e.pat)) → T (not b || within p e.pat)
    go true g = g tt
    go false g = tt

-- ---- what a header is listed under: the common part of all filters that it matches

-- Of no filters it is all-free ..
pub all_free_of_none : (h : ℕ) → pat_of [] h ≡ all_free
all_free_of_none = pat_none

-- .. and with one more filter it is the common part with that one where the header matches it, and the same where it does not.
pub common-part : (f : Pattern) (fs : List Pattern) (h : ℕ) → pat_of (f ∷ fs) h ≡ cond (hits f h) (common (pat_of fs h) f) (pat_of fs h)
common-part f fs h = go (hits f h) refl
  where
    go : (b : Bool) → hits f h ≡ b → pat_of (f ∷ fs) h ≡ cond b (common (pat_of fs h) f) (pat_of fs h)
    go true e = pat-hit f fs h e
    go false e = pat_miss f fs h e

module _ (w : ℕ) (fs : List Pattern) where
  -- ---- the home of a header is the pattern that it is listed under

  pub own_home : (h : ℕ) → h < 2 ^ w → T (home (class_list w fs) (pat_of fs h) h)
  own_home h l =
      (both (hits (pat_of fs h) h) (least_of (class_list w fs) (pat_of fs h) h)).1
      (own fs h, least_from (class_list w fs) (pat_of fs h) h (λ q m t. listed_least w fs h l q m t))

  pub home_own : (h : ℕ) → h < 2 ^ w → (p : Pattern) → Lists (class_list w fs) p → T (home (class_list w fs) p h) → p ≡ pat_of fs h
  home_own h l p m t =
      let s = (both (hits p h) (least_of (class_list w fs) p h)).0 t in
      within_antisym p (pat_of fs h) (listed_fit w fs p m)
      ((within_says p (pat_of fs h)).0 (least_says (class_list w fs) p h s.1 (pat_of fs h) (list_has w fs h l) (own fs h)))
      ((within_says (pat_of fs h) p).0 (listed_least w fs h l p m s.0))

  home_same : (h : ℕ) → h < 2 ^ w → (p : Pattern) → Lists (class_list w fs) p → home (class_list w fs) p h ≡ same (pat_of fs h) p
  home_same h l p m =
      iff_eq (home (class_list w fs) p h) (same (pat_of fs h) p)
      (λ t. (same_says (pat_of fs h) p).1 (sym (home_own h l p m t)))
      (λ t. subst (λ (q : Pattern). T (home (class_list w fs) q h)) ((same_says (pat_of fs h) p).0 t) (own_home h l))

  -- ---- Demand 3

  -- Of the entries that match a header exactly one lies within all the others: its home.
  pub one-home : (h : ℕ) → h < 2 ^ w
      → (p : Pattern) × Lists (class_list w fs) p × T (home (class_list w fs) p h)
      × ((q : Pattern) → Lists (class_list w fs) q → T (home (class_list w fs) q h) → q ≡ p)
  one-home h l = (pat_of fs h, list_has w fs h l, own_home h l, home_own h l)

  -- Two headers have one home exactly when no filter matches one and misses the other.
  pub shared-home : (h k : ℕ) → h < 2 ^ w → k < 2 ^ w → (p q : Pattern)
      → Lists (class_list w fs) p → T (home (class_list w fs) p h) → Lists (class_list w fs) q → T (home (class_list w fs) q k)
      → (p ≡ q) ↔ ((f : Pattern) → T (among f fs) → hits f h ≡ hits f k)
  shared-home h k lh lk p q mp tp mq tq =
      let hp = home_own h lh p mp tp in
      let kq = home_own k lk q mq tq in (
        λ e. alike-hits fs h k (pat-alike fs h k (sym hp ∙ e ∙ kq)),
        λ e. hp ∙ alike-pat fs h k (alike_all fs h k e) ∙ sym kq,
      )

  -- An entry's size is the number of headers at home there.
  pub true_sizes : Every (λ e. e.size ≡ count (home (class_list w fs) e.pat) (2 ^ w)) (class_list w fs)
  true_sizes =
      every_entry (λ q n. n ≡ count (home (class_list w fs) q) (2 ^ w)) (class_list w fs) (list_proper w fs)
      (λ q m. list_sizes w fs q ∙ sym (count_ext (home (class_list w fs) q) (λ h. same (pat_of fs h) q) (2 ^ w) (λ h l. home_same h l q m)))

  -- No entry is empty.
  pub none_empty : Every (λ e. 0 < e.size) (class_list w fs)
  none_empty = every_entry (λ q n. 0 < n) (class_list w fs) (list_proper w fs) (λ q m. listed_size q (class_list w fs) (list_proper w fs) m)

  -- The sizes add up to the number of all headers.
  pub all_sizes : total (class_list w fs) ≡ 2 ^ w
  all_sizes = sums (class_list w fs) ∙ list_total w fs
    where
      sums : (L : List Entry) → total L ≡ sum_if (λ p. true) L
      sums [] = refl
      sums (e ∷ L) = ap (λ (n : ℕ). e.size + n) (sums L)

  -- There is at least one class.
  pub some_class : 1 ≤ length (class_list w fs)
  some_class = go (class_list w fs) (list_total w fs)
    where
      go : (L : List Entry) → sum_if (λ p. true) L ≡ 2 ^ w → 1 ≤ length L
      go [] e = absurd (omega (arith, e, pow_pos w))
      go (e ∷ L) t = omega arith

  -- The entries stand in the order of care mask, then value.
  pub in_order : T (ascending (pats (class_list w fs)))
  in_order = list_ascending w fs

  -- Every other entry that matches a header comes before its home: the last that matches is its home.
  pub home_last : (h : ℕ) (p q : Pattern) → Lists (class_list w fs) p → T (home (class_list w fs) p h) → Lists (class_list w fs) q → T (hits q h) → (p ≡ q → ⊥) → T (before q p)
  home_last h p q m t n k other =
      before_care q p
      (within_lt p q (listed_fit w fs p m) ((within_says p q).0 (least_says (class_list w fs) p h ((both (hits p h) (least_of (class_list w fs) p h)).0 t).1 q n k)) other)

  -- The list is the same for filters with the same members, entry for entry.
  pub same_members : (gs : List Pattern) → ((f : Pattern) → T (among f fs) ↔ T (among f gs)) → class_list w fs ≡ class_list w gs
  same_members gs e = list_set w fs gs e

  -- Taking in one more filter never lessens the number of classes; so refusal 12 depends on the whole set of filters only.
  pub no_fewer_classes : (f : Pattern) → length (class_list w fs) ≤ length (class_list w (f ∷ fs))
  no_fewer_classes f = omega (arith, list_prefix w fs (f ∷ []), ap length (list_snoc w fs f))
