-- What is listed: each listed pattern is that of some header, is well formed, and tells which filters its headers match.
use mathlib.Core.Path.{◌≡◌, ap, subst}
use mathlib.Core.Bool.{Bool, cond}
use mathlib.Core.List.{List, [], ◌∷◌}
use Prim.Native.Nat.{ℕ, zero, ◌^◌, ◌<◌}
use native.Mathlib.Omega.{arith}
use lib.Dec.{T}
use Rattle.pattern.specs.declared.Pattern.{Pattern}
use Rattle.pattern.specs.Filters.{hits, within, WellFormed}
use Rattle.pattern.proofs.Within.{Fit, within_says, hits_says}
use Rattle.classes.specs.Classes.{pat_of, same, before, Entry, class_list, among}
use Rattle.classes.specs.Given.{AllWellFormed}
use Rattle.classes.proofs.Counts.{count_some}
use Rattle.classes.proofs.Order.{or_r, is_false, same_says, among_first, before_irrefl, ascending, distinct, before_member, ascending-distinct}
use Rattle.classes.proofs.Partition.{Closed, hits_own}
use Rattle.classes.proofs.Headers.{pat_fit, care_has, pat_closed, care_lt, own_least}
use Rattle.classes.proofs.Tally.{pats, size_at, Proper, size_head, list_sizes, list_proper, listed_size, proper_ascending}

module _ (w : ℕ) (fs : List Pattern) where
  abbrev L : List Entry
  L = class_list w fs

  -- A listed pattern is that of some header.
  pub listed_of : (q : Pattern) → T (among q (pats L)) → (h : ℕ) × (h < 2 ^ w) × (pat_of fs h ≡ q)
  listed_of q m =
      let s = count_some (λ h. same (pat_of fs h) q) (2 ^ w) (subst (λ (n : ℕ). zero < n) (list_sizes w fs q) (listed_size q L (list_proper w fs) m)) in
      (s.0, s.1, (same_says (pat_of fs s.0) q).0 s.2)

  pub listed_fit : (q : Pattern) → T (among q (pats L)) → Fit q
  listed_fit q m = let s = listed_of q m in subst Fit s.2 (pat_fit fs s.0)

  pub listed-good : AllWellFormed w fs → (q : Pattern) → T (among q (pats L)) → WellFormed w q
  listed-good g q m = let s = listed_of q m in subst (WellFormed w) s.2 (care_lt w fs s.0 g, pat_fit fs s.0)

  -- The headers that a listed pattern matches have its cared bits among those of their own patterns.
  pub listed_closed : (q : Pattern) → T (among q (pats L)) → Closed (2 ^ w) fs q
  listed_closed q m =
      let s = listed_of q m in
      subst (Closed (2 ^ w) fs) s.2 (λ k _ t. pat_closed fs s.0 k ((hits_says (pat_of fs s.0) k).0 t))

  -- Of the listed patterns that match a header, its own lies within every other.
  pub listed_least : (h : ℕ) → h < 2 ^ w → (q : Pattern) → T (among q (pats L)) → T (hits q h) → T (within (pat_of fs h) q)
  listed_least h l q m t = (within_says (pat_of fs h) q).1 (own_least (2 ^ w) fs q (listed_closed q m) h l t)

  -- The list ascends, and no pattern stands twice.
  pub list_ascending : T (ascending (pats L))
  list_ascending = proper_ascending L (list_proper w fs)

  pub list_distinct : T (distinct (pats L))
  list_distinct = ascending-distinct (pats L) list_ascending

-- A class's pattern tells which filters its headers match.
pub class-hits : (w : ℕ) (fs : List Pattern) (f : Pattern) → T (among f fs) → (h : ℕ) → h < 2 ^ w → hits f h ≡ within (pat_of fs h) f
class-hits w fs f m h l = hits_own (2 ^ w) fs f (λ k _ t. care_has fs f k m t) h l

-- ---- every entry of a list

abbrev pub Every : (Entry → Type 0) → List Entry → Type 0
Every P [] = Unit
Every P (e ∷ L) = P e × Every P L

-- What holds of the patterns and sizes of a proper list holds of its entries.
pub every_entry : (P : Pattern → ℕ → Type 0) (L : List Entry) → Proper L → ((q : Pattern) → T (among q (pats L)) → P q (size_at q L))
    → Every (λ e. P e.pat e.size) L
every_entry P [] a f = tt
every_entry P (e ∷ L) a f = (
  subst (P e.pat) (size_head e L a.0) (f e.pat (among_first e.pat (pats L))),
  every_entry P L a.2 (λ q m. subst (P q) (skip_head q m) (f q (or_r (same q e.pat) (among q (pats L)) m))),
)
  where
    skip_head : (q : Pattern) → T (among q (pats L)) → size_at q (e ∷ L) ≡ size_at q L
    skip_head q m =
        omega (
          arith,
          ap (λ (b : Bool). cond b e.size 0)
              (is_false (same e.pat q) (λ t. before_irrefl q (subst (λ (u : Pattern). T (before u q)) ((same_says e.pat q).0 t) (before_member e.pat q (pats L) a.0 m)))),
        )
