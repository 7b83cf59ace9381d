-- Every end of the class list is one that the counts under a prefix can be taken of.
use mathlib.Core.Path.{◌≡◌, sym, ◌∙◌, subst}
use mathlib.Core.Logic.{◌⊎◌, inl, inr}
use mathlib.Core.Bool.{◌&&◌, ◌||◌}
use mathlib.Core.List.{List, [], ◌∷◌}
use Prim.Native.Nat.{ℕ, ◌^◌, ◌<◌}
use lib.Dec.{T}
use Rattle.pattern.specs.declared.Pattern.{Pattern}
use Rattle.pattern.specs.Filters.{hits, within, WellFormed}
use Rattle.pattern.proofs.Tests.{both, iff_eq}
use Rattle.pattern.proofs.Within.{Within, within_says, within_refl, within_lt}
use Rattle.classes.specs.Classes.{pat_of, same, before, among, class_list}
use Rattle.classes.specs.Given.{AllWellFormed}
use Rattle.classes.proofs.Order.{or_l, or_r, or_says, same_says, among_first, before_asym, before_irrefl, before_care, before_member, before_all, ascending}
use Rattle.classes.proofs.Partition.{hits_own}
use Rattle.classes.proofs.Headers.{pat_fit}
use Rattle.classes.proofs.Tally.{pats, list_has}
use Rattle.classes.proofs.Listed.{listed-good, listed_closed, list_ascending}
use Rattle.least.proofs.Counts.{Ends}

module _ (w : ℕ) (fs : List Pattern) (good : AllWellFormed w fs) where
  -- an end of the list: in order, with every header's pattern that lies within one of it
  abbrev End : List Pattern → Type 0
  End K =
      T (ascending K)
      × ((h : ℕ) → h < 2 ^ w → (q : Pattern) → T (among q K) → Within (pat_of fs h) q → T (among (pat_of fs h) K))
      × ((q : Pattern) → T (among q K) → T (among q (pats (class_list w fs))))

  module _ (p : Pattern) (K : List Pattern) (e : End (p ∷ K)) where
    order : T (before_all p K) × T (ascending K)
    order = (both (before_all p K) (ascending K)).0 e.0

    later : (q : Pattern) → T (among q K) → T (among q (p ∷ K))
    later q m = or_r (same q p) (among q K) m

    apart : (q : Pattern) → T (same q p) → T (among q K) → ⊥
    apart q s m = before_irrefl q (subst (λ (u : Pattern). T (before u q)) (sym ((same_says q p).0 s)) (before_member p q K order.0 m))

    end_tail : End K
    end_tail = (
      order.1,
      λ h l q m i. go h q m i (or_says (same (pat_of fs h) p) (among (pat_of fs h) K) (e.1 h l q (later q m) i)),
      λ q m. e.2 q (later q m),
    )
      where
        go : (h : ℕ) (q : Pattern) → T (among q K) → Within (pat_of fs h) q → T (same (pat_of fs h) p) ⊎ T (among (pat_of fs h) K) → T (among (pat_of fs h) K)
        go h q m i (inr t) = t
        go h q m i (inl t) =
            let is = (same_says (pat_of fs h) p).0 t in
            absurd (before_asym p q (before_member p q K order.0 m)
            (subst (λ (u : Pattern). T (before q u)) is
            (before_care q (pat_of fs h) (within_lt (pat_of fs h) q (pat_fit fs h) i (λ eq. apart q ((same_says q p).1 (sym eq ∙ is)) m)))))

    formed : WellFormed w p
    formed = listed-good w fs good p (e.2 p (among_first p K))

    home : (h : ℕ) → h < 2 ^ w → hits p h ≡ same (pat_of fs h) p || (among (pat_of fs h) K && within (pat_of fs h) p)
    home h l =
        hits_own (2 ^ w) fs p (listed_closed w fs p (e.2 p (among_first p K))) h l
        ∙ iff_eq (within (pat_of fs h) p) (same (pat_of fs h) p || (among (pat_of fs h) K && within (pat_of fs h) p)) there back
      where
        there : T (within (pat_of fs h) p) → T (same (pat_of fs h) p || (among (pat_of fs h) K && within (pat_of fs h) p))
        there t = go (or_says (same (pat_of fs h) p) (among (pat_of fs h) K) (e.1 h l p (among_first p K) ((within_says (pat_of fs h) p).0 t)))
          where
            go : T (same (pat_of fs h) p) ⊎ T (among (pat_of fs h) K) → T (same (pat_of fs h) p || (among (pat_of fs h) K && within (pat_of fs h) p))
            go (inl s) = or_l (same (pat_of fs h) p) (among (pat_of fs h) K && within (pat_of fs h) p) s
            go (inr s) =
                or_r (same (pat_of fs h) p) (among (pat_of fs h) K && within (pat_of fs h) p) ((both (among (pat_of fs h) K) (within (pat_of fs h) p)).1 (s, t))

        back : T (same (pat_of fs h) p || (among (pat_of fs h) K && within (pat_of fs h) p)) → T (within (pat_of fs h) p)
        back t = go (or_says (same (pat_of fs h) p) (among (pat_of fs h) K && within (pat_of fs h) p) t)
          where
            go : T (same (pat_of fs h) p) ⊎ T (among (pat_of fs h) K && within (pat_of fs h) p) → T (within (pat_of fs h) p)
            go (inl s) = (within_says (pat_of fs h) p).1 (subst (Within (pat_of fs h)) ((same_says (pat_of fs h) p).0 s) (within_refl (pat_of fs h) (pat_fit fs h)))
            go (inr s) = ((both (among (pat_of fs h) K) (within (pat_of fs h) p)).0 s).1

  ends : (K : List Pattern) → End K → Ends w (pat_of fs) K
  ends [] e = tt
  ends (p ∷ K) e = (formed p K e, home p K e, λ h _. apart p K e (pat_of fs h), ends K (end_tail p K e))

  pub class_ends : Ends w (pat_of fs) (pats (class_list w fs))
  class_ends = ends (pats (class_list w fs)) (list_ascending w fs, λ h l q m i. list_has w fs h l, λ q m. m)
