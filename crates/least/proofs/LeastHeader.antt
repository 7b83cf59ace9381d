-- What the code computes is the least header whose class passes the test.
use mathlib.Core.Path.{◌≡◌, refl, sym, ap, ap₂, ◌∙◌, subst}
use mathlib.Core.Bool.{Bool}
use mathlib.Core.List.{List, [], ◌∷◌, ◌++◌, map}
use Prim.Native.Nat.{ℕ, zero, suc, ◌+◌, ◌^◌, ◌≤◌, ◌<◌}
use native.Mathlib.Omega.{arith}
use native.Mathlib.Nat.{add-zero}
use native.Mathlib.Numerals.{add-one}
use lib.Dec.{T}
use lib.ListN.{get_or, take, drop, length}
use lib.Seq.{get_or-drop, drop-drop}
use Rattle.std.proofs.lemmas.List.{get_or-take, length-take-le}
use Rattle.pattern.specs.declared.Pattern.{Pattern}
use Rattle.pattern.specs.Filters.{hits, WellFormed}
use Rattle.pattern.proofs.Within.{pair}
use Rattle.classes.specs.Classes.{Entry, pat_of, class_list}
use Rattle.classes.specs.Given.{patterns_from, AllWellFormed}
use Rattle.classes.proofs.Tally.{pats, list_has}
use Rattle.least.specs.Counting.{recount, Enough}
use Rattle.least.specs.Steps.{some_of, search}
use Rattle.least.proofs.Counts.{counted, recount_is, recount_enough}
use Rattle.least.proofs.Marked.{Marked, some_found, some_there}
use Rattle.least.proofs.Search.{Tells, search_least}
use Rattle.least.proofs.ClassEnds.{class_ends}

-- ---- the classes' patterns and the marks where they stand in lists

-- of a list that goes on with x ∷ l from place j: what stands at j, and how it goes on
pub head_at : (xs l : List ℕ) (x j : ℕ) → drop j xs ≡ x ∷ l → get_or xs j 0 ≡ x
head_at xs l x j e = ap (λ (i : ℕ). get_or xs i 0) (sym (add-zero j)) ∙ sym (get_or-drop j xs 0 0) ∙ ap (λ (m : List ℕ). get_or m 0 0) e

pub tail_at : (xs l : List ℕ) (x j : ℕ) → drop j xs ≡ x ∷ l → drop (suc j) xs ≡ l
tail_at xs l x j e = ap (λ (i : ℕ). drop i xs) (sym (add-one j)) ∙ sym (drop-drop 1 j xs) ∙ ap (drop 1) e

-- the patterns whose care masks and values stand in two lists from place j on
pub patterns_stand : (K : List Pattern) (cs vs r s : List ℕ) (j : ℕ) → drop j cs ≡ map (λ p. p.care) K ++ r → drop j vs ≡ map (λ p. p.value) K ++ s
    → patterns_from cs vs j (length K) ≡ K
unfolding patterns_from
patterns_stand [] cs vs r s j e f = refl
patterns_stand (p ∷ K) cs vs r s j e f =
    ap₂ (λ (q : Pattern) (L : List Pattern). q ∷ L)
    (pair (head_at cs (map (λ p. p.care) K ++ r) p.care j e) (head_at vs (map (λ p. p.value) K ++ s) p.value j f))
    (patterns_stand K cs vs r s (suc j) (tail_at cs (map (λ p. p.care) K ++ r) p.care j e) (tail_at vs (map (λ p. p.value) K ++ s) p.value j f))

-- the first n of two lists hold the n patterns that stand first there
cut_alike : (cs vs : List ℕ) (n j m : ℕ) → j + m ≤ n → patterns_from (take n cs) (take n vs) j m ≡ patterns_from cs vs j m
unfolding patterns_from
cut_alike cs vs n j zero h = refl
cut_alike cs vs n j (suc m) h =
    ap₂ (λ (q : Pattern) (L : List Pattern). q ∷ L)
    (pair (get_or-take n cs j 0 (omega arith)) (get_or-take n vs j 0 (omega arith)))
    (cut_alike cs vs n (suc j) m (omega arith))

pub patterns_cut : (cs vs : List ℕ) (n : ℕ) → n ≤ length cs → patterns_from (take n cs) (take n vs) 0 (length (take n cs)) ≡ patterns_from cs vs 0 n
patterns_cut cs vs n h = ap (patterns_from (take n cs) (take n vs) 0) (length-take-le n cs h) ∙ cut_alike cs vs n 0 n (omega arith)

pub marks_are : (goes : Pattern → Bool) (K : List Pattern) (marks r : List Bool) → marks ≡ map goes K ++ r → Marked goes marks K
marks_are goes K marks r e = subst (λ (l : List Bool). Marked goes l K) (sym e) (marks_say K)
  where
    marks_say : (K : List Pattern) → Marked goes (map goes K ++ r) K
    marks_say [] = tt
    marks_say (p ∷ K) = (refl, marks_say K)

-- ---- the least header

module _ (w : ℕ) (fs : List Pattern) (good : AllWellFormed w fs) where
  pub class_enough : (P : Pattern) → WellFormed w P → Enough w P (pats (class_list w fs))
  class_enough P f = recount_enough w (pat_of fs) P f (pats (class_list w fs)) (class_ends w fs good)

  module _ (goes : Pattern → Bool) (marks : List Bool) (marked : Marked goes marks (pats (class_list w fs))) where
    abbrev found_under : Pattern → Bool
    found_under P = some_of marks (recount w P (pats (class_list w fs)))

    -- the counts tell whether some header whose class passes stands under a prefix
    pub tells : Tells found_under (λ h. goes (pat_of fs h)) w
    tells P f = (
      λ t. some_found w (pat_of fs) (hits P) goes marks (pats (class_list w fs)) marked (subst (λ (L : List Entry). T (some_of marks L)) counts t),
      λ s. subst (λ (L : List Entry). T (some_of marks L)) (sym counts)
          (some_there w (pat_of fs) (hits P) goes marks (pats (class_list w fs)) marked s.0 s.1 s.2 s.3 (list_has w fs s.0 s.1)),
    )
      where
        counts : recount w P (pats (class_list w fs)) ≡ map (counted w (pat_of fs) (hits P)) (pats (class_list w fs))
        counts = recount_is w (pat_of fs) P f (pats (class_list w fs)) (class_ends w fs good)

    pub least_is : (h : ℕ) → h < 2 ^ w → T (goes (pat_of fs h))
        → (search found_under w w 0 < 2 ^ w) × T (goes (pat_of fs (search found_under w w 0))) × ((g : ℕ) → g < 2 ^ w → T (goes (pat_of fs g)) → search found_under w w 0 ≤ g)
    least_is = search_least found_under (λ h. goes (pat_of fs h)) w tells
