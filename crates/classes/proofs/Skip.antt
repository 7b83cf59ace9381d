-- A filter that is the common part of the earlier filters that contain it changes no header's pattern, and is passed over.
use mathlib.Core.Path.{◌≡◌, refl, sym, subst}
use mathlib.Core.Bool.{Bool, true, false, cond}
use mathlib.Core.List.{List, [], ◌∷◌}
use Prim.Native.Nat.{ℕ}
use lib.Dec.{T, eqb, eqb→eq}
use lib.Bits.{bit_and, bit_or}
use Rattle.pattern.specs.declared.Pattern.{Pattern}
use Rattle.pattern.specs.Filters.{hits, within, WellFormed}
use Rattle.pattern.proofs.Digits.{none, ◌∩◌, ◌∪◌, ◌≐◌, by_bits}
use Rattle.pattern.proofs.Masks.{x0, x1, x2, x3}
use Rattle.pattern.proofs.Within.{within_says, within-hits}
use Rattle.classes.specs.Classes.{care_of, class_list}
use Rattle.classes.specs.Given.{AllWellFormed}
use Rattle.classes.specs.Steps.{sift, cover, taken_in}
use Rattle.classes.proofs.Headers.{care_pat, care_grows, care_head}
use Rattle.classes.proofs.Tally.{list_same}
use Rattle.classes.proofs.Sift.{sift_is}

-- A header that f matches is matched by every filter that f lies within.
cover_least : (f : Pattern) (fs : List Pattern) (h : ℕ) → T (hits f h) → bit_and (cover f fs) (care_of fs h) ≡ cover f fs
cover_least f [] h t = by_bits [] [] (none ∩ none ≐ none) tt
cover_least f (g ∷ fs) h t = go (cover_least f fs h t) (within f g) refl
  where
    go : bit_and (cover f fs) (care_of fs h) ≡ cover f fs → (b : Bool) → within f g ≡ b
        → bit_and (cond b (bit_or g.care (cover f fs)) (cover f fs)) (care_of (g ∷ fs) h) ≡ cond b (bit_or g.care (cover f fs)) (cover f fs)
    go ih true e =
        by_bits (g.care ∷ cover f fs ∷ care_of fs h ∷ care_of (g ∷ fs) h ∷ [])
        ((x1 ∩ x2 ≐ x1) ∷ (x2 ∩ x3 ≐ x2) ∷ (x0 ∩ x3 ≐ x0) ∷ [])
        ((x0 ∪ x1) ∩ x3 ≐ x0 ∪ x1) tt ih (care_grows g fs h)
        (care_head g fs h (within-hits f g h ((within_says f g).0 (subst T (sym e) tt)) t))
    go ih false e = by_bits (cover f fs ∷ care_of fs h ∷ care_of (g ∷ fs) h ∷ []) ((x0 ∩ x1 ≐ x0) ∷ (x1 ∩ x2 ≐ x1) ∷ []) (x0 ∩ x2 ≐ x0) tt ih (care_grows g fs h)

-- So f adds no cared bit to any header's pattern.
covered_care : (f : Pattern) (fs : List Pattern) → cover f fs ≡ f.care → (h : ℕ) → care_of (f ∷ fs) h ≡ care_of fs h
covered_care f fs e h = go (hits f h) refl
  where
    go : (b : Bool) → hits f h ≡ b → cond b (bit_or (care_of fs h) f.care) (care_of fs h) ≡ care_of fs h
    go true t =
        by_bits (f.care ∷ cover f fs ∷ care_of fs h ∷ []) ((x1 ≐ x0) ∷ (x1 ∩ x2 ≐ x1) ∷ []) (x2 ∪ x0 ≐ x2) tt e
        (cover_least f fs h (subst T (sym t) tt))
    go false t = refl

-- A filter that is the common part of those that it lies within changes no class.
pub covered_list : (w : ℕ) (f : Pattern) (fs : List Pattern) → cover f fs ≡ f.care → class_list w (f ∷ fs) ≡ class_list w fs
covered_list w f fs e =
    list_same w (f ∷ fs) fs (λ h _. care_pat (f ∷ fs) fs h (covered_care f fs e h))

-- Taken in or passed over, the next filter gives the next class list.
pub taken_is : (w : ℕ) (f : Pattern) (fs : List Pattern) → WellFormed w f → AllWellFormed w fs → taken_in w f fs (class_list w fs) ≡ class_list w (f ∷ fs)
taken_is w f fs gf g = go (eqb (cover f fs) f.care) refl
  where
    go : (b : Bool) → eqb (cover f fs) f.care ≡ b → cond b (class_list w fs) (sift w f (class_list w fs)) ≡ class_list w (f ∷ fs)
    go true e = sym (covered_list w f fs (eqb→eq (cover f fs) f.care (subst T (sym e) tt)))
    go false e = sift_is w f fs gf g
