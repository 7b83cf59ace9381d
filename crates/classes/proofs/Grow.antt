-- The class list of no filters, and of one more filter at the end.
use mathlib.Core.Path.{◌≡◌, sym, ap, ◌∙◌, subst}
use mathlib.Core.List.{List, [], ◌∷◌, ◌++◌}
use Prim.Native.Nat.{ℕ, ◌+◌, ◌^◌, ◌≤◌, ◌<◌}
use native.Mathlib.Omega.{arith}
use lib.Pow.{pow_pos}
use lib.ListN.{length, get_or, take, drop, take-append-drop}
use Rattle.std.proofs.lemmas.List.{take_more}
use Rattle.pattern.specs.declared.Pattern.{Pattern}
use Rattle.pattern.specs.Filters.{all_free, WellFormed}
use Rattle.pattern.proofs.Size.{count_ext}
use Rattle.classes.specs.Classes.{pat_of, same, entry, class_list}
use Rattle.classes.specs.Given.{AllWellFormed}
use Rattle.classes.specs.Steps.{taken_in, Sound}
use Rattle.classes.proofs.Counts.{count_same}
use Rattle.classes.proofs.Headers.{pat_none, care_pat, care_snoc}
use Rattle.classes.proofs.Tally.{list_unique, list_same}
use Rattle.classes.proofs.Number.{list_prefix}
use Rattle.classes.proofs.Sift.{sift_sound}
use Rattle.classes.proofs.Skip.{taken_is}

-- ---- no filter

pub list_start : (w : ℕ) → entry all_free (2 ^ w) ∷ [] ≡ class_list w []
list_start w =
    list_unique w [] (entry all_free (2 ^ w) ∷ []) (tt, pow_pos w, tt)
    (λ q. omega (
      arith,
      count_same (same all_free q) (2 ^ w),
      count_ext (λ h. same (pat_of [] h) q) (λ h. same all_free q) (2 ^ w) (λ h l. ap (λ (p : Pattern). same p q) (pat_none h)),
    ))

-- ---- one more filter at the end

pub list_snoc : (w : ℕ) (fs : List Pattern) (f : Pattern) → class_list w (f ∷ fs) ≡ class_list w (fs ++ f ∷ [])
list_snoc w fs f =
    list_same w (f ∷ fs) (fs ++ f ∷ [])
    (λ h l. care_pat (f ∷ fs) (fs ++ f ∷ []) h (sym (care_snoc fs f h)))

-- ---- the filters, one after another

good-prefix : (w : ℕ) (fs gs : List Pattern) → AllWellFormed w (fs ++ gs) → AllWellFormed w fs
good-prefix w [] gs g = tt
good-prefix w (f ∷ fs) gs g = (g.0, good-prefix w fs gs g.1)

good_last : (w : ℕ) (fs : List Pattern) (f : Pattern) → AllWellFormed w (fs ++ f ∷ []) → WellFormed w f
good_last w [] f g = g.0
good_last w (x ∷ fs) f g = good_last w fs f g.1

-- the first j filters, and filter j
module _ (w : ℕ) (fs : List Pattern) (g : AllWellFormed w fs) (j : ℕ) (d : Pattern) where
  pub good_upto : AllWellFormed w (take j fs)
  good_upto = good-prefix w (take j fs) (drop j fs) (subst (AllWellFormed w) (sym (take-append-drop j fs)) g)

  pub good_at : j < length fs → WellFormed w (get_or fs j d)
  good_at h =
      good_last w (take j fs) (get_or fs j d)
      (subst (AllWellFormed w) (take_more fs j d h) (good-prefix w (take (j + 1) fs) (drop (j + 1) fs) (subst (AllWellFormed w) (sym (take-append-drop (j + 1) fs)) g)))

  pub next_list : j < length fs → taken_in w (get_or fs j d) (take j fs) (class_list w (take j fs)) ≡ class_list w (take (j + 1) fs)
  next_list h =
      taken_is w (get_or fs j d) (take j fs) (good_at h) good_upto
      ∙ list_snoc w (take j fs) (get_or fs j d)
      ∙ sym (ap (class_list w) (take_more fs j d h))

  pub next_sound : j < length fs → Sound w (get_or fs j d) (class_list w (take j fs))
  next_sound h = sift_sound w (get_or fs j d) (take j fs) (good_at h) good_upto

  pub no_fewer : length (class_list w (take j fs)) ≤ length (class_list w fs)
  no_fewer =
      subst (λ (l : List Pattern). length (class_list w (take j fs)) ≤ length (class_list w l)) (take-append-drop j fs)
      (list_prefix w (take j fs) (drop j fs))
