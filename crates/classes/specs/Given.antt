-- What the code is given and gives: filters; a list of care masks and a list of values as patterns; and nothing counted or listed
-- where there are too many classes. Serves the proofs.
use Rattle.std.specs.Prelude.{cond, List, [], ◌∷◌, Option, Some, None, ℕ, zero, suc, leb, length, get_or}
use Rattle.pattern.specs.declared.Pattern.{Pattern}
use Rattle.pattern.specs.Filters.{WellFormed}
use Rattle.classes.specs.Classes.{Entry, class_list}

-- The pattern at place j of a list of care masks and a list of values, and the m patterns from there on.
abbrev pub pattern_at : List ℕ → List ℕ → ℕ → Pattern
pattern_at cares values j = record { care = get_or cares j 0; value = get_or values j 0 }

unfoldable pub patterns_from : List ℕ → List ℕ → ℕ → ℕ → List Pattern
patterns_from cares values j zero = []
patterns_from cares values j (suc m) = pattern_at cares values j ∷ patterns_from cares values (suc j) m

-- Every filter is of w bits, and its value is zero at free bits.
abbrev pub AllWellFormed : ℕ → List Pattern → Type 0
AllWellFormed w [] = Unit
AllWellFormed w (f ∷ fs) = WellFormed w f × AllWellFormed w fs

-- The number of classes; none where there are more than 512.
unfoldable pub counted : ℕ → List Pattern → Option ℕ
counted w fs = cond (leb (length (class_list w fs)) 512) (Some (length (class_list w fs))) None

-- More than 512 classes are refused, and nothing is listed then.
unfoldable pub listed : ℕ → List Pattern → List Entry
listed w fs = cond (leb (length (class_list w fs)) 512) (class_list w fs) []
