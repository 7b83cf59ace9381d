-- Counting the headers of each class under a prefix. Serves the proofs.
use mathlib.Core.HLevel.{×₃_prop}
use Rattle.std.specs.Prelude.{cond, List, [], ◌∷◌, ℕ, ◌-◌, ◌^◌, ◌≤◌, ◌<◌, length}
use Rattle.std.specs.Coded.{Π_prop, →_prop, Unit-prop, le_prop}
use Rattle.pattern.specs.declared.Pattern.{Pattern}
use Rattle.pattern.specs.Filters.{WellFormed, within, agree, common, held}
use Rattle.classes.specs.Classes.{Entry, entry}
use Rattle.classes.specs.Given.{patterns_from}
use Rattle.classes.specs.Steps.{sum_if}

-- How many headers of w bits p and P both hold.
abbrev pub shared : ℕ → Pattern → Pattern → ℕ
shared w P p = cond (agree p P) (held w (common p P)) 0

-- The number of headers of each class under P, the last first: those that its pattern and P hold, less those of the later classes within its pattern.
abbrev pub recount : ℕ → Pattern → List Pattern → List Entry
recount w P [] = []
recount w P (p ∷ K) = entry p (shared w P p - sum_if (λ q. within q p) (recount w P K)) ∷ recount w P K

-- Each mask is of w bits, and no difference is below 0.
abbrev pub Enough : ℕ → Pattern → List Pattern → Type 0
Enough w P [] = Unit
Enough w P (p ∷ K) = (p.care < 2 ^ w) × (sum_if (λ q. within q p) (recount w P K) ≤ shared w P p) × Enough w P K

enough_prop : (w : ℕ) (P : Pattern) (K : List Pattern) → IsProp (Enough w P K)
enough_prop w P [] = Unit-prop
enough_prop w P (p ∷ K) = ×₃_prop le_prop le_prop (enough_prop w P K)

-- So it is for the patterns of two lists, under every prefix of w bits.
abbrev pub AlwaysEnough : ℕ → List ℕ → List ℕ → Type 0
AlwaysEnough w cares values = (P : Pattern) → WellFormed w P → Enough w P (patterns_from cares values 0 (length cares))

pub always_prop : (w : ℕ) (cares values : List ℕ) → IsProp (AlwaysEnough w cares values)
always_prop w cares values = Π_prop (λ P. →_prop (enough_prop w P (patterns_from cares values 0 (length cares))))
