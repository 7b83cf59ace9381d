-- What the code's steps are: the counts as they stand in lists, and the search by prefixes from the top bit. Serves the proofs.
use Rattle.std.specs.Prelude.{Bool, false, not, ◌&&◌, ◌||◌, cond, List, [], ◌∷◌, ℕ, zero, suc, ◌+◌, ◌-◌, ◌*◌, ◌^◌, eqb, length}
use Rattle.pattern.specs.declared.Pattern.{Pattern}
use Rattle.pattern.specs.Filters.{within}
use Rattle.classes.specs.Classes.{Entry}
use Rattle.classes.specs.Given.{pattern_at, patterns_from}
use Rattle.classes.specs.Steps.{sum_if, rows}
use Rattle.least.specs.Counting.{recount}
use Rattle.least.specs.declared.Patterns.{Patterns}
use Rattle.least.specs.declared.MarkedClasses.{MarkedClasses}

-- The pattern at place i of two lists, all that stand there, and those with the counts that stand in a third.
abbrev pub pattern_in : Patterns → ℕ → Pattern
pattern_in l i = pattern_at l.cares.now l.values.now i

abbrev pub patterns_of : Patterns → List Pattern
patterns_of l = patterns_from l.cares.now l.values.now 0 (length l.cares.now)

abbrev pub entries_of : Patterns → List ℕ → List Entry
entries_of l ns = rows l.cares.now l.values.now ns 0 (length l.cares.now)

-- The counts of the classes after place i that lie within its pattern, together.
abbrev pub later_in : Patterns → List ℕ → ℕ → ℕ
later_in l ns i =
    sum_if (λ q. within q (pattern_in l i)) (rows l.cares.now l.values.now ns (i + 1) (length l.cares.now - (i + 1)))

-- One of the entries is marked and has a header counted.
abbrev pub some_of : List Bool → List Entry → Bool
some_of [] L = false
some_of (m ∷ marks) [] = false
some_of (m ∷ marks) (e ∷ L) = (m && not (eqb e.size 0)) || some_of marks L

-- A marked class has a header under P.
abbrev pub under : MarkedClasses → Pattern → Bool
under c P = some_of c.marks.now (recount c.width.bits P (patterns_of c.listed))

-- The headers of w bits whose bits from k on are m.
abbrev pub prefix : ℕ → ℕ → ℕ → Pattern
prefix w k m = record { care = 2 ^ w - 2 ^ k; value = m * 2 ^ k }

-- From the prefix m, with k bits to go: the next bit is 0 where something stands under that prefix, else 1.
unfoldable pub search : (Pattern → Bool) → ℕ → ℕ → ℕ → ℕ
search some w zero m = m
search some w (suc k) m = cond (some (prefix w k (m * 2))) (search some w k (m * 2)) (search some w k (m * 2 + 1))
