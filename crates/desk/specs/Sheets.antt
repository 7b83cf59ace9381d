-- How an answer of Read, Judge and Walk is laid out in numbers, for programs that link the library: a number that is
-- returned, and six figures in a lent list.
use Rattle.std.specs.Prelude.{Result, Ok, Err, cond, List, [], ◌∷◌, ◌++◌, ℕ, ltb, length, drop}
use Rattle.reading.specs.declared.Figures.{Figures}
use Rattle.reading.specs.declared.refusals.Refusal.{Refusal}
use Rattle.reading.specs.Refusals.{number_of}
use Rattle.judge.specs.declared.Judged.{Judged}
use Rattle.judge.specs.declared.Verdict.{Verdict}
use Rattle.judge.specs.declared.Verdict.TheVariants.{Free, Loop}
use Rattle.walk.specs.declared.Outcome.{Outcome}
use Rattle.walk.specs.declared.Outcome.TheVariants.{Delivered, Dropped, Circling}
use Rattle.desk.specs.declared.Sheet.{Sheet}

abbrev pub sheet : ℕ → List ℕ → Sheet
sheet n xs = record { number = n; figures = xs }

abbrev pub six : ℕ → ℕ → ℕ → ℕ → ℕ → ℕ → List ℕ
six a b c d e f = a ∷ b ∷ c ∷ d ∷ e ∷ f ∷ []

-- A refusal returns its number and place, and no other figure.
abbrev pub refusal_sheet : Refusal → Sheet
refusal_sheet refusal = sheet (number_of refusal.reason) (six refusal.place 0 0 0 0 0)

-- An answer: what was found, by its sheet, or the refusal.
abbrev pub answer_sheet : {A : Type 0} → (A → Sheet) → Result A Refusal → Sheet
answer_sheet found_sheet (Ok found) = found_sheet found
answer_sheet found_sheet (Err refusal) = refusal_sheet refusal

-- Read: width, node count and rule count.
abbrev pub figures_sheet : Figures → Sheet
figures_sheet found = sheet 0 (six found.width found.nodes found.rules 0 0 0)

abbrev pub read_sheet : Result Figures Refusal → Sheet
read_sheet = answer_sheet figures_sheet

-- The verdict: 0 for free, 1 for loop; then the header, 0 for free.
abbrev pub verdict_number : Verdict → ℕ
verdict_number Free = 0
verdict_number (Loop header) = 1

abbrev pub verdict_header : Verdict → ℕ
verdict_header Free = 0
verdict_header (Loop header) = header

-- Judge: these, the class count and the verdict.
abbrev pub judged_sheet : Judged → Sheet
judged_sheet found =
    sheet 0 (six found.figures.width found.figures.nodes found.figures.rules found.classes (verdict_number found.verdict) (verdict_header found.verdict))

abbrev pub judge_sheet : Result Judged Refusal → Sheet
judge_sheet = answer_sheet judged_sheet

-- Walk: the outcome (0 delivered, 1 dropped, 2 circling), the node and the hops.
abbrev pub outcome : ℕ → ℕ → ℕ → Sheet
outcome which node hops = sheet 0 (six which node hops 0 0 0)

abbrev pub outcome_sheet : Outcome → Sheet
outcome_sheet (Delivered node hops) = outcome 0 node hops
outcome_sheet (Dropped node hops) = outcome 1 node hops
outcome_sheet (Circling node hops) = outcome 2 node hops

abbrev pub walk_sheet : Result Outcome Refusal → Sheet
walk_sheet = answer_sheet outcome_sheet

-- What a call returns and leaves, by the list lent for the figures: one of fewer than six entries gets 255, and then
-- nothing is written anywhere.
unfoldable pub unless_short : {A : Type 0} → List ℕ → A → A → A
unless_short out short enough = cond (ltb (length out) 6) short enough

abbrev pub returned : Sheet → List ℕ → ℕ
returned sheet out = unless_short out 255 sheet.number

-- The six figures, and the rest as it was.
abbrev pub laid : Sheet → List ℕ → List ℕ
laid sheet out = unless_short out out (sheet.figures ++ drop 6 out)
