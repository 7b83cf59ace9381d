-- Paper 01, "The printed verdict": "The first line gives the three counts; the second the class count; then one line per class, pattern and size; last `free`, or the header in w letters and the cycle's nodes. A refusal prints one line only. Single blanks part the words, and each line, the last too, ends with a line feed."
use Rattle.std.specs.Prelude.{ℕ, zero, suc, cond, Result, Ok, Err, List, [], ◌∷◌, ◌++◌, eqb, get_or}
use Rattle.pattern.specs.declared.Pattern.{Pattern}
use Rattle.reading.specs.declared.refusals.Refusal.{Refusal}
use Rattle.reading.specs.Refusals.{number_of}
use Rattle.judge.specs.Judging.{Lent}
use Rattle.judge.specs.declared.Judged.{Judged}
use Rattle.judge.specs.declared.Verdict.{Verdict}
use Rattle.judge.specs.declared.Verdict.TheVariants.{Free, Loop}
use Rattle.printing.specs.Text.{word, decimal, letters, header_letters}

abbrev pub refused_line : ℕ → ℕ → List ℕ
refused_line number place = word "refused " ++ decimal number ++ word " at " ++ decimal place ++ word "\n"

abbrev pub counts_line : ℕ → ℕ → ℕ → List ℕ
counts_line width nodes rules =
    word "width " ++ decimal width ++ word " nodes " ++ decimal nodes ++ word " rules " ++ decimal rules ++ word "\n"

abbrev pub classes_line : ℕ → List ℕ
classes_line classes = word "classes " ++ decimal classes ++ word "\n"

abbrev pub class_line : ℕ → Pattern → ℕ → List ℕ
class_line width p size = letters width p ++ word " " ++ decimal size ++ word "\n"

-- The cycle's nodes, each after a blank. In the cycle's bytes 255 is no node: the cycle has ended.
unfoldable pub nodes : List ℕ → List ℕ
nodes [] = []
nodes (v ∷ vs) = cond (eqb v 255) [] (word " " ++ decimal v ++ nodes vs)

abbrev pub verdict_line : ℕ → Verdict → List ℕ → List ℕ
verdict_line width Free cycle = word "free\n"
verdict_line width (Loop header) cycle = word "loop " ++ header_letters width header ++ word " cycle" ++ nodes cycle ++ word "\n"

-- The line of the class that stands at place i of the lists.
abbrev pub class_at : ℕ → Lent → ℕ → List ℕ
class_at width l i = class_line width (record { care = get_or l.cares i 0; value = get_or l.values i 0 }) (get_or l.sizes i 0)

-- The lines of so many classes, from place i on.
unfoldable pub class_lines : ℕ → Lent → ℕ → ℕ → List (List ℕ)
class_lines width l i zero = []
class_lines width l i (suc more) = class_at width l i ∷ class_lines width l (suc i) more

-- The lines of Judge's answer and of what it left in the lent lists.
abbrev pub lines : Result Judged Refusal → Lent → List (List ℕ)
lines (Err refusal) l = refused_line (number_of refusal.reason) refusal.place ∷ []
lines (Ok judged) l =
    counts_line judged.figures.width judged.figures.nodes judged.figures.rules
    ∷ classes_line judged.classes
    ∷ (class_lines judged.figures.width l 0 judged.classes ++ (verdict_line judged.figures.width judged.verdict l.cycle ∷ []))

-- The lines one after the other.
abbrev pub joined : List (List ℕ) → List ℕ
joined [] = []
joined (line ∷ rest) = line ++ joined rest

-- The printed verdict.
abbrev pub text_of : Result Judged Refusal → Lent → List ℕ
text_of answer l = joined (lines answer l)
