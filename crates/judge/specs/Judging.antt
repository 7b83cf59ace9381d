-- Paper 01, "Refusal numbers" and "Classes", of Judge: 13 before the file, then the file's own refusal, then 12. A refusal returns its
-- number and place, and lent lists are untouched, except after 12: the first 1,024 entries of the three lists are then 0 and the first 64
-- cycle bytes 255. After success the entries from the class count to 1,023 are 0. Entries past 1,024 and past 64 never change.
use Rattle.std.specs.Prelude.{Bool, ◌||◌, cond, Result, Ok, Err, List, [], ℕ, leb, ltb, length}
use Rattle.reading.specs.declared.Figures.{Figures}
use Rattle.reading.specs.declared.refusals.Refusal.{Refusal}
use Rattle.reading.specs.declared.refusals.Reason.TheVariants.{TooManyClasses, ShortLists}
use Rattle.reading.specs.Network.{Network, rules_of, filters}
use Rattle.reading.specs.Refusals.{refusal}
use Rattle.reading.specs.File.{Parsed, refused, accepted, parse}
use Rattle.classes.specs.Classes.{Entry, class_list, laid, care_at, value_at, size_of}
use Rattle.rounds.specs.Rounds.{cycle_bytes}
use Rattle.judge.specs.declared.Judged.{Judged}
use Rattle.judge.specs.Forwarding.{nodes_of}
use Rattle.judge.specs.Verdicts.{verdict_of, cycle_in}

-- What the four lent lists hold.
pub record Lent : Type 0 where
  pub cares : List ℕ
  pub values : List ℕ
  pub sizes : List ℕ
  pub cycle : List ℕ

abbrev pub lent_of : List ℕ → List ℕ → List ℕ → List ℕ → Lent
lent_of c v s y = record { cares = c; values = v; sizes = s; cycle = y }

-- What Judge gives: its answer, and what the lists hold then.
pub record Judgement : Type 0 where
  pub answer : Result Judged Refusal
  pub lent : Lent

abbrev pub judgement : Result Judged Refusal → Lent → Judgement
judgement a l = record { answer = a; lent = l }

-- One of the three lists below 1,024 entries, or the byte list below 64.
abbrev pub short_by : ℕ → ℕ → ℕ → ℕ → Bool
short_by cares values sizes cycle = ltb cares 1024 || (ltb values 1024 || (ltb sizes 1024 || ltb cycle 64))

abbrev pub too_short : Lent → Bool
too_short old = short_by (length old.cares) (length old.values) (length old.sizes) (length old.cycle)

-- The lists with the entries L and the cycle's nodes written to them.
abbrev pub written : List Entry → List ℕ → Lent → Lent
written L nodes old = record {
  cares = laid care_at L old.cares;
  values = laid value_at L old.values;
  sizes = laid size_of L old.sizes;
  cycle = cycle_bytes nodes old.cycle;
}

abbrev pub classes_of : Network → List Entry
classes_of net = class_list net.width (filters net)

abbrev pub figures_of : Network → Figures
figures_of net = record { width = net.width; nodes = nodes_of net; rules = length (rules_of net) }

-- What is said of a network that is judged.
abbrev pub said_of : Network → Judged
said_of net = record { figures = figures_of net; classes = length (classes_of net); verdict = verdict_of net }

-- An accepted file: 12 where there are more than 512 classes, else the class list and the verdict.
unfoldable pub judged_of : Network → Lent → Judgement
judged_of net old =
    cond (leb (length (classes_of net)) 512)
    (judgement (Ok (said_of net)) (written (classes_of net) (cycle_in net (verdict_of net)) old))
    (judgement (Err (refusal TooManyClasses 0)) (written [] [] old))

abbrev pub on_parsed : Parsed → Lent → Judgement
on_parsed (refused r) old = judgement (Err r) old
on_parsed (accepted net) old = judged_of net old

-- Judge, from the file's bytes and what the lent lists hold.
unfoldable pub judge_of : List ℕ → Lent → Judgement
judge_of file old = cond (too_short old) (judgement (Err (refusal ShortLists 0)) old) (on_parsed (parse file) old)
