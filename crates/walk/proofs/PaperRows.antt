-- Paper 01, "Tables to try": the rows marked P, as files and questions with the answers expected, one table under one claim, computed.
use mathlib.Core.Path.{◌≡◌, refl}
use mathlib.Core.List.{List, [], ◌∷◌, ◌++◌, map, flatten}
use Prim.Native.Nat.{ℕ}
use lib.ListN.{replicate}
use Rattle.std.specs.Prelude.{Result, Ok, Err}
use Rattle.reading.specs.declared.refusals.Refusal.{Refusal}
use Rattle.reading.specs.Refusals.{number_of}
use Rattle.reading.specs.Kinds.{shape_of}
use Rattle.reading.specs.Network.{act}
use Rattle.reading.specs.File.{step_of, on_step, run, parse}
use Rattle.classes.specs.Classes.{Entry, entry, tally_all}
use Rattle.rounds.specs.Rounds.{back_in, returns_to, low_from, lowest, cycle_from, cycle_of, cycle_for}
use Rattle.judge.specs.declared.Verdict.TheVariants.{Free, Loop}
use Rattle.judge.specs.declared.Judged.{Judged}
use Rattle.judge.specs.declared.Verdict.{Verdict}
use Rattle.judge.specs.Forwarding.{hop}
use Rattle.judge.specs.Verdicts.{loops, first_from, verdict_of, cycle_in}
use Rattle.judge.specs.Judging.{Lent, Judgement, lent_of, written, judged_of, judge_of}
use Rattle.walk.specs.declared.Outcome.{Outcome}
use Rattle.walk.specs.declared.Outcome.TheVariants.{Dropped, Circling}
use Rattle.walk.specs.Walking.{is_in, on_action, walk_from, walk_by, walk_of}

-- ---- questions and answers

pub data Question : Type 0 where
  judge : List ℕ → Question
  walk : List ℕ → ℕ → ℕ → Question

-- What is said of a file, or the number and the place of its refusal, with what the lent lists hold then; and where a walk ends.
pub data Reply : Type 0 where
  judged : Judged → Lent → Reply
  refused : ℕ → ℕ → Lent → Reply
  walked : Result Outcome Refusal → Reply

-- Judge is lent lists full of sevens.
abbrev lists : Lent
lists = lent_of (replicate 1024 7) (replicate 1024 7) (replicate 1024 7) (replicate 64 7)

abbrev said : Result Judged Refusal → Lent → Reply
said (Ok j) lent = judged j lent
said (Err r) lent = refused (number_of r.reason) r.place lent

abbrev reply_of : Judgement → Reply
reply_of j = said j.answer j.lent

abbrev pub reply_to : Question → Reply
reply_to (judge file) = reply_of (judge_of file lists)
reply_to (walk file header start) = walked (walk_of file header start)

pub record Row : Type 0 where
  pub question : Question
  pub reply : Reply

abbrev row : Question → Reply → Row
row q r = record { question = q; reply = r }

-- ---- the files

-- A number below 256 in four bytes.
abbrev wide : ℕ → List ℕ
wide n = 0 ∷ 0 ∷ 0 ∷ n ∷ []

abbrev rule : ℕ → ℕ → ℕ → List ℕ
rule kind mask value = (kind ∷ []) ++ wide mask ++ wide value

abbrev forward : ℕ → ℕ → ℕ → List ℕ
forward mask value next = rule 0x03 mask value ++ (next ∷ [])

abbrev drops : ℕ → ℕ → List ℕ
drops mask value = rule 0x04 mask value

abbrev table : ℕ → List ℕ → List ℕ
table v rules = (0x02 ∷ v ∷ []) ++ rules

abbrev network : ℕ → ℕ → List ℕ → List ℕ
network w n tables = (0x01 ∷ w ∷ n ∷ []) ++ tables ++ (0x7F ∷ [])

-- C, with the first rule and the drop as given.
abbrev c_with : List ℕ → List ℕ → List ℕ
c_with first stop = network 3 2 (table 0 first ++ table 1 (stop ++ forward 4 4 0))

abbrev file_c : List ℕ
file_c = c_with (forward 4 4 1) (drops 6 6)

-- E, with or without its 10*.
abbrev e_with : List ℕ → List ℕ
e_with third = network 3 1 (table 0 (drops 7 7 ++ drops 7 6 ++ third ++ drops 4 0 ++ forward 0 0 0))

-- ---- the answers

abbrev class : ℕ → ℕ → ℕ → Entry
class care value size = entry (record { care = care; value = value }) size

abbrev answer : ℕ → ℕ → ℕ → ℕ → Verdict → List Entry → List ℕ → Reply
answer w n rules classes verdict entries cycle =
    judged
    (record { figures = record { width = w; nodes = n; rules = rules }; classes = classes; verdict = verdict })
    (written entries cycle lists)

abbrev refusal : ℕ → ℕ → Reply
refusal number place = refused number place lists

abbrev replies_c : Reply
replies_c = answer 3 2 3 3 (Loop 4) (class 0 0 4 ∷ class 4 4 2 ∷ class 6 6 2 ∷ []) (0 ∷ 1 ∷ [])

abbrev pub rows : List Row
rows =
    -- A
    row (judge (network 1 1 (table 0 []))) (answer 1 1 0 1 Free (class 0 0 2 ∷ []) [])
    -- B
    ∷ row (judge (network 1 1 (table 0 (forward 0 0 0)))) (answer 1 1 1 1 (Loop 0) (class 0 0 2 ∷ []) (0 ∷ []))
    -- C
    ∷ row (judge file_c) replies_c
    -- D
    ∷ row (judge (c_with (forward 4 4 1) (drops 4 4))) (answer 3 2 3 2 Free (class 0 0 4 ∷ class 4 4 4 ∷ []) [])
    -- E
    ∷ row (judge (e_with (drops 6 4))) (answer 3 1 5 4 Free (class 4 0 4 ∷ class 6 4 2 ∷ class 7 6 1 ∷ class 7 7 1 ∷ []) [])
    -- F
    ∷ row (judge (e_with [])) (answer 3 1 4 4 (Loop 4) (class 0 0 2 ∷ class 4 0 4 ∷ class 7 6 1 ∷ class 7 7 1 ∷ []) (0 ∷ []))
    -- G
    ∷ row (judge (network 2 1 (table 0 (drops 2 2 ++ drops 3 2 ++ drops 3 3))))
    (answer 2 1 3 3 Free (class 0 0 2 ∷ class 3 2 1 ∷ class 3 3 1 ∷ []) [])
    -- H
    ∷ row (judge (c_with (rule 0x13 3 4 ++ (1 ∷ [])) (drops 6 6))) replies_c
    -- I
    ∷ row (judge (c_with (forward 3 4 1) (drops 6 6))) (refusal 9 5)
    -- J
    ∷ row (judge []) (refusal 3 0)
    -- K
    ∷ row (judge (network 1 4 (table 0 (forward 0 0 1) ++ table 1 (forward 0 0 2) ++ table 2 (forward 0 0 1) ++ table 3 (forward 0 0 3))))
    (answer 1 4 4 1 (Loop 0) (class 0 0 2 ∷ []) (1 ∷ 2 ∷ []))
    -- L
    ∷ row (judge (network 2 1 (table 0 (forward 3 1 0 ++ forward 1 1 0))))
    (answer 2 1 2 3 (Loop 1) (class 0 0 2 ∷ class 1 1 1 ∷ class 3 1 1 ∷ []) (0 ∷ []))
    -- O
    ∷ row (walk file_c 5 1) (walked (Ok (Circling 1 2)))
    ∷ row (walk file_c 6 0) (walked (Ok (Dropped 1 1)))
    ∷ row (walk file_c 0 0) (walked (Ok (Dropped 0 0)))
    ∷ []

pub rows_hold : map (λ x. reply_to x.question) rows ≡ map (λ x. x.reply) rows
unfolding parse run on_step step_of shape_of flatten act tally_all back_in returns_to low_from lowest cycle_from cycle_of cycle_for hop loops first_from verdict_of cycle_in judged_of judge_of is_in on_action walk_from walk_by walk_of
rows_hold = refl
