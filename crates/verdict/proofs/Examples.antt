-- What is printed of paper 01's input C, of a network that is free (A) and of a file that is refused (I), computed from the files' bytes.
use mathlib.Core.List.{List, [], ◌∷◌, flatten}
use mathlib.Core.Path.{◌≡◌, refl}
use Prim.Native.Nat.{ℕ}
use lib.ListN.{replicate}
use Rattle.reading.specs.Kinds.{shape_of}
use Rattle.reading.specs.Network.{act}
use Rattle.reading.specs.File.{step_of, on_step, run, parse}
use Rattle.classes.specs.Classes.{tally_all}
use Rattle.rounds.specs.Rounds.{back_in, returns_to, low_from, lowest, cycle_from, cycle_of, cycle_for}
use Rattle.judge.specs.Forwarding.{hop}
use Rattle.judge.specs.Verdicts.{loops, first_from, verdict_of, cycle_in}
use Rattle.judge.specs.Judging.{Lent, lent_of, Judgement, judged_of, judge_of}
use Rattle.printing.specs.Text.{word, decimal, digits, letters}
use Rattle.printing.specs.Lines.{class_lines, nodes, text_of}

-- The lists as `main` lends them.
abbrev lists : Lent
lists = lent_of (replicate 1024 0) (replicate 1024 0) (replicate 1024 0) (replicate 64 255)

abbrev printed : List ℕ → List ℕ
printed file = let j : Judgement = judge_of file lists in text_of j.answer j.lent

-- C, with the first rule's mask as given.
abbrev c_with : ℕ → List ℕ
c_with mask =
    0x01 ∷ 0x03 ∷ 0x02
    ∷ 0x02 ∷ 0x00
    ∷ 0x03 ∷ 0 ∷ 0 ∷ 0 ∷ mask ∷ 0 ∷ 0 ∷ 0 ∷ 4 ∷ 0x01
    ∷ 0x02 ∷ 0x01
    ∷ 0x04 ∷ 0 ∷ 0 ∷ 0 ∷ 6 ∷ 0 ∷ 0 ∷ 0 ∷ 6
    ∷ 0x03 ∷ 0 ∷ 0 ∷ 0 ∷ 4 ∷ 0 ∷ 0 ∷ 0 ∷ 4 ∷ 0x00
    ∷ 0x7F ∷ []

pub printed-examples : (printed (c_with 4) ≡ word "width 3 nodes 2 rules 3\nclasses 3\n*** 4\n1** 2\n11* 2\nloop 100 cycle 0 1\n")
    × (printed (0x01 ∷ 0x01 ∷ 0x01 ∷ 0x02 ∷ 0x00 ∷ 0x7F ∷ []) ≡ word "width 1 nodes 1 rules 0\nclasses 1\n* 2\nfree\n")
    × (printed (c_with 3) ≡ word "refused 9 at 5\n")
unfolding parse run on_step step_of shape_of flatten act tally_all back_in returns_to low_from lowest cycle_from cycle_of cycle_for hop loops first_from verdict_of cycle_in judged_of judge_of decimal digits letters class_lines nodes
printed-examples = (refl, refl, refl)
