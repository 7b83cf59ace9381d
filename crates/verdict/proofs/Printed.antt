-- Paper 01, "The printed verdict": of a file that is judged, the three counts, the class count, one line for each class of the class list in its order, and the verdict with all nodes of the cycle; of a refusal, one line.
use Prim.Native.Nat.{ℕ, ◌-◌, ◌≤◌, ◌<◌}
use mathlib.Core.Bool.{false}
use mathlib.Core.List.{List, [], ◌∷◌, ◌++◌, map}
use mathlib.Core.Path.{◌≡◌, refl, ap, ap₂, ◌∙◌}
use native.Mathlib.Omega.{arith}
use borrow.Author.Tests.{le-leb}
use lib.ListN.{length, get_or, drop, replicate}
use Rattle.std.specs.Prelude.{Result, Err}
use Rattle.reading.specs.declared.refusals.Refusal.{Refusal}
use Rattle.reading.specs.Refusals.{number_of}
use Rattle.reading.specs.Network.{Network, rules_of}
use Rattle.reading.specs.File.{accepted, parse}
use Rattle.reading.proofs.Demand1.{accepted_is_bounded}
use Rattle.classes.specs.Classes.{Entry, care_at, value_at, size_of}
use Rattle.classes.proofs.Laid.{after, laid_split}
use Rattle.rounds.specs.Rounds.{cycle_bytes}
use Rattle.rounds.proofs.Cycle.{live}
use Rattle.judge.specs.declared.Verdict.{Verdict}
use Rattle.judge.specs.declared.Verdict.TheVariants.{Free, Loop}
use Rattle.judge.specs.declared.Judged.{Judged}
use Rattle.judge.specs.Forwarding.{nodes_of, hop, query_of}
use Rattle.judge.specs.Verdicts.{verdict_of, cycle_in}
use Rattle.judge.specs.Judging.{Lent, lent_of, Judgement, written, too_short, classes_of, judged_of, judge_of}
use Rattle.judge.proofs.JudgeLaws.{fine}
use Rattle.judge.proofs.Demand2.{ends_stay, cycle_says}
use Rattle.printing.specs.Text.{word, decimal, header_letters}
use Rattle.printing.specs.Lines.{refused_line, counts_line, classes_line, class_line, nodes, verdict_line, class_lines, lines, joined}
use Rattle.printing.proofs.Nodes.{nodes_none, nodes-filled, nodes_only, nodes_all}
use Rattle.printing.proofs.Meaning.{class_list-lines}

-- ---- the cycle's nodes

-- The bytes of a cycle show its nodes, and nothing of what stands after them.
pub shown_nodes : (L old : List ℕ) → length old ≡ 64 → nodes (cycle_bytes L old) ≡ nodes L
shown_nodes L old e =
    nodes_only L (replicate (64 - length L) 255 ++ drop 64 old)
    (nodes-filled (64 - length L) (drop 64 old) (nodes_none old 64 (omega arith)))

shown_verdict : (w : ℕ) (v : Verdict) (L old : List ℕ) → length old ≡ 64 → verdict_line w v (cycle_bytes L old) ≡ verdict_line w v L
shown_verdict w Free L old e = refl
shown_verdict w (Loop h) L old e = ap (λ (t : List ℕ). word "loop " ++ header_letters w h ++ word " cycle" ++ t ++ word "\n") (shown_nodes L old e)

module _ (net : Network) where
  -- Each is a node of the network ..
  cycle_nodes : (v : Verdict) → verdict_of net ≡ v → (i : ℕ) → i < length (cycle_in net v) → get_or (cycle_in net v) i 0 < nodes_of net
  unfolding cycle_in
  cycle_nodes Free e i h = absurd (omega arith)
  cycle_nodes (Loop g) e i h =
      let c = cycle_says net g e in
      omega (arith, c.follows i h, live (hop net (query_of net g)) (nodes_of net) (ends_stay net (query_of net g)) c.first c.node c.on_cycle i)

  -- .. so that none is taken for 255: all are shown, each after a blank.
  pub shown_cycle : (file : List ℕ) → parse file ≡ accepted net
      → nodes (cycle_in net (verdict_of net)) ≡ joined (map (λ (v : ℕ). word " " ++ decimal v) (cycle_in net (verdict_of net)))
  shown_cycle file e = nodes_all (cycle_in net (verdict_of net)) (λ i h. omega (arith, cycle_nodes (verdict_of net) refl i h, (accepted_is_bounded file net e).nodes_most))

-- ---- the lines

-- A refusal prints one line only.
pub refused_line_lem : (file : List ℕ) (old : Lent) (r : Refusal) → (judge_of file old).answer ≡ Err r
    → lines (judge_of file old).answer (judge_of file old).lent ≡ refused_line (number_of r.reason) r.place ∷ []
refused_line_lem file old r e = ap (λ (a : Result Judged Refusal). lines a (judge_of file old).lent) e

module _ (file : List ℕ) (old : Lent) (net : Network) (long : too_short old ≡ false) (e : parse file ≡ accepted net) (few : length (classes_of net) ≤ 512) where
  judged : judge_of file old ≡ fine net old
  unfolding judge_of judged_of
  judged = simp (long, e, le-leb (length (classes_of net)) 512 few)

  pub printed-lines : length old.cycle ≡ 64
      → lines (judge_of file old).answer (judge_of file old).lent
      ≡ counts_line net.width (nodes_of net) (length (rules_of net))
      ∷ classes_line (length (classes_of net))
      ∷ (map (λ (k : Entry). class_line net.width k.pat k.size) (classes_of net)
      ++ (verdict_line net.width (verdict_of net) (cycle_in net (verdict_of net)) ∷ []))
  printed-lines whole =
      let L = classes_of net in
      ap (λ (j : Judgement). lines j.answer j.lent) judged
      ∙ ap₂
      (λ (rest : List (List ℕ)) (last : List ℕ). counts_line net.width (nodes_of net) (length (rules_of net))
      ∷ classes_line (length L)
      ∷ (rest ++ (last ∷ [])))
      (regrouped L ∙ class_list-lines (λ (k : Entry). k.pat) (λ (k : Entry). k.size) net.width L
      (after L old.cares) (after L old.values) (after L old.sizes) (cycle_bytes (cycle_in net (verdict_of net)) old.cycle))
      (shown_verdict net.width (verdict_of net) (cycle_in net (verdict_of net)) old.cycle whole)
    where
      regrouped : (L : List Entry)
          → class_lines net.width (written L (cycle_in net (verdict_of net)) old) 0 (length L)
          ≡ class_lines net.width (lent_of (map care_at L ++ after L old.cares) (map value_at L ++ after L old.values) (map size_of L ++ after L old.sizes) (cycle_bytes (cycle_in net (verdict_of net)) old.cycle)) 0 (length L)
      regrouped L =
          ap (λ (l : Lent). class_lines net.width l 0 (length L))
          (λ i. lent_of (laid_split care_at L old.cares i) (laid_split value_at L old.values i) (laid_split size_of L old.sizes i) (cycle_bytes (cycle_in net (verdict_of net)) old.cycle))
