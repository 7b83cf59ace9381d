-- Demand 2. Judge says free exactly when no header below 2^w goes round at any node with any number of hops. Otherwise the header said
-- goes round and no smaller one does, and the cycle is its cycle: it starts at the lowest numbered node on any cycle of that header,
-- follows the hops, has each node once, and returns to the first. Where Judge says free the 64 bytes are 255.
use mathlib.Core.Path.{◌≡◌, refl, sym, ◌∙◌, ap, subst}
use mathlib.Core.List.{List, []}
use Prim.Native.Nat.{ℕ, zero, suc, ◌^◌, ◌≤◌, ◌<◌, zero-le}
use native.Mathlib.Omega.{arith}
use lib.Dec.{T}
use lib.ListN.{length, get_or}
use borrow.Author.Tests.{le-ltb}
use Rattle.std.specs.Prelude.{Ok, Option, Some, None, is_some}
use Rattle.pattern.specs.declared.Pattern.{Pattern}
use Rattle.reading.specs.declared.Figures.{Figures}
use Rattle.reading.specs.Network.{Network}
use Rattle.reading.specs.File.{accepted, parse}
use Rattle.rounds.specs.Rounds.{hops, OnCycle, GoesRound, lowest, cycle_from, cycle_of, cycle_for, cycle_bytes}
use Rattle.rounds.proofs.Low.{Means, lowest_means, node_means}
use Rattle.rounds.proofs.CycleList.{cycle_at, cycle_len, cycle_closed, cycle_once}
use Rattle.judge.specs.declared.Verdict.{Verdict}
use Rattle.judge.specs.declared.Verdict.TheVariants.{Free, Loop}
use Rattle.judge.specs.declared.Judged.{Judged}
use Rattle.judge.specs.Forwarding.{nodes_of, hop, query_of, HeaderGoesRound}
use Rattle.judge.specs.Verdicts.{loops, verdict_of, cycle_in}
use Rattle.judge.specs.Judging.{Lent, Judgement, said_of, judge_of}
use Rattle.judge.proofs.First.{First, first_says}
use Rattle.judge.proofs.JudgeLaws.{fine, judged_is}

-- ---- what is claimed

-- No header of the network goes round.
abbrev pub NoneGoesRound : Network → Type 0
NoneGoesRound net = (h : ℕ) → h < 2 ^ net.width → HeaderGoesRound net h → ⊥

-- Header h goes round, and no smaller one does.
pub record LeastRound (net : Network) (h : ℕ) : Type 0 where
  pub header : h < 2 ^ net.width
  pub round : HeaderGoesRound net h
  pub least : (g : ℕ) → g < h → HeaderGoesRound net g → ⊥

-- The nodes are the cycle, under the hops f among n nodes, of the lowest node on any cycle.
pub record IsCycle (f : ℕ → ℕ) (n : ℕ) (nodes : List ℕ) : Type 0 where
  pub first : ℕ
  pub node : first < n
  pub on_cycle : OnCycle f first
  pub lowest-one : (v : ℕ) → v < first → OnCycle f v → ⊥
  pub some : 1 ≤ length nodes
  pub few : length nodes ≤ n
  pub follows : (i : ℕ) → i < length nodes → get_or nodes i 0 ≡ hops f i first
  pub once : (i j : ℕ) → i < j → j < length nodes → get_or nodes i 0 ≡ get_or nodes j 0 → ⊥
  pub comes_back : hops f (length nodes) first ≡ first

-- ---- the test of n hops says whether a query goes round with any number of hops

module _ (net : Network) (query : Pattern) where
  pub ends_stay : (v : ℕ) → nodes_of net ≤ v → nodes_of net ≤ hop net query v
  unfolding hop
  ends_stay v h = rw (le-ltb v (nodes_of net) h) h

  pub loops_round : T (loops net query) → GoesRound (hop net query) (nodes_of net)
  unfolding loops
  loops_round t = go (lowest (hop net query) (nodes_of net)) (lowest_means (hop net query) (nodes_of net) ends_stay) t
    where
      go : (low : Option ℕ) → Means (hop net query) (nodes_of net) low → T (is_some low) → GoesRound (hop net query) (nodes_of net)
      go (Some v) m t = (v, m.0, m.1)
      go None m t = absurd t

  pub round_loops : GoesRound (hop net query) (nodes_of net) → T (loops net query)
  unfolding loops
  round_loops g = go (lowest (hop net query) (nodes_of net)) (lowest_means (hop net query) (nodes_of net) ends_stay)
    where
      go : (low : Option ℕ) → Means (hop net query) (nodes_of net) low → T (is_some low)
      go (Some v) m = tt
      go None m = absurd (m g)

  some_node : (n v : ℕ) → v < n → 1 ≤ length (cycle_of (hop net query) n v)
  unfolding cycle_of cycle_from
  some_node zero v h = absurd (omega arith)
  some_node (suc n) v h = omega arith

  pub cycle_is : T (loops net query) → IsCycle (hop net query) (nodes_of net) (cycle_for (hop net query) (nodes_of net) (lowest (hop net query) (nodes_of net)))
  unfolding loops cycle_for
  cycle_is t = go (lowest (hop net query) (nodes_of net)) refl (lowest_means (hop net query) (nodes_of net) ends_stay) t
    where
      go : (low : Option ℕ) → lowest (hop net query) (nodes_of net) ≡ low → Means (hop net query) (nodes_of net) low → T (is_some low)
          → IsCycle (hop net query) (nodes_of net) (cycle_for (hop net query) (nodes_of net) low)
      go (Some v) e m t =
          let back = (node_means (hop net query) (nodes_of net) v e).1 in
          record {
            first = v;
            node = m.0;
            on_cycle = m.1;
            lowest-one = m.2;
            some = some_node (nodes_of net) v m.0;
            few = cycle_len (hop net query) (nodes_of net) v;
            follows = cycle_at (hop net query) (nodes_of net) v;
            once = cycle_once (hop net query) (nodes_of net) v back;
            comes_back = cycle_closed (hop net query) (nodes_of net) v back;
          }
      go None e m t = absurd t

-- ---- the verdict

module _ (net : Network) where
  says : First (λ h. loops net (query_of net h)) 0 (2 ^ net.width) (verdict_of net)
  unfolding verdict_of
  says = first_says (λ h. loops net (query_of net h)) (2 ^ net.width)

  pub free_says : verdict_of net ≡ Free → NoneGoesRound net
  free_says e h l g =
      subst (First (λ h. loops net (query_of net h)) 0 (2 ^ net.width)) e says h zero-le l (round_loops net (query_of net h) g)

  pub says_free : NoneGoesRound net → verdict_of net ≡ Free
  says_free none = go (verdict_of net) says
    where
      go : (v : Verdict) → First (λ h. loops net (query_of net h)) 0 (2 ^ net.width) v → v ≡ Free
      go Free s = refl
      go (Loop h) s = absurd (none h s.1 (loops_round net (query_of net h) s.2))

  pub loop_says : (h : ℕ) → verdict_of net ≡ Loop h → LeastRound net h
  loop_says h e =
      let s = subst (First (λ h. loops net (query_of net h)) 0 (2 ^ net.width)) e says in
      record {
        header = s.1;
        round = loops_round net (query_of net h) s.2;
        least = λ g l r. s.3 g zero-le l (round_loops net (query_of net g) r);
      }

  pub cycle_says : (h : ℕ) → verdict_of net ≡ Loop h → IsCycle (hop net (query_of net h)) (nodes_of net) (cycle_in net (Loop h))
  unfolding cycle_in
  cycle_says h e = cycle_is net (query_of net h) (subst (First (λ h. loops net (query_of net h)) 0 (2 ^ net.width)) e says).2

-- ---- Judge

-- A judged file has its network's verdict, and the bytes its cycle.
module _ (file : List ℕ) (old : Lent) (j : Judged) (net : Network) (e : (judge_of file old).answer ≡ Ok j) (read : parse file ≡ accepted net) where
  is_fine : judge_of file old ≡ fine net old
  is_fine = judged_is file old j net e read

  verdict_is : verdict_of net ≡ j.verdict
  verdict_is = let same : Ok (said_of net) ≡ Ok j = sym (ap (λ (k : Judgement). k.answer) is_fine) ∙ e in ap (λ (k : Judged). k.verdict) {x = said_of net} {y = j} (cc)

  bytes_are : (judge_of file old).lent.cycle ≡ cycle_bytes (cycle_in net j.verdict) old.cycle
  bytes_are = ap (λ (k : Judgement). k.lent.cycle) is_fine ∙ ap (λ (u : Verdict). cycle_bytes (cycle_in net u) old.cycle) verdict_is

-- Judge says free exactly when no header goes round, and then the 64 bytes are 255.
pub demand2_free : (file : List ℕ) (old : Lent) (figures : Figures) (c : ℕ) (net : Network)
    → (judge_of file old).answer ≡ Ok (record { figures = figures; classes = c; verdict = Free })
    → parse file ≡ accepted net → NoneGoesRound net × ((judge_of file old).lent.cycle ≡ cycle_bytes [] old.cycle)
unfolding cycle_in
demand2_free file old figures c net e p =
    let j : Judged = record { figures = figures; classes = c; verdict = Free } in
    (free_says net (verdict_is file old j net e p), bytes_are file old j net e p)

pub demand2_only_free : (file : List ℕ) (old : Lent) (j : Judged) (net : Network) → (judge_of file old).answer ≡ Ok j
    → parse file ≡ accepted net → NoneGoesRound net → j.verdict ≡ Free
demand2_only_free file old j net e p none = sym (verdict_is file old j net e p) ∙ says_free net none

-- Otherwise it says the least header that goes round, and writes its cycle.
pub demand2_loop : (file : List ℕ) (old : Lent) (figures : Figures) (c h : ℕ) (net : Network)
    → (judge_of file old).answer ≡ Ok (record { figures = figures; classes = c; verdict = Loop h })
    → parse file ≡ accepted net
    → LeastRound net h × ((nodes : List ℕ) × IsCycle (hop net (query_of net h)) (nodes_of net) nodes × ((judge_of file old).lent.cycle ≡ cycle_bytes nodes old.cycle))
demand2_loop file old figures c h net e p =
    let j : Judged = record { figures = figures; classes = c; verdict = Loop h } in
    let v = verdict_is file old j net e p in
    (loop_says net h v, (cycle_in net (Loop h), cycle_says net h v, bytes_are file old j net e p))
