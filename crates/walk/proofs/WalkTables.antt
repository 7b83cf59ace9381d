-- The working arrays hold the network's tables: what a node does by them is what its table does.
use mathlib.Core.Path.{◌≡◌, refl, sym, ◌∙◌, ap, ap₂, subst}
use mathlib.Core.Bool.{Bool, true, false, cond}
use mathlib.Core.List.{List, [], ◌∷◌, map, flatten}
use Prim.Native.Nat.{ℕ, zero, suc, ◌+◌, ◌-◌, ◌^◌, ◌≤◌, ◌<◌}
use native.Mathlib.Nat.{sub-zero}
use native.Mathlib.Numerals.{add-one}
use native.Mathlib.Omega.{arith}
use lib.Dec.{ltb}
use lib.ListN.{length, get_or, take, drop, replicate, length-append, length-map, get_or-append, get_or-map}
use lib.Seq.{drop-cons}
use borrow.Author.Tests.{ltb-true}
use Rattle.std.specs.Prelude.{Result, Ok, Err}
use Rattle.pattern.specs.declared.Pattern.{Pattern}
use Rattle.pattern.specs.Filters.{hits, header_of, all_free}
use Rattle.reading.specs.declared.Action.{Action}
use Rattle.reading.specs.declared.Action.TheVariants.{Forward, Drop, Deliver}
use Rattle.reading.specs.declared.Arrays.{Arrays}
use Rattle.reading.specs.declared.Figures.{Figures}
use Rattle.reading.specs.declared.Rule.{Rule}
use Rattle.reading.specs.declared.refusals.Refusal.{Refusal}
use Rattle.reading.specs.declared.refusals.Reason.TheVariants.{WideHeader, NoSuchStart}
use Rattle.reading.specs.Refusals.{refusal}
use Rattle.reading.specs.Network.{rules_of}
use Rattle.reading.specs.File.{Parsed, read_of}
use Rattle.reading.specs.Code.{leads_in}
use Rattle.reading.specs.Arrays.{patterns_of, actions_of, marks_of, filled, rule_in, unmarked}
use Rattle.reading.proofs.Networks.{Every, starts}
use Rattle.reading.proofs.Demand1.{rules_lead, Bounded, accepted_is_bounded, ArraysAgree, arrays_agree, table_in_arrays, firsts_agree}
use Rattle.judge.specs.Forwarding.{nodes_of, act_at}
use Rattle.judge.specs.Steps.{network_of}
use Rattle.judge.proofs.FromFile.{Told, told, told_refused, act-leads, every_table}
use Rattle.judge.proofs.Model.{first_match, node_acts}
use Rattle.walk.specs.declared.Outcome.{Outcome}
use Rattle.walk.specs.declared.Outcome.TheVariants.{Circling}
use Rattle.walk.specs.Walking.{is_in, on_action, walk_from, walk_through, walk_by, walk_read, walk_of}
use Rattle.walk.specs.Steps.{rule_at, first_in, acts_in, TablesIn}

-- a rule whose action leads to a node below n
abbrev Leads : ℕ → Rule → Type 0
Leads n r = leads_in n r.action ≡ true

-- ---- rules that stand in the arrays

-- what stands past the last rule
abbrev blank : Rule
blank = record { pattern = all_free; action = Forward 0 }

-- an array that begins with a note of each rule has at place j that of rule j
noted_at : {A : Type 0} (g : Rule → A) (R : List Rule) (array noted old : List A) → array ≡ filled noted old → noted ≡ map g R → (j : ℕ) → j < length R
    → get_or array j (g blank) ≡ g (get_or R j blank)
noted_at {A} g R array noted old e f j h =
    ap (λ (l : List A). get_or l j (g blank)) (e ∙ ap (λ (l : List A). filled l old) f)
    ∙ get_or-append (map g R) (drop (length (map g R)) old) (g blank) j (omega (arith, length-map R g, h))
    ∙ get_or-map g R j blank

every_at : (P : Rule → Type 0) (R : List Rule) (j : ℕ) → Every P R → j < length R → P (get_or R j blank)
every_at P [] j e h = absurd (omega arith)
every_at P (r ∷ R) zero e h = e.0
every_at P (r ∷ R) (suc j) e h = every_at P R j e.1 (omega arith)

-- ---- the numbers of the tables' first rules

starts_le : (k : ℕ) (ts : List (List Rule)) (v : ℕ) → v ≤ length ts → get_or (starts k ts) v 0 ≤ k + length (flatten ts)
unfolding flatten
starts_le k [] zero h = omega arith
starts_le k [] (suc v) h = absurd (omega arith)
starts_le k (t ∷ ts) zero h = omega arith
starts_le k (t ∷ ts) (suc v) h = omega (arith, starts_le (k + length t) ts v (omega arith), length-append t (flatten ts))

-- ---- two walks by functions that agree at the nodes

module _ (f g : ℕ → Action) (n : ℕ) (agree : (v : ℕ) → v < n → f v ≡ g v) (leads : (v : ℕ) → v < n → leads_in n (g v) ≡ true) where
  walk_same : (met : List ℕ) (node hops k : ℕ) → node < n → walk_from f met node hops k ≡ walk_from g met node hops k
  unfolding walk_from on_action
  walk_same met node hops zero lt = refl
  walk_same met node hops (suc k) lt =
      ap (λ (a : Action). on_action a met node hops (λ next. walk_from f (next ∷ met) next (suc hops) k)) (agree node lt)
      ∙ go (g node) (leads node lt) (λ next h. walk_same (next ∷ met) next (suc hops) k h)
    where
      go : (a : Action) → leads_in n a ≡ true → ((next : ℕ) → next < n → walk_from f (next ∷ met) next (suc hops) k ≡ walk_from g (next ∷ met) next (suc hops) k)
          → on_action a met node hops (λ next. walk_from f (next ∷ met) next (suc hops) k) ≡ on_action a met node hops (λ next. walk_from g (next ∷ met) next (suc hops) k)
      go (Forward next) l rec = ap (λ (x : Result Outcome Refusal). cond (is_in next met) (Ok (Circling next (suc hops))) x) (rec next (ltb-true next n l))
      go Drop l rec = refl
      go Deliver l rec = refl

  pub walk_by-same : (w header start : ℕ) → walk_by f w n header start ≡ walk_by g w n header start
  unfolding walk_by
  walk_by-same w header start = ap (λ (x : Result Outcome Refusal). cond (ltb header (2 ^ w)) x (Err (refusal WideHeader 0))) (go (ltb start n) refl)
    where
      go : (b : Bool) → ltb start n ≡ b → cond b (walk_through f n start) (Err (refusal NoSuchStart 0)) ≡ cond b (walk_through g n start) (Err (refusal NoSuchStart 0))
      go true t = walk_same (start ∷ []) start 0 n (ltb-true start n t)
      go false t = refl

-- ---- what the reading left in the arrays

pub walk_refused : (s : List ℕ) (header start : ℕ) (r : Refusal) → Err r ≡ read_of s → Err r ≡ walk_of s header start
unfolding walk_of
walk_refused s header start r e = ap (λ (p : Parsed). walk_read p header start) (sym (told_refused s r e))

module _ (s : List ℕ) (figures : Figures) (e : Ok figures ≡ read_of s) (a : Arrays) (patterns : a.patterns ≡ filled (patterns_of s) (replicate 256 all_free))
    (actions : a.actions ≡ filled (actions_of s) (replicate 256 Drop)) (marks : a.marks ≡ filled (marks_of s) (replicate 65 unmarked)) where
  t : Told s figures
  t = told s figures e

  bounds : Bounded (network_of s)
  bounds = accepted_is_bounded s (network_of s) t.parsed

  arrays : ArraysAgree s (network_of s)
  arrays = arrays_agree s (network_of s) t.parsed

  nodes : nodes_of (network_of s) ≡ figures.nodes
  nodes = ap (λ (f : Figures). f.nodes) (sym t.figures_are)

  width : (network_of s).width ≡ figures.width
  width = ap (λ (f : Figures). f.width) (sym t.figures_are)

  first_at : (v : ℕ) → v ≤ figures.nodes → rule_in a.marks v ≡ get_or (starts 0 (network_of s).tables) v 0
  first_at v h = firsts_agree s (network_of s) t.parsed a.marks (replicate 65 unmarked) marks v (omega (arith, nodes, h))

  last_le : (v : ℕ) → v ≤ figures.nodes → rule_in a.marks v ≤ length (rules_of (network_of s))
  last_le v h = omega (arith, first_at v h, starts_le 0 (network_of s).tables v (omega (arith, nodes)))

  all_lead : Every (Leads figures.nodes) (rules_of (network_of s))
  all_lead = subst (λ (m : ℕ). Every (Leads m) (rules_of (network_of s))) nodes (rules_lead s (network_of s) t.parsed)

  rule-at : (j : ℕ) → j < length (rules_of (network_of s)) → rule_at a j ≡ get_or (rules_of (network_of s)) j blank
  rule-at j h = λ i. record {
    pattern = noted_at (λ r. r.pattern) (rules_of (network_of s)) a.patterns (patterns_of s) (replicate 256 all_free) patterns arrays.patterns j h i;
    action = noted_at (λ r. r.action) (rules_of (network_of s)) a.actions (actions_of s) (replicate 256 Drop) actions arrays.actions j h i;
  }

  pub stands : TablesIn a figures.nodes
  stands = record {
    few = omega (arith, bounds.nodes_most, nodes);
    upto = λ v h. omega (arith, last_le (v + 1) (omega arith), bounds.rules_most);
    leads = λ v h i l. ap (λ (r : Rule). leads_in figures.nodes r.action) (rule-at i (inside v i h l)) ∙ every_at (Leads figures.nodes) (rules_of (network_of s)) i all_lead (inside v i h l);
  }
    where
      inside : (v i : ℕ) → v < figures.nodes → i < rule_in a.marks (v + 1) → i < length (rules_of (network_of s))
      inside v i h l = omega (arith, last_le (v + 1) (omega arith))

  first_stands : (h j k : ℕ) → j + k ≤ length (rules_of (network_of s)) → first_in a h j k ≡ first_match (take k (drop j (rules_of (network_of s)))) h
  unfolding first_in
  first_stands h j zero le = refl
  first_stands h j (suc k) le =
      ap₂ (λ (x : Rule) (rest : Action). cond (hits x.pattern h) x.action rest) (rule-at j (omega arith)) (first_stands h (suc j) k (omega arith))
      ∙ sym (ap (λ (l : List Rule). first_match (take (suc k) l) h) (drop-cons (rules_of (network_of s)) j blank (omega arith)))

  table_at : (v : ℕ) → v < figures.nodes → take (rule_in a.marks (v + 1) - rule_in a.marks v) (drop (rule_in a.marks v) (rules_of (network_of s))) ≡ get_or (network_of s).tables v []
  table_at v lt =
      ap₂ (λ (a b : ℕ). take (b - a) (drop a (rules_of (network_of s)))) (first_at v (omega arith))
      (first_at (v + 1) (omega arith) ∙ ap (λ (i : ℕ). get_or (starts 0 (network_of s).tables) i 0) (add-one v))
      ∙ ap (λ (a : ℕ). take (get_or (starts 0 (network_of s).tables) (suc v) 0 - get_or (starts 0 (network_of s).tables) v 0) (drop a (rules_of (network_of s))))
      (sym (sub-zero (get_or (starts 0 (network_of s).tables) v 0)))
      ∙ (table_in_arrays (network_of s) v (omega (arith, nodes))).rules

  -- the first rule that the header matches is the first that contains it as a query
  acts_agree : (h v : ℕ) → v < figures.nodes → acts_in a h v ≡ act_at (network_of s) (header_of figures.width h) v
  unfolding acts_in
  acts_agree h v lt =
      first_stands h (rule_in a.marks v) (rule_in a.marks (v + 1) - rule_in a.marks v) (omega (arith, last_le v (omega arith), last_le (v + 1) (omega arith)))
      ∙ ap (λ (l : List Rule). first_match l h) (table_at v lt)
      ∙ sym (node_acts s (network_of s) t.parsed h v)
      ∙ ap (λ (k : ℕ). act_at (network_of s) (header_of k h) v) width

  acts_lead : (query : Pattern) (v : ℕ) → v < figures.nodes → leads_in figures.nodes (act_at (network_of s) query v) ≡ true
  acts_lead query v h = act-leads figures.nodes (get_or (network_of s).tables v []) query (every_table (Leads figures.nodes) (network_of s).tables v all_lead)

  pub walk_is : (header start : ℕ) → walk_by (acts_in a header) figures.width figures.nodes header start ≡ walk_of s header start
  unfolding walk_of
  walk_is header start =
      walk_by-same (acts_in a header) (act_at (network_of s) (header_of figures.width header)) figures.nodes (acts_agree header) (acts_lead (header_of figures.width header)) figures.width header start
      ∙ ap₂ (λ (k m : ℕ). walk_by (act_at (network_of s) (header_of k header)) k m header start) (sym width) (sym nodes)
      ∙ sym (ap (λ (p : Parsed). walk_read p header start) t.parsed)
