-- What the reading says of an accepted file, as Judge and Walk use it.
use mathlib.Core.Path.{◌≡◌, refl, sym, ◌∙◌, ap, ap₂, subst}
use mathlib.Core.Bool.{Bool, true, false, cond}
use mathlib.Core.List.{List, [], ◌∷◌, ◌++◌, flatten}
use Prim.Native.Nat.{ℕ, zero, suc, ◌≤◌, ◌<◌}
use native.Mathlib.Omega.{arith}
use lib.ListN.{length, get_or, take, drop, length-map}
use Rattle.std.specs.Prelude.{Ok, Err}
use Rattle.std.proofs.Math.Seq.{take-append_seam}
use Rattle.pattern.specs.declared.Pattern.{Pattern}
use Rattle.pattern.specs.Filters.{WellFormed, within}
use Rattle.reading.specs.declared.Figures.{Figures}
use Rattle.reading.specs.declared.Rule.{Rule}
use Rattle.reading.specs.declared.refusals.Refusal.{Refusal}
use Rattle.reading.specs.declared.Mark.{Mark}
use Rattle.reading.specs.Network.{rules_of, filters, act}
use Rattle.reading.specs.Code.{leads_in}
use Rattle.reading.specs.File.{Parsed, refused, accepted, parse, answer_of, read_of}
use Rattle.reading.specs.Arrays.{patterns_of, marks_of, filled, rules_in, part_at}
use Rattle.reading.proofs.Networks.{Every}
use Rattle.reading.proofs.Demand1.{Bounded, accepted_is_bounded, arrays_agree, PartAgrees, parts_agree}
use Rattle.classes.specs.Given.{AllWellFormed}
use Rattle.judge.specs.Forwarding.{nodes_of}
use Rattle.judge.specs.Judging.{Lent, figures_of, judged_of, on_parsed}
use Rattle.judge.specs.Steps.{network_in, network_of, Stands}

-- ---- the answer tells which reading it was

pub record Told (s : List ℕ) (figures : Figures) : Type 0 where
  pub parsed : parse s ≡ accepted (network_of s)
  pub figures_are : figures ≡ figures_of (network_of s)

pub told : (s : List ℕ) (figures : Figures) → Ok figures ≡ read_of s → Told s figures
unfolding network_of
told s figures e = go (parse s) refl e
  where
    go : (p : Parsed) → parse s ≡ p → Ok figures ≡ answer_of p → Told s figures
    go (refused r) q e = cc
    go (accepted net) q e =
        let is : network_in (parse s) ≡ net = ap network_in q in
        let same : figures ≡ figures_of net = cc in
        record { parsed = q ∙ ap accepted (sym is); figures_are = same ∙ ap figures_of (sym is) }

pub told_refused : (s : List ℕ) (r : Refusal) → Err r ≡ read_of s → parse s ≡ refused r
told_refused s r e = go (parse s) e
  where
    go : (p : Parsed) → Err r ≡ answer_of p → p ≡ refused r
    go (refused x) e = cc
    go (accepted net) e = cc

-- ---- what the reading leaves

pub all_formed : (w : ℕ) (fs : List Pattern) → Every (WellFormed w) fs → AllWellFormed w fs
all_formed w [] e = tt
all_formed w (f ∷ fs) e = (e.0, all_formed w fs e.1)

-- ---- a table's actions lead to nodes

every_front : (P : Rule → Type 0) (t u : List Rule) → Every P (t ++ u) → Every P t × Every P u
every_front P [] u e = (tt, e)
every_front P (r ∷ t) u e = let s = every_front P t u e.1 in ((e.0, s.0), s.1)

pub every_table : (P : Rule → Type 0) (ts : List (List Rule)) (v : ℕ) → Every P (flatten ts) → Every P (get_or ts v [])
unfolding flatten
every_table P [] v e = tt
every_table P (t ∷ ts) zero e = (every_front P t (flatten ts) e).0
every_table P (t ∷ ts) (suc v) e = every_table P ts v (every_front P t (flatten ts) e).1

pub act-leads : (n : ℕ) (t : List Rule) (query : Pattern) → Every (λ r. leads_in n r.action ≡ true) t → leads_in n (act t query) ≡ true
unfolding act
act-leads n [] query e = refl
act-leads n (r ∷ t) query e = go (within query r.pattern) (act-leads n t query e.1)
  where
    go : (b : Bool) → leads_in n (act t query) ≡ true → leads_in n (cond b r.action (act t query)) ≡ true
    go true rest = e.0
    go false rest = rest

-- ---- the same, where the answer is given

module _ (s : List ℕ) (figures : Figures) (e : Ok figures ≡ read_of s) where
  t : Told s figures
  t = told s figures e

  bounds : Bounded (network_of s)
  bounds = accepted_is_bounded s (network_of s) t.parsed

  pub width : (network_of s).width ≡ figures.width
  width = ap (λ (f : Figures). f.width) (sym t.figures_are)

  nodes : nodes_of (network_of s) ≡ figures.nodes
  nodes = ap (λ (f : Figures). f.nodes) (sym t.figures_are)

  pub narrow : figures.width ≤ 32
  narrow = omega (arith, bounds.most_width, width)

  pub rules_fit : figures.rules ≤ 256
  rules_fit = omega (arith, bounds.rules_most, ap (λ (f : Figures). f.rules) t.figures_are)

  pub stands : (marks old : List Mark) → marks ≡ filled (marks_of s) old → Stands s marks figures.nodes figures.width
  stands marks old m = record {
    width = width;
    nodes = nodes;
    few = omega (arith, bounds.nodes_most, nodes);
    from = λ v h. (part v h).from;
    upto = λ v h. (part v h).upto;
    table = λ v h. ap (λ (k : ℕ). rules_in k (part_at s marks v)) (sym width) ∙ (part v h).table;
  }
    where
      part : (v : ℕ) → v < figures.nodes → PartAgrees s marks (network_of s) v
      part v h = parts_agree s (network_of s) t.parsed marks old m v (omega (arith, nodes, h))

  pub formed : AllWellFormed (network_of s).width (filters (network_of s))
  formed = all_formed (network_of s).width (filters (network_of s)) bounds.filters_formed

  -- the first of the patterns are the network's filters
  pub filters_are : (patterns old : List Pattern) → patterns ≡ filled (patterns_of s) old → take figures.rules patterns ≡ filters (network_of s)
  filters_are patterns old p =
      ap₂ take many (p ∙ ap (λ (l : List Pattern). filled l old) (arrays_agree s (network_of s) t.parsed).patterns)
      ∙ take-append_seam (filters (network_of s)) (drop (length (filters (network_of s))) old)
    where
      many : figures.rules ≡ length (filters (network_of s))
      many = ap (λ (f : Figures). f.rules) t.figures_are ∙ sym (length-map (rules_of (network_of s)) (λ r. r.pattern))

  pub formed_here : (patterns old : List Pattern) → patterns ≡ filled (patterns_of s) old → AllWellFormed figures.width (take figures.rules patterns)
  formed_here patterns old p = subst (AllWellFormed figures.width) (sym (filters_are patterns old p)) (subst (λ (w : ℕ). AllWellFormed w (filters (network_of s))) width formed)

  pub goes_on : (old : Lent) → judged_of (network_of s) old ≡ on_parsed (parse s) old
  goes_on old = ap (λ (p : Parsed). on_parsed p old) (sym t.parsed)
