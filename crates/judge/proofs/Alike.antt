-- All headers of a class move alike: a rule's filter contains the class's pattern exactly when it matches the header.
use mathlib.Core.Path.{◌≡◌, refl, sym, ◌∙◌, ap, fun_ext, subst}
use mathlib.Core.Logic.{◌⊎◌, inl, inr}
use mathlib.Core.Bool.{Bool, cond}
use mathlib.Core.List.{List, [], ◌∷◌, ◌++◌, map, flatten}
use Prim.Native.Nat.{ℕ, zero, suc, ◌^◌, ◌<◌}
use lib.Dec.{T, ltb}
use lib.ListN.{get_or}
use Rattle.std.specs.Prelude.{is_some}
use Rattle.pattern.specs.declared.Pattern.{Pattern}
use Rattle.pattern.specs.Filters.{within, header_of}
use Rattle.pattern.proofs.Within.{header_within}
use Rattle.reading.specs.declared.Action.{Action}
use Rattle.reading.specs.declared.Rule.{Rule}
use Rattle.reading.specs.Network.{Network, act, filters}
use Rattle.classes.specs.Classes.{pat_of, same, among}
use Rattle.classes.specs.Given.{AllWellFormed}
use Rattle.classes.proofs.Order.{or_l, or_r, or_says, same_says, same_refl}
use Rattle.classes.proofs.Listed.{class-hits}
use Rattle.rounds.specs.Rounds.{lowest}
use Rattle.judge.specs.Forwarding.{nodes_of, leads_to, hop, query_of}
use Rattle.judge.specs.Verdicts.{loops}

abbrev pattern_of : Rule → Pattern
pattern_of r = r.pattern

-- every rule's filter is one of fs
abbrev pub AllAmong : List Pattern → List Rule → Type 0
AllAmong fs [] = Unit
AllAmong fs (r ∷ t) = T (among r.pattern fs) × AllAmong fs t

-- the rules in front of a list, where all of it is among fs
front-among : (fs : List Pattern) (t u : List Rule) → ((p : Pattern) → T (among p (map pattern_of (t ++ u))) → T (among p fs)) → AllAmong fs t
front-among fs [] u h = tt
front-among fs (r ∷ t) u h = (
  h r.pattern (or_l (same r.pattern r.pattern) (among r.pattern (map pattern_of (t ++ u))) (same_refl r.pattern)),
  front-among fs t u (λ p m. h p (or_r (same p r.pattern) (among p (map pattern_of (t ++ u))) m)),
)

rest-among : (p : Pattern) (t u : List Rule) → T (among p (map pattern_of u)) → T (among p (map pattern_of (t ++ u)))
rest-among p [] u m = m
rest-among p (r ∷ t) u m = or_r (same p r.pattern) (among p (map pattern_of (t ++ u))) (rest-among p t u m)

table-among : (fs : List Pattern) (ts : List (List Rule)) (v : ℕ) → ((p : Pattern) → T (among p (map pattern_of (flatten ts))) → T (among p fs)) → AllAmong fs (get_or ts v [])
unfolding flatten
table-among fs [] v h = tt
table-among fs (t ∷ ts) zero h = front-among fs t (flatten ts) h
table-among fs (t ∷ ts) (suc v) h = table-among fs ts v (λ p m. h p (rest-among p t (flatten ts) m))

-- every table's filters are among the network's
pub tables_among : (net : Network) (v : ℕ) → AllAmong (filters net) (get_or net.tables v [])
tables_among net v = table-among (filters net) net.tables v (λ p m. m)

pub care_in_lem : (w : ℕ) (fs : List Pattern) (p : Pattern) → AllWellFormed w fs → T (among p fs) → p.care < 2 ^ w
care_in_lem w [] p g m = absurd m
care_in_lem w (f ∷ fs) p g m = go (care_in_lem w fs p g.1) (or_says (same p f) (among p fs) m)
  where
    go : (T (among p fs) → p.care < 2 ^ w) → T (same p f) ⊎ T (among p fs) → p.care < 2 ^ w
    go rest (inl s) = subst (λ (q : Pattern). q.care < 2 ^ w) (sym ((same_says p f).0 s)) g.0.0
    go rest (inr s) = rest s

module _ (w : ℕ) (fs : List Pattern) (good : AllWellFormed w fs) (h : ℕ) (l : h < 2 ^ w) where
  -- one filter: it contains the class's pattern exactly when it contains the header
  filter_alike : (f : Pattern) → T (among f fs) → within (pat_of fs h) f ≡ within (header_of w h) f
  filter_alike f m = sym (class-hits w fs f m h l) ∙ sym (header_within w h f (care_in_lem w fs f good m))

  pub act-alike : (t : List Rule) → AllAmong fs t → act t (pat_of fs h) ≡ act t (header_of w h)
  unfolding act
  act-alike [] a = refl
  act-alike (r ∷ t) a =
      ap (λ (b : Bool). cond b r.action (act t (pat_of fs h))) (filter_alike r.pattern a.0)
      ∙ ap (λ (x : Action). cond (within (header_of w h) r.pattern) r.action x) (act-alike t a.1)

module _ (net : Network) (good : AllWellFormed net.width (filters net)) (h : ℕ) (l : h < 2 ^ net.width) where
  pub hop-alike : hop net (pat_of (filters net) h) ≡ hop net (query_of net h)
  unfolding hop
  hop-alike = fun_ext (λ v. ap (λ (a : Action). cond (ltb v (nodes_of net)) (leads_to (nodes_of net) a) v)
      (act-alike net.width (filters net) good h l (get_or net.tables v []) (tables_among net v)))

  pub loops-alike : loops net (pat_of (filters net) h) ≡ loops net (query_of net h)
  unfolding loops
  loops-alike = ap (λ f. is_some (lowest f (nodes_of net))) hop-alike
