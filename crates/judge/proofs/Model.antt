-- The model of source document 004, section 2: in a node's table the first rule whose filter the header matches decides, and no match
-- is a drop. A header as a query lies within a filter exactly when it matches it, so the table's action on the query is that.
use mathlib.Core.Path.{◌≡◌, refl, ◌∙◌, ap}
use mathlib.Core.Bool.{Bool, cond}
use mathlib.Core.List.{List, [], ◌∷◌}
use Prim.Native.Nat.{ℕ}
use lib.ListN.{get_or}
use Rattle.pattern.specs.Filters.{hits, header_of}
use Rattle.pattern.proofs.Within.{header_within}
use Rattle.reading.specs.declared.Action.{Action}
use Rattle.reading.specs.declared.Action.TheVariants.{Drop}
use Rattle.reading.specs.declared.Rule.{Rule}
use Rattle.reading.specs.Network.{Network, act, filters}
use Rattle.reading.specs.File.{accepted, parse}
use Rattle.reading.proofs.Demand1.{accepted_is_bounded}
use Rattle.judge.specs.Forwarding.{act_at, query_of}
use Rattle.judge.proofs.Alike.{AllAmong, tables_among, care_in_lem}
use Rattle.judge.proofs.FromFile.{all_formed}
use Rattle.classes.specs.Given.{AllWellFormed}
use Rattle.pattern.specs.declared.Pattern.{Pattern}

-- The first rule that the header matches acts.
abbrev pub first_match : List Rule → ℕ → Action
first_match [] h = Drop
first_match (r ∷ t) h = cond (hits r.pattern h) r.action (first_match t h)

module _ (w h : ℕ) (fs : List Pattern) (good : AllWellFormed w fs) where
  first_matches : (t : List Rule) → AllAmong fs t → act t (header_of w h) ≡ first_match t h
  unfolding act
  first_matches [] a = refl
  first_matches (r ∷ t) a =
      ap (λ (b : Bool). cond b r.action (act t (header_of w h))) (header_within w h r.pattern (care_in_lem w fs r.pattern good a.0))
      ∙ ap (λ (x : Action). cond (hits r.pattern h) r.action x) (first_matches t a.1)

-- Of an accepted file: what node v does with header h.
pub node_acts : (file : List ℕ) (net : Network) → parse file ≡ accepted net → (h v : ℕ) → act_at net (query_of net h) v ≡ first_match (get_or net.tables v []) h
node_acts file net read h v =
    first_matches net.width h (filters net) (all_formed net.width (filters net) (accepted_is_bounded file net read).filters_formed) (get_or net.tables v []) (tables_among net v)
