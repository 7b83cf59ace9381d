-- Demand 1, of the file: every file has its answer, each refusal is given exactly on its condition at its place, an accepted
-- file keeps the bounds of paper 01, no answer depends on bytes past 4,096, and the arrays and the parts of the file agree with
-- the network.
use Prim.Native.Nat.{ℕ, suc, ◌+◌, ◌-◌, ◌≤◌, ◌<◌}
use mathlib.Core.Bool.{true, false}
use mathlib.Core.List.{List, [], ◌∷◌, ◌++◌, map, flatten}
use mathlib.Core.Logic.{◌⊎◌, inl, inr}
use mathlib.Core.Path.{◌≡◌, refl, sym, ap, subst, ◌∙◌}
use native.Mathlib.Omega.{arith}
use native.Mathlib.Numerals.{add-one}
use borrow.Author.Tests.{ltb-true, lt-ltb}
use lib.ListN.{length, get_or, take, drop, get_or-append, get_or-map, length-map}
use Rattle.std.specs.Prelude.{Result, Ok, Err}
use Rattle.pattern.specs.declared.Pattern.{Pattern}
use Rattle.pattern.specs.Filters.{WellFormed}
use Rattle.reading.specs.declared.Figures.{Figures}
use Rattle.reading.specs.declared.Action.{Action}
use Rattle.reading.specs.declared.Action.TheVariants.{Forward, Drop, Deliver}
use Rattle.reading.specs.declared.Rule.{Rule}
use Rattle.reading.specs.declared.Mark.{Mark}
use Rattle.reading.specs.declared.refusals.Refusal.{Refusal}
use Rattle.reading.specs.declared.records.Case.{Case}
use Rattle.reading.specs.declared.steps.State.{State}
use Rattle.reading.specs.declared.steps.Step.{Step}
use Rattle.reading.specs.declared.steps.Step.TheVariants.{Opened, Begun, Ruled}
use Rattle.reading.specs.Kinds.{byte_at, shape_of}
use Rattle.reading.specs.Refusals.{number_of, Row, rows, widest, most_nodes, most_rules}
use Rattle.reading.specs.Network.{Network, rules_of, filters, act}
use Rattle.reading.specs.File.{decide, good, good_at, step_of, Rest, stop, rest, new_table, with_rule, run, start, Parsed, refused, accepted, whole, parse, answer_of, read_of}
use Rattle.reading.specs.Code.{leads_in}
use Rattle.reading.specs.Arrays.{notes, notes_of, per_rule, per_table, mark_of, patterns_of, actions_of, marks_of, firsts_of, begins_of, rules_in, filled, unmarked, place_in, rule_in, part_at}
use Rattle.reading.proofs.Tests.{by_test, no_one}
use Rattle.reading.proofs.Onward.{told_ok}
use Rattle.reading.proofs.Trails.{Trail, stops, opens, begins, rules, ends, whole_trail}
use Rattle.reading.proofs.Progress.{NoRules, none_before, Reading, known_starts, known_opened, known_begun, known_ruled, known_refused}
use Rattle.reading.proofs.Networks.{Every, starts, notes_on, map_notes, NotedIf, noted, GoodRule, Given, GivenIf, given, Opening, never, opened, file_opening, If, of_accepted}
use Rattle.reading.proofs.Parts.{Parted, file_parted}
use Rattle.reading.proofs.Prefix.{parse-prefix}
use Rattle.reading.proofs.Slices.{Slice, slice}

-- ---- Every file has an answer: a network, or a number of the table, 1 to 11. (16, of a reading that ran out of fuel, is none.)
abbrev pub Answered : Parsed → Type 0
Answered (refused r) = (1 ≤ number_of r.reason) × (number_of r.reason ≤ 11)
Answered (accepted net) = Unit

answered_new : (o : Rest) → Answered (whole o) → Answered (whole (new_table o))
answered_new (stop x) a = a
answered_new (rest w rs ts) a = tt

answered_with : (r : Rule) (o : Rest) → Answered (whole o) → Answered (whole (with_rule r o))
answered_with r (stop x) a = a
answered_with r (rest w rs ts) a = tt

answered : {s : List ℕ} {f : ℕ} {st : State} {o : Rest} → Trail s f st o → Answered (whole o)
answered {s} (stops {st = st} k e) = told_ok s st e
answered (opens k e t) = answered t
answered (begins {o = o} k e t) = answered_new o (answered t)
answered (rules {o = o} {r = r} k e t) = answered_with r o (answered t)
answered (ends k e) = tt

pub every_file_is_answered : (s : List ℕ) → Answered (parse s)
unfolding parse
every_file_is_answered s = answered (whole_trail s)

-- ---- Each refusal exactly on its condition: the states that the reading comes to by records that no row refuses.
pub data Reached (s : List ℕ) : State → Type 0 where
  at-start : Reached s start
  after-network : {st next : State} → Reached s st → Ok (Opened next) ≡ step_of s st → Reached s next
  after_table : {st next : State} → Reached s st → Ok (Begun next) ≡ step_of s st → Reached s next
  after-rule : {st next : State} {r : Rule} → Reached s st → Ok (Ruled next r) ≡ step_of s st → Reached s next

-- The first row that holds has this reason and place.
abbrev pub Decides : List Row → Refusal → Type 0
Decides [] x = ⊥
Decides (r ∷ rs) x = ((r.given ≡ true) × (r.refusal ≡ x)) ⊎ ((r.given ≡ false) × Decides rs x)

-- The record at a state that is reached is the first faulty one.
pub record FirstFault (s : List ℕ) (x : Refusal) : Type 0 where
  pub state : State
  pub reached : Reached s state
  pub decides : Decides (rows s state) x

-- What a good record does is no refusal.
pub good_case : (s : List ℕ) (st : State) (c : Case) (next : ℕ) (r : Refusal) → Ok (good_at s st c next) ≡ Err r → ⊥
good_case s st c next r e = let z : ◌≡◌ {A = ℕ} 0 1 = cc in no_one z

-- The rows decide, and nothing else.
rows-decide : (rs : List Row) (g : Step) (x : Refusal) → decide rs g ≡ Err x → Decides rs x
rows-decide [] g x e = let z : ◌≡◌ {A = ℕ} 0 1 = cc in absurd (no_one z)
rows-decide (r ∷ rs) g x e =
    by_test r.given
    (λ t. let q : Err r.refusal ≡ Err x = simp t at e in inl (t, cc))
    (λ f. let q : decide rs g ≡ Err x = simp f at e in inr (f, rows-decide rs g x q))

decide_by_rows : (rs : List Row) (g : Step) (x : Refusal) → Decides rs x → decide rs g ≡ Err x
decide_by_rows [] g x d = absurd d
decide_by_rows (r ∷ rs) g x (inl d) = let t = d.0 in let a = d.1 in simp t (cc)
decide_by_rows (r ∷ rs) g x (inr d) = let f = d.0 in simp f (decide_by_rows rs g x d.1)

reading_at : {s : List ℕ} {st : State} → Reached s st → Reading s st
reading_at {s} at-start = record { fuel = length s + 1; known = known_starts s }
reading_at {s} (after-network {st = st} r e) = let k = reading_at r in record { fuel = k.fuel - 1; known = known_opened s k.fuel st k.known e }
reading_at {s} (after_table {st = st} r e) = let k = reading_at r in record { fuel = k.fuel - 1; known = known_begun s k.fuel st k.known e }
reading_at {s} (after-rule {st = st} r e) = let k = reading_at r in record { fuel = k.fuel - 1; known = known_ruled s k.fuel st k.known e }

-- A file whose first faulty record is decided by this row is refused with its reason and place ..
pub refused_at_the_first_fault : (s : List ℕ) (x : Refusal) → FirstFault s x → Err x ≡ read_of s
unfolding step_of
refused_at_the_first_fault s x d =
    let k = reading_at d.reached in
    known_refused s k.fuel d.state k.known (sym (decide_by_rows (rows s d.state) _ x d.decides))

stop_new : (o : Rest) (x : Refusal) → new_table o ≡ stop x → o ≡ stop x
stop_new (stop y) x e = e
stop_new (rest w rs ts) x e = let z : ◌≡◌ {A = ℕ} 0 1 = cc in absurd (no_one z)

stop_with : (r : Rule) (o : Rest) (x : Refusal) → with_rule r o ≡ stop x → o ≡ stop x
stop_with r (stop y) x e = e
stop_with r (rest w rs ts) x e = let z : ◌≡◌ {A = ℕ} 0 1 = cc in absurd (no_one z)

first_fault : {s : List ℕ} {f : ℕ} {st : State} {o : Rest} → Trail s f st o → Reached s st → (x : Refusal) → o ≡ stop x → FirstFault s x
unfolding step_of
first_fault {s} (stops {st = st} {r = y} k e) r x q =
    let same : Err y ≡ Err x = cc in
    record { state = st; reached = r; decides = rows-decide (rows s st) (good s st (shape_of (byte_at s st.at))) x (sym e ∙ same) }
first_fault (opens k e t) r x q = first_fault t (after-network r e) x q
first_fault (begins {o = o} k e t) r x q = first_fault t (after_table r e) x (stop_new o x q)
first_fault (rules {o = o} {r = ru} k e t) r x q = first_fault t (after-rule r e) x (stop_with ru o x q)
first_fault (ends k e) r x q = let z : ◌≡◌ {A = ℕ} 0 1 = cc in absurd (no_one z)

-- .. and no other file is.
pub refused_only_at_the_first_fault : (s : List ℕ) (x : Refusal) → read_of s ≡ Err x → FirstFault s x
unfolding parse
refused_only_at_the_first_fault s x e = first_fault (whole_trail s) at-start x (stopped (run (length s + 1) s start) e)
  where
    stopped : (o : Rest) → answer_of (whole o) ≡ Err x → o ≡ stop x
    stopped (stop y) e = cc
    stopped (rest w rs ts) e = let z : ◌≡◌ {A = ℕ} 0 1 = cc in absurd (no_one z)

-- ---- An accepted file keeps the bounds.
abbrev pub NextBelow : ℕ → Action → Type 0
NextBelow n (Forward next) = next < n
NextBelow n Drop = Unit
NextBelow n Deliver = Unit

pub record Bounded (net : Network) : Type 0 where
  pub least_width : 1 ≤ net.width
  pub most_width : net.width ≤ widest
  pub least_nodes : 1 ≤ length net.tables
  pub nodes_most : length net.tables ≤ most_nodes
  pub rules_most : length (rules_of net) ≤ most_rules
  -- Every next node is below N, and every filter is well formed within the width.
  pub next_nodes : Every (λ r. NextBelow (length net.tables) r.action) (rules_of net)
  pub filters_formed : Every (WellFormed net.width) (filters net)

-- What the file gives from a state on that is to meet the network record.
record Gives (s : List ℕ) (f : ℕ) (st : State) (w : ℕ) (ts : List (List Rule)) : Type 0 where
  bounded : Bounded (record { width = w; tables = ts })
  firsts : notes (per_table (λ st. st.rules)) f s st ≡ starts 0 ts
  short : length s ≤ 2692

all_formed : (w n : ℕ) (rs : List Rule) → Every (GoodRule w n) rs → Every (WellFormed w) (map (λ r. r.pattern) rs)
all_formed w n [] g = tt
all_formed w n (r ∷ rs) g = (g.0.formed, all_formed w n rs g.1)

leads_below : (n : ℕ) (a : Action) → leads_in n a ≡ true → NextBelow n a
leads_below n (Forward next) e = ltb-true next n e
leads_below n Drop e = tt
leads_below n Deliver e = tt

all_lead : (w n : ℕ) (rs : List Rule) → Every (GoodRule w n) rs → Every (λ r. NextBelow n r.action) rs
all_lead w n [] g = tt
all_lead w n (r ∷ rs) g = (leads_below n r.action g.0.leads, all_lead w n rs g.1)

module _ (s : List ℕ) (f : ℕ) (st next : State) (e : Ok (Opened next) ≡ step_of s st) where
  given_gives : (w : ℕ) (rs : List Rule) (ts : List (List Rule)) → rs ≡ [] → Given s f next w rs ts → Gives s (suc f) st w ts
  given_gives w rs ts none g =
      let q = told_ok s st e in
      let n : next.nodes ≡ length ts = omega (arith, g.nodes, q.tables) in
      let good : Every (GoodRule w (length ts)) (flatten ts) = subst (λ (l : List Rule). Every (GoodRule w (length ts)) (l ++ flatten ts)) none (subst (λ (n : ℕ). Every (GoodRule w n) (rs ++ flatten ts)) n g.good) in
      record {
        bounded =
            record {
              least_width = omega (arith, g.width, q.wide);
              most_width = omega (arith, g.width, q.narrow);
              least_nodes = omega (arith, n, q.some);
              nodes_most = omega (arith, n, q.few);
              rules_most = omega (arith, g.count);
              next_nodes = all_lead w (length ts) (flatten ts) good;
              filters_formed = all_formed w (length ts) (flatten ts) good;
            };
        firsts =
            notes_on (per_table (λ st. st.rules)) s f st e ∙ g.firsts
            ∙ ap (λ (n : ℕ). starts n ts) (omega (arith, q.rules, ap length none));
        short = g.short;
      }

opening_gives : {s : List ℕ} {f : ℕ} {st : State} {o : Rest} → Opening s f st o → If (Gives s f st) o
opening_gives never = tt
opening_gives {s} (opened {f = f} {st = st} {next = next} {o = o} k e t) =
    let q = told_ok s st e in
    go o (none_before t q.tables) (given t (omega (arith, q.wide)))
  where
    go : (o : Rest) → NoRules o → GivenIf s f next o → If (Gives s (suc f) st) o
    go (stop x) z g = tt
    go (rest w rs ts) z g = given_gives s f st next e w rs ts z g

gives : (s : List ℕ) (net : Network) → parse s ≡ accepted net → Gives s (length s + 1) start net.width net.tables
gives s net e = of_accepted (Gives s (length s + 1) start) s net (opening_gives (file_opening s)) e

pub accepted_is_bounded : (s : List ℕ) (net : Network) → parse s ≡ accepted net → Bounded net
accepted_is_bounded s net e = (gives s net e).bounded

-- The code's test passes for each rule.
pub rules_lead : (s : List ℕ) (net : Network) → parse s ≡ accepted net → Every (λ r. leads_in (length net.tables) r.action ≡ true) (rules_of net)
rules_lead s net e = go (rules_of net) (accepted_is_bounded s net e).next_nodes
  where
    below_leads : (n : ℕ) (a : Action) → NextBelow n a → leads_in n a ≡ true
    below_leads n (Forward next) h = lt-ltb next n h
    below_leads n Drop h = refl
    below_leads n Deliver h = refl

    go : (rs : List Rule) → Every (λ r. NextBelow (length net.tables) r.action) rs → Every (λ r. leads_in (length net.tables) r.action ≡ true) rs
    go [] h = tt
    go (r ∷ rs) h = (below_leads (length net.tables) r.action h.0, go rs h.1)

-- ---- No answer depends on bytes past the first 4,096, and an accepted file is shorter by far.
pub only_the_first_4096_bytes : (s : List ℕ) → read_of (take 4096 s) ≡ read_of s
only_the_first_4096_bytes s = ap answer_of (parse-prefix s)

pub accepted_is_short : (s : List ℕ) (net : Network) → parse s ≡ accepted net → length s ≤ 2692
accepted_is_short s net e = (gives s net e).short

-- ---- The working arrays hold the network's rules, in file order ..
pub record ArraysAgree (s : List ℕ) (net : Network) : Type 0 where
  pub patterns : patterns_of s ≡ filters net
  pub actions : actions_of s ≡ map (λ r. r.action) (rules_of net)
  pub firsts : firsts_of s ≡ starts 0 net.tables

noted_file : {A : Type 0} (h : Rule → A) (s : List ℕ) → If (λ w ts. notes_of (per_rule h) s ≡ map h (flatten ts)) (run (length s + 1) s start)
noted_file {A} h s = go (run (length s + 1) s start) (none_before (whole_trail s) refl) (noted h (whole_trail s))
  where
    go : (o : Rest) → NoRules o → NotedIf h (notes_of (per_rule h) s) o → If (λ w ts. notes_of (per_rule h) s ≡ map h (flatten ts)) o
    go (stop x) z e = tt
    go (rest w rs ts) z e = e ∙ ap (λ (l : List Rule). map h (l ++ flatten ts)) z

noted_rules : {A : Type 0} (h : Rule → A) (s : List ℕ) (net : Network) → parse s ≡ accepted net → notes_of (per_rule h) s ≡ map h (rules_of net)
noted_rules h s net e = of_accepted (λ w ts. notes_of (per_rule h) s ≡ map h (flatten ts)) s net (noted_file h s) e

pub arrays_agree : (s : List ℕ) (net : Network) → parse s ≡ accepted net → ArraysAgree s net
arrays_agree s net e =
    record {
      patterns = noted_rules (λ r. r.pattern) s net e;
      actions = noted_rules (λ r. r.action) s net e;
      firsts = map_notes (λ (m : Mark). m.rule) mark_of s (length s + 1) start ∙ (gives s net e).firsts;
    }

-- .. node v's between its first and the next node's first.
pub table_in_arrays : (net : Network) (v : ℕ) → v < length net.tables → Slice 0 net.tables v
table_in_arrays net v h = slice 0 net.tables v h

-- ---- Node v's part of the file gives node v's table, so the lookup in it is the table's.
pub record PartAgrees (s : List ℕ) (marks : List Mark) (net : Network) (v : ℕ) : Type 0 where
  pub from : place_in marks v + 2 ≤ place_in marks (v + 1)
  pub upto : place_in marks (v + 1) ≤ length s
  pub table : rules_in net.width (part_at s marks v) ≡ get_or net.tables v []

module _ (s : List ℕ) (net : Network) (e : parse s ≡ accepted net) where
  parted : Parted s (begins_of s) net.width net.tables
  parted = of_accepted (Parted s (begins_of s)) s net (file_parted s) e

  pub as_many_marks : length (marks_of s) ≡ length net.tables + 1
  as_many_marks = sym (length-map (marks_of s) (λ (m : Mark). m.place)) ∙ parted.many ∙ sym (add-one (length net.tables))

  -- By the marks that `fill` stores, in front of whatever stood in the array.
  module _ (marks old : List Mark) (q : marks ≡ filled (marks_of s) old) where
    mark_at : (v : ℕ) → v ≤ length net.tables → get_or marks v unmarked ≡ get_or (marks_of s) v unmarked
    mark_at v h =
        ap (λ (l : List Mark). get_or l v unmarked) q
        ∙ get_or-append (marks_of s) (drop (length (marks_of s)) old) unmarked v (omega (arith, as_many_marks))

    place_at : (v : ℕ) → v ≤ length net.tables → place_in marks v ≡ get_or (begins_of s) v 0
    place_at v h = ap (λ (m : Mark). m.place) (mark_at v h) ∙ sym (get_or-map (λ (m : Mark). m.place) (marks_of s) v unmarked)

    -- A mark has the number of its node's first rule.
    pub firsts_agree : (v : ℕ) → v ≤ length net.tables → rule_in marks v ≡ get_or (starts 0 net.tables) v 0
    firsts_agree v h =
        ap (λ (m : Mark). m.rule) (mark_at v h)
        ∙ sym (get_or-map (λ (m : Mark). m.rule) (marks_of s) v unmarked)
        ∙ ap (λ (l : List ℕ). get_or l v 0) (arrays_agree s net e).firsts

    pub parts_agree : (v : ℕ) → v < length net.tables → PartAgrees s marks net v
    parts_agree v h =
        let p = parted.each v h in
        let a : place_in marks v ≡ get_or (begins_of s) v 0 = place_at v (omega arith) in
        let b : place_in marks (v + 1) ≡ get_or (begins_of s) (suc v) 0 =
        place_at (v + 1) (omega arith) ∙ ap (λ (n : ℕ). get_or (begins_of s) n 0) (add-one v)
        in
        record { from = omega (arith, a, b, p.from); upto = omega (arith, b, p.upto); table = rw (a, b) p.table }

    pub lookup_in_the_part : (v : ℕ) → v < length net.tables → (query : Pattern)
        → act (rules_in net.width (part_at s marks v)) query ≡ act (get_or net.tables v []) query
    lookup_in_the_part v h query = ap (λ (t : List Rule). act t query) (parts_agree v h).table

-- ---- Read's contract leaves one answer.
pub read_is_determined : (s : List ℕ) (r r' : Result Figures Refusal) → r ≡ read_of s → r' ≡ read_of s → r ≡ r'
read_is_determined s r r' e e' = e ∙ sym e'
