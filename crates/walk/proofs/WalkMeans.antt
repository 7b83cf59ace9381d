-- What Walk's answer says. Delivered and dropped: the node that so many hops lead to, whose first matching rule decides so (or none matches);
-- no node was met twice on the way. Circling: the first node that is entered again. A walk ends after at most as many hops as there
-- are nodes, so 16 is never given; and it circles exactly when the header goes round from that start.
use mathlib.Core.Path.{◌≡◌, refl, sym, ◌∙◌, ap, subst}
use mathlib.Core.Logic.{◌↔◌}
use mathlib.Core.Bool.{Bool, true, false, cond, ◌||◌, true≢false}
use mathlib.Core.List.{List, [], ◌∷◌}
use Prim.Native.Nat.{ℕ, zero, suc, ◌+◌, ◌-◌, ◌^◌, ◌≤◌, ◌<◌}
use native.Mathlib.Decide.{ℕ_discrete, dec_lt}
use native.Mathlib.Omega.{arith}
use lib.Dec.{eqb}
use lib.ListN.{get_or}
use Rattle.std.proofs.Math.Bool.{or-true}
use borrow.Author.Tests.{eqb-true, eq-eqb, lt-ltb, ltb-true}
use Rattle.std.specs.Prelude.{Result, Ok, Err}
use Rattle.pattern.specs.declared.Pattern.{Pattern}
use Rattle.reading.specs.declared.Action.{Action}
use Rattle.reading.specs.declared.Action.TheVariants.{Forward, Drop, Deliver}
use Rattle.reading.specs.declared.refusals.Refusal.{Refusal}
use Rattle.reading.specs.Network.{Network}
use Rattle.reading.specs.File.{Parsed, accepted, parse}
use Rattle.reading.specs.Code.{leads_in}
use Rattle.reading.proofs.Demand1.{rules_lead}
use Rattle.rounds.specs.Rounds.{hops, OnCycle}
use Rattle.rounds.proofs.Pigeon.{pigeon}
use Rattle.rounds.proofs.Cycle.{hops_add, ended, live}
use Rattle.judge.specs.Forwarding.{nodes_of, act_at, hop, query_of}
use Rattle.judge.proofs.Demand2.{ends_stay}
use Rattle.walk.specs.declared.Outcome.{Outcome}
use Rattle.walk.specs.declared.Outcome.TheVariants.{Delivered, Dropped, Circling}
use Rattle.walk.specs.Walking.{is_in, on_action, walk_from, walk_through, walk_read, walk_of}
use Rattle.walk.proofs.WalkSteps.{by_walk}
use Rattle.judge.proofs.FromFile.{act-leads, every_table}

-- ---- what is claimed, of a query from a start

-- The first h + 1 nodes of the way differ.
abbrev pub Apart : (ℕ → ℕ) → ℕ → ℕ → Type 0
Apart f start h = (i j : ℕ) → i < j → j ≤ h → hops f i start ≡ hops f j start → ⊥

-- The walk ends at the node after h hops, by the action.
pub record EndsAt (net : Network) (query : Pattern) (start node h : ℕ) (action : Action) : Type 0 where
  pub there : hops (hop net query) h start ≡ node
  pub inside : node < nodes_of net
  pub acts : act_at net query node ≡ action
  pub apart : Apart (hop net query) start h
  pub few : h ≤ nodes_of net

-- The node is the first that is entered again, by the h-th hop.
pub record Repeats (net : Network) (query : Pattern) (start node h : ℕ) : Type 0 where
  pub before : ℕ
  pub hop_more : h ≡ suc before
  pub there : hops (hop net query) h start ≡ node
  pub entered : (i : ℕ) × (i ≤ before) × (hops (hop net query) i start ≡ node)
  pub inside : node < nodes_of net
  pub apart : Apart (hop net query) start before
  pub few : h ≤ nodes_of net

abbrev pub Means : Network → Pattern → ℕ → Result Outcome Refusal → Type 0
Means net query start (Err r) = ⊥
Means net query start (Ok (Delivered node h)) = EndsAt net query start node h Deliver
Means net query start (Ok (Dropped node h)) = EndsAt net query start node h Drop
Means net query start (Ok (Circling node h)) = Repeats net query start node h

-- Following the hops from the start comes to a node that lies on a cycle.
pub record RoundFrom (net : Network) (query : Pattern) (start : ℕ) : Type 0 where
  pub far : ℕ
  pub node : hops (hop net query) far start < nodes_of net
  pub on_cycle : OnCycle (hop net query) (hops (hop net query) far start)

abbrev pub Circles : Result Outcome Refusal → Type 0
Circles (Err r) = ⊥
Circles (Ok (Delivered node h)) = ⊥
Circles (Ok (Dropped node h)) = ⊥
Circles (Ok (Circling node h)) = Unit {0}

-- ---- the walk

module _ (net : Network) (query : Pattern) (leads : (v : ℕ) → v < nodes_of net → leads_in (nodes_of net) (act_at net query v) ≡ true) where
  n : ℕ
  n = nodes_of net

  hop-forward : (v w : ℕ) → v < nodes_of net → act_at net query v ≡ Forward w → hop net query v ≡ w
  unfolding hop
  hop-forward v w lt e = rw (lt-ltb v (nodes_of net) lt, e)

  hop-drop : (v : ℕ) → v < nodes_of net → act_at net query v ≡ Drop → hop net query v ≡ nodes_of net
  unfolding hop
  hop-drop v lt e = rw (lt-ltb v (nodes_of net) lt, e)

  hop_deliver : (v : ℕ) → v < nodes_of net → act_at net query v ≡ Deliver → hop net query v ≡ nodes_of net
  unfolding hop
  hop_deliver v lt e = rw (lt-ltb v (nodes_of net) lt, e)

  module _ (start : ℕ) (lt : start < nodes_of net) where
    record Met (met : List ℕ) (node h : ℕ) : Type 0 where
      here : hops (hop net query) h start ≡ node
      some : (x : ℕ) → is_in x met ≡ true → (i : ℕ) × (i ≤ h) × (hops (hop net query) i start ≡ x)
      each : (i : ℕ) → i ≤ h → is_in (hops (hop net query) i start) met ≡ true
      alive : (i : ℕ) → i ≤ h → hops (hop net query) i start < nodes_of net
      apart : Apart (hop net query) start h

    inside_of : (met : List ℕ) (node h : ℕ) → Met met node h → node < nodes_of net
    inside_of met node h m = subst (λ (v : ℕ). v < nodes_of net) m.here (m.alive h (omega arith))

    grow : (met : List ℕ) (node h w : ℕ) → Met met node h → act_at net query node ≡ Forward w → w < nodes_of net → is_in w met ≡ false → Met (w ∷ met) w (suc h)
    unfolding is_in hops
    grow met node h w m e lw out = record { here = at; some = some'; each = each'; alive = alive'; apart = apart' }
      where
        at : hop net query (hops (hop net query) h start) ≡ w
        at = ap (hop net query) m.here ∙ hop-forward node w (inside_of met node h m) e

        some' : (x : ℕ) → eqb x w || is_in x met ≡ true → (i : ℕ) × (i ≤ suc h) × (hops (hop net query) i start ≡ x)
        some' x = go (eqb x w) refl
          where
            go : (b : Bool) → eqb x w ≡ b → b || is_in x met ≡ true → (i : ℕ) × (i ≤ suc h) × (hops (hop net query) i start ≡ x)
            go true t p = (suc h, omega arith, at ∙ sym (eqb-true x w t))
            go false t p = let r = m.some x p in (r.0, omega arith, r.2)

        each' : (i : ℕ) → i ≤ suc h → eqb (hops (hop net query) i start) w || is_in (hops (hop net query) i start) met ≡ true
        each' i le = go (ℕ_discrete i (suc h))
          where
            go : Dec (i ≡ suc h) → eqb (hops (hop net query) i start) w || is_in (hops (hop net query) i start) met ≡ true
            go (yes p) =
                ap (λ b. b || is_in (hops (hop net query) i start) met) (eq-eqb (hops (hop net query) i start) w (ap (λ k. hops (hop net query) k start) p ∙ at))
            go (no p) =
                ap (λ b. eqb (hops (hop net query) i start) w || b) (m.each i (omega arith)) ∙ or-true (eqb (hops (hop net query) i start) w)

        alive' : (i : ℕ) → i ≤ suc h → hops (hop net query) i start < nodes_of net
        alive' i le = go (ℕ_discrete i (suc h))
          where
            go : Dec (i ≡ suc h) → hops (hop net query) i start < nodes_of net
            go (yes p) = subst (λ (v : ℕ). v < nodes_of net) (sym (ap (λ k. hops (hop net query) k start) p ∙ at)) lw
            go (no p) = m.alive i (omega arith)

        apart' : (i j : ℕ) → i < j → j ≤ suc h → hops (hop net query) i start ≡ hops (hop net query) j start → ⊥
        apart' i j less le q = go (ℕ_discrete j (suc h))
          where
            go : Dec (j ≡ suc h) → ⊥
            go (yes p) =
                let onto : hops (hop net query) i start ≡ w = q ∙ ap (λ k. hops (hop net query) k start) p ∙ at in
                true≢false (sym (sym (ap (λ x. is_in x met) onto) ∙ m.each i (omega arith)) ∙ out)
            go (no p) = m.apart i j less (omega arith) q

    means : (met : List ℕ) (node h k : ℕ) → Met met node h → h + k ≡ nodes_of net → Means net query start (walk_from (act_at net query) met node h k)
    unfolding walk_from on_action hops
    means met node h zero m sum =
        let full : h ≡ nodes_of net = omega arith in
        let r = pigeon (nodes_of net) (λ i. hops (hop net query) i start) (λ i le. m.alive i (omega arith)) in
        m.apart r.0 r.1 r.2 (omega (arith, r.3)) r.4
    means met node h (suc k) m sum = go (act_at net query node) refl (leads node inside) (λ w m'. means (w ∷ met) w (suc h) k m' (omega arith))
      where
        inside : node < nodes_of net
        inside = inside_of met node h m

        fork : (w : ℕ) → act_at net query node ≡ Forward w → w < nodes_of net → (b : Bool) → is_in w met ≡ b
            → (Met (w ∷ met) w (suc h) → Means net query start (walk_from (act_at net query) (w ∷ met) w (suc h) k))
            → Means net query start (cond b (Ok (Circling w (suc h))) (walk_from (act_at net query) (w ∷ met) w (suc h) k))
        fork w e lw true t rec =
            record {
              before = h;
              hop_more = refl;
              there = ap (hop net query) m.here ∙ hop-forward node w inside e;
              entered = m.some w t;
              inside = lw;
              apart = m.apart;
              few = omega arith;
            }
        fork w e lw false t rec = rec (grow met node h w m e lw t)

        go : (a : Action) → act_at net query node ≡ a → leads_in (nodes_of net) a ≡ true
            → ((w : ℕ) → Met (w ∷ met) w (suc h) → Means net query start (walk_from (act_at net query) (w ∷ met) w (suc h) k))
            → Means net query start (on_action a met node h (λ w. walk_from (act_at net query) (w ∷ met) w (suc h) k))
        go (Forward w) e l rec = fork w e (ltb-true w (nodes_of net) l) (is_in w met) refl (rec w)
        go Drop e l rec = record { there = m.here; inside = inside; acts = e; apart = m.apart; few = omega arith }
        go Deliver e l rec = record { there = m.here; inside = inside; acts = e; apart = m.apart; few = omega arith }

    pub walk_means : Means net query start (walk_through (act_at net query) (nodes_of net) start)
    unfolding hops is_in
    walk_means = means (start ∷ []) start 0 (nodes_of net) first (omega arith)
      where
        some' : (x : ℕ) → eqb x start || false ≡ true → (i : ℕ) × (i ≤ 0) × (hops (hop net query) i start ≡ x)
        some' x = go (eqb x start) refl
          where
            go : (b : Bool) → eqb x start ≡ b → b || false ≡ true → (i : ℕ) × (i ≤ 0) × (hops (hop net query) i start ≡ x)
            go true t p = (0, omega arith, sym (eqb-true x start t))
            go false t p = absurd (true≢false (sym p))

        each' : (i : ℕ) → i ≤ 0 → eqb (hops (hop net query) i start) start || false ≡ true
        each' zero le = ap (λ b. b || false) (eq-eqb start start refl)
        each' (suc i) le = absurd (omega arith)

        alive' : (i : ℕ) → i ≤ 0 → hops (hop net query) i start < nodes_of net
        alive' zero le = lt
        alive' (suc i) le = absurd (omega arith)

        first : Met (start ∷ []) start 0
        first = record { here = refl; some = some'; each = each'; alive = alive'; apart = λ i j less le q. omega arith }

    -- ---- circling is going round from the start

    pub circles_round : (answer : Result Outcome Refusal) → Means net query start answer → Circles answer → RoundFrom net query start
    circles_round (Err r) m c = absurd c
    circles_round (Ok (Delivered node h)) m c = absurd c
    circles_round (Ok (Dropped node h)) m c = absurd c
    circles_round (Ok (Circling node h)) m c =
        let i : ℕ = m.entered.0 in
        let d : ℕ = h - i in
        record {
          far = i;
          node = subst (λ (v : ℕ). v < nodes_of net) (sym m.entered.2) m.inside;
          on_cycle = (
            d,
            omega (arith, m.entered.1, m.hop_more),
            sym (hops_add (hop net query) d i start) ∙ ap (λ k. hops (hop net query) k start) (omega (arith, m.entered.1, m.hop_more)) ∙ m.there ∙ sym m.entered.2,
          );
        }

    -- a walk that ends does not go round
    no_round : (node h : ℕ) → hops (hop net query) h start ≡ node → hop net query node ≡ nodes_of net → RoundFrom net query start → ⊥
    unfolding hops
    no_round node h at end g = go (dec_lt h g.far)
      where
        after : hops (hop net query) (suc h) start ≡ nodes_of net
        after = ap (hop net query) at ∙ end

        later : (k : ℕ) → nodes_of net ≤ hops (hop net query) (k + suc h) start
        later k =
            subst (λ (v : ℕ). nodes_of net ≤ v) (sym (hops_add (hop net query) k (suc h) start))
            (ended (hop net query) (nodes_of net) (ends_stay net query) k (hops (hop net query) (suc h) start) (omega (arith, after)))

        go : Dec (h < g.far) → ⊥
        go (yes less) = omega (arith, g.node, later (g.far - suc h), ap (λ k. hops (hop net query) k start) (plus g.far less))
          where
            plus : (far : ℕ) → h < far → far - suc h + suc h ≡ far
            plus far less = omega arith
        go (no more) =
            omega (
              arith,
              live (hop net query) (nodes_of net) (ends_stay net query) (hops (hop net query) g.far start) g.node g.on_cycle (suc h - g.far),
              hops_add (hop net query) (suc h - g.far) g.far start,
              ap (λ k. hops (hop net query) k start) (plus g.far more),
              after,
            )
          where
            plus : (far : ℕ) → (h < far → ⊥) → suc h - far + far ≡ suc h
            plus far more = omega arith

    pub round_circles : (answer : Result Outcome Refusal) → Means net query start answer → RoundFrom net query start → Circles answer
    round_circles (Err r) m g = m
    round_circles (Ok (Delivered node h)) m g = no_round node h m.there (hop_deliver node m.inside m.acts) g
    round_circles (Ok (Dropped node h)) m g = no_round node h m.there (hop-drop node m.inside m.acts) g
    round_circles (Ok (Circling node h)) m g = tt

-- ---- Walk

-- Of an accepted file, a header of its width and a start among its nodes.
module _ (file : List ℕ) (net : Network) (read : parse file ≡ accepted net) (header start : ℕ) (small : header < 2 ^ net.width) (inside : start < nodes_of net) where
  net_leads : (v : ℕ) → v < nodes_of net → leads_in (nodes_of net) (act_at net (query_of net header) v) ≡ true
  net_leads v h =
      act-leads (nodes_of net) (get_or net.tables v []) (query_of net header)
      (every_table (λ r. leads_in (nodes_of net) r.action ≡ true) net.tables v (rules_lead file net read))

  walked : walk_of file header start ≡ walk_through (act_at net (query_of net header)) (nodes_of net) start
  unfolding walk_of
  walked = ap (λ (p : Parsed). walk_read p header start) read ∙ by_walk (act_at net (query_of net header)) net.width (nodes_of net) header start small inside

  -- the answer is what the model says; in particular it is no refusal
  pub walk_says : Means net (query_of net header) start (walk_of file header start)
  walk_says = subst (Means net (query_of net header) start) (sym walked) (walk_means net (query_of net header) net_leads start inside)

  -- it circles exactly when the header goes round from the start
  pub walk_circles : Circles (walk_of file header start) ↔ RoundFrom net (query_of net header) start
  walk_circles = (
    circles_round net (query_of net header) net_leads start inside (walk_of file header start) walk_says,
    round_circles net (query_of net header) net_leads start inside (walk_of file header start) walk_says,
  )
