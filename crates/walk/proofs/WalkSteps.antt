-- The walk, a rule and a hop at a time; the marks of the nodes entered; and that no walk is without an end.
use mathlib.Core.Path.{◌≡◌, refl, sym, ◌∙◌, ap}
use mathlib.Core.Bool.{Bool, true, false, ◌||◌}
use mathlib.Core.List.{List, [], ◌∷◌}
use Prim.Native.Nat.{ℕ, ◌+◌, ◌-◌, ◌^◌, ◌≤◌, ◌<◌, zero-le}
use native.Mathlib.Nat.{sub-zero}
use native.Mathlib.Numerals.{add-one}
use native.Mathlib.Decide.{ℕ_discrete}
use native.Mathlib.Omega.{arith}
use lib.ListN.{length, get_or, set, replicate, length-replicate, get_or-replicate, length-set}
use lib.Seq.{get_or-set_same, get_or-set_other}
use lib.Dec.{eqb}
use borrow.Author.Tests.{eq-eqb, ne_eqb, lt-ltb, le-ltb, ltb-true}
use Rattle.std.specs.Prelude.{Ok, Err}
use Rattle.pattern.specs.Filters.{hits}
use Rattle.reading.specs.declared.Action.{Action}
use Rattle.reading.specs.declared.Action.TheVariants.{Forward, Drop, Deliver}
use Rattle.reading.specs.declared.Arrays.{Arrays}
use Rattle.reading.specs.declared.refusals.Reason.TheVariants.{WideHeader, NoSuchStart, NoEnd}
use Rattle.reading.specs.Refusals.{refusal}
use Rattle.reading.specs.Arrays.{rule_in}
use Rattle.reading.specs.Code.{leads_in}
use Rattle.rounds.proofs.Cycle.{fuel}
use Rattle.walk.specs.declared.Outcome.TheVariants.{Delivered, Dropped, Circling}
use Rattle.walk.specs.Walking.{is_in, on_action, walk_from, walk_through, walk_by}
use Rattle.walk.specs.Steps.{rule_at, first_in, acts_in, TablesIn}

-- ---- the walk, a hop at a time

module _ (acts : ℕ → Action) where
  pub walk_first : (n s : ℕ) → walk_from acts (s ∷ []) s 0 n ≡ walk_from acts (s ∷ []) s 0 (n - 0)
  walk_first n s = rw (sub-zero n)

  module _ (n : ℕ) (met : List ℕ) (node hops : ℕ) (lt : hops < n) where
    pub on_deliver : acts node ≡ Deliver → walk_from acts met node hops (n - hops) ≡ Ok (Delivered node hops)
    unfolding walk_from on_action
    on_deliver e = rw (fuel n hops lt, e)

    pub on_drop : acts node ≡ Drop → walk_from acts met node hops (n - hops) ≡ Ok (Dropped node hops)
    unfolding walk_from on_action
    on_drop e = rw (fuel n hops lt, e)

    pub on_circle : (w : ℕ) → acts node ≡ Forward w → is_in w met ≡ true → walk_from acts met node hops (n - hops) ≡ Ok (Circling w (hops + 1))
    unfolding walk_from on_action
    on_circle w e i = rw (fuel n hops lt, e, i, add-one hops)

    pub on_forward : (w : ℕ) → acts node ≡ Forward w → is_in w met ≡ false → walk_from acts met node hops (n - hops) ≡ walk_from acts (w ∷ met) w (hops + 1) (n - (hops + 1))
    unfolding walk_from on_action
    on_forward w e i = rw (fuel n hops lt, e, i, add-one hops)

  pub on_none : (n : ℕ) (met : List ℕ) (node hops : ℕ) → n ≤ hops → walk_from acts met node hops (n - hops) ≡ Err (refusal NoEnd 0)
  unfolding walk_from
  on_none n met node hops le = let z : n - hops ≡ 0 = omega arith in rw z

-- ---- the marks of the nodes met

-- seen is true at the nodes of met, and false elsewhere
abbrev pub Marks : List Bool → List ℕ → Type 0
Marks seen met = (v : ℕ) → v < length seen → get_or seen v false ≡ is_in v met

pub marks_more : (seen : List Bool) (met : List ℕ) (w : ℕ) → Marks seen met → Marks (set seen w true) (w ∷ met)
unfolding is_in
marks_more seen met w m v h = go (ℕ_discrete v w)
  where
    lt : v < length seen
    lt = simp length-set at h

    go : Dec (v ≡ w) → get_or (set seen w true) v false ≡ (eqb v w || is_in v met)
    go (yes e) = rw (eq-eqb v w e) (ap (λ y. get_or (set seen w true) y false) e ∙ get_or-set_same seen w true false (omega (arith, lt)))
    go (no e) = rw (ne_eqb v w e) (get_or-set_other seen w v true false e ∙ m v lt)

pub marks_none : (k : ℕ) → Marks (replicate k false) []
unfolding is_in
marks_none k v h = get_or-replicate k v false false (simp length-replicate at h)

-- ---- what holds at each hop: the walk from here is the walk, and seen marks the nodes met

pub record Here (acts : ℕ → Action) (n start : ℕ) (seen : List Bool) (node hops : ℕ) : Type 0 where
  pub inside : node < n
  pub few : hops ≤ n
  pub size : length seen ≡ 64
  pub met : List ℕ
  pub marks : Marks seen met
  pub rest : walk_through acts n start ≡ walk_from acts met node hops (n - hops)

pub here_first : (acts : ℕ → Action) (n start : ℕ) → start < n → Here acts n start (set (replicate 64 false) start true) start 0
here_first acts n start lt = record {
  inside = lt;
  few = zero-le;
  size = length-set (replicate 64 false) start true;
  met = start ∷ [];
  marks = marks_more (replicate 64 false) [] start (marks_none 64);
  rest = walk_first acts n start;
}

pub ends_late : (acts : ℕ → Action) (n start : ℕ) (seen : List Bool) (node hops : ℕ) → Here acts n start seen node hops → hops ≡ n
    → Err (refusal NoEnd 0) ≡ walk_through acts n start
ends_late acts n start seen node hops h e = sym (h.rest ∙ on_none acts n h.met node hops (omega arith))

-- ---- what holds at each rule of the node's table: the rules from i on decide what the node does

pub record Looking (a : Arrays) (n header start : ℕ) (seen : List Bool) (node hops i end : ℕ) : Type 0 where
  pub few : n ≤ 64
  pub early : hops < n
  pub upto : end ≤ 256
  pub leads : (j : ℕ) → j < end → leads_in n (rule_at a j).action ≡ true
  pub here : Here (acts_in a header) n start seen node hops
  pub decide : acts_in a header node ≡ first_in a header i (end - i)

module _ (a : Arrays) (n header start : ℕ) (seen : List Bool) (node hops : ℕ) where
  pub looks : TablesIn a n → Here (acts_in a header) n start seen node hops → (hops ≡ n → ⊥) → Looking a n header start seen node hops (rule_in a.marks node) (rule_in a.marks (node + 1))
  unfolding acts_in
  looks stand h ne = record {
    few = stand.few;
    early = omega (arith, h.few);
    upto = stand.upto node h.inside;
    leads = stand.leads node h.inside;
    here = h;
    decide = refl;
  }

  module _ (i end : ℕ) (look : Looking a n header start seen node hops i end) where
    -- no rule is left
    pub ends_none : end ≤ i → Ok (Dropped node hops) ≡ walk_through (acts_in a header) n start
    unfolding first_in
    ends_none le =
        let z : end - i ≡ 0 = omega arith in
        sym (look.here.rest ∙ on_drop (acts_in a header) n look.here.met node hops look.early (look.decide ∙ (rw z)))

    module _ (lt : i < end) where
      pub looks_on : false ≡ hits (rule_at a i).pattern header → Looking a n header start seen node hops (i + 1) end
      unfolding first_in
      looks_on m = record { few = look.few; early = look.early; upto = look.upto; leads = look.leads; here = look.here; decide = look.decide ∙ (rw (fuel end i lt, ← m, add-one i)) }

      -- rule i acts
      module _ (m : true ≡ hits (rule_at a i).pattern header) where
        acts : acts_in a header node ≡ (rule_at a i).action
        unfolding first_in
        acts = look.decide ∙ (rw (fuel end i lt, ← m))

        pub ends_deliver : (rule_at a i).action ≡ Deliver → Ok (Delivered node hops) ≡ walk_through (acts_in a header) n start
        ends_deliver e = sym (look.here.rest ∙ on_deliver (acts_in a header) n look.here.met node hops look.early (acts ∙ e))

        pub ends_drop : (rule_at a i).action ≡ Drop → Ok (Dropped node hops) ≡ walk_through (acts_in a header) n start
        ends_drop e = sym (look.here.rest ∙ on_drop (acts_in a header) n look.here.met node hops look.early (acts ∙ e))

        module _ (next : ℕ) (e : (rule_at a i).action ≡ Forward next) where
          inside : next < n
          inside = ltb-true next n (sym (ap (leads_in n) e) ∙ look.leads i lt)

          mark : get_or seen next false ≡ is_in next look.here.met
          mark = look.here.marks next (omega (arith, look.here.size, look.few, inside))

          pub ends_circling : get_or seen next false ≡ true → Ok (Circling next (hops + 1)) ≡ walk_through (acts_in a header) n start
          ends_circling s = sym (look.here.rest ∙ on_circle (acts_in a header) n look.here.met node hops look.early next (acts ∙ e) (sym mark ∙ s))

          pub here_next : get_or seen next false ≡ false → Here (acts_in a header) n start (set seen next true) next (hops + 1)
          here_next s = record {
            inside = inside;
            few = omega (arith, look.early);
            size = length-set seen next true ∙ look.here.size;
            met = next ∷ look.here.met;
            marks = marks_more seen look.here.met next look.here.marks;
            rest = look.here.rest ∙ on_forward (acts_in a header) n look.here.met node hops look.early next (acts ∙ e) (sym mark ∙ s);
          }

-- ---- the checks before it

module _ (acts : ℕ → Action) (w n header start : ℕ) where
  pub by_14 : 2 ^ w ≤ header → walk_by acts w n header start ≡ Err (refusal WideHeader 0)
  unfolding walk_by
  by_14 h = rw (le-ltb header (2 ^ w) h)

  pub by_15 : header < 2 ^ w → n ≤ start → walk_by acts w n header start ≡ Err (refusal NoSuchStart 0)
  unfolding walk_by
  by_15 l h = rw (lt-ltb header (2 ^ w) l, le-ltb start n h)

  pub by_walk : header < 2 ^ w → start < n → walk_by acts w n header start ≡ walk_from acts (start ∷ []) start 0 n
  unfolding walk_by
  by_walk l h = rw (lt-ltb header (2 ^ w) l, lt-ltb start n h)
