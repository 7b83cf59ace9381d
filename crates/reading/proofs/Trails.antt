-- The trail of a reading: the states from one on, record by record, to the refusal or the end. Every law of a whole file goes
-- down this trail.
use Prim.Native.Nat.{ℕ, zero, suc, ◌+◌, ◌*◌, ◌≤◌, ◌<◌}
use mathlib.Core.List.{List, []}
use mathlib.Core.Path.{◌≡◌, refl, sym, ap, subst}
use native.Mathlib.Omega.{arith}
use lib.ListN.{length}
use Rattle.std.specs.Prelude.{Result, Ok, Err}
use Rattle.reading.specs.declared.Rule.{Rule}
use Rattle.reading.specs.declared.refusals.Refusal.{Refusal}
use Rattle.reading.specs.declared.steps.State.{State}
use Rattle.reading.specs.declared.steps.Step.{Step}
use Rattle.reading.specs.declared.steps.Step.TheVariants.{Opened, Begun, Ruled, Ended}
use Rattle.reading.specs.File.{step_of, Rest, stop, rest, new_table, with_rule, on_step, run, start}
use Rattle.reading.proofs.Tests.{positive}
use Rattle.reading.proofs.Onward.{OpenedOk, BegunOk, RuledOk, told_ok}

-- What holds between two records.
pub record StateOk (s : List ℕ) (st : State) : Type 0 where
  pub inside : st.at ≤ length s
  pub narrow : st.width ≤ 32
  pub nodes : st.nodes ≤ 64
  pub tables : st.tables ≤ st.nodes
  pub rules : st.rules ≤ 256
  pub near : st.at ≤ 3 + 2 * st.tables + 10 * st.rules
  pub fresh : st.width ≡ 0 → (st.at ≡ 0) × (st.tables ≡ 0) × (st.rules ≡ 0)

pub start_ok : (s : List ℕ) → StateOk s start
start_ok s =
    record {
      inside = omega arith;
      narrow = omega arith;
      nodes = omega arith;
      tables = omega arith;
      rules = omega arith;
      near = omega arith;
      fresh = λ _. (refl, refl, refl);
    }

module _ (s : List ℕ) (st next : State) (k : StateOk s st) where
  pub opened_ok : OpenedOk s st next → StateOk s next
  opened_ok o =
      record {
        inside = o.inside;
        narrow = o.narrow;
        nodes = o.few;
        tables = omega (arith, o.tables);
        rules = omega (arith, o.rules);
        near = omega (arith, o.further, (k.fresh o.fresh).0);
        fresh = λ e. absurd (positive o.wide e);
      }

  pub begun_ok : BegunOk s st next → StateOk s next
  begun_ok o = subst (StateOk s) (sym o.goes)
      (record {
        inside = o.inside;
        narrow = k.narrow;
        nodes = k.nodes;
        tables = omega (arith, o.more);
        rules = k.rules;
        near = omega (arith, k.near);
        fresh = λ e. absurd (positive o.begun e);
      })

  pub ruled_ok : {r : Rule} → RuledOk s st next r → StateOk s next
  ruled_ok o = subst (StateOk s) (sym o.goes)
      (record {
        inside = o.inside;
        narrow = k.narrow;
        nodes = k.nodes;
        tables = k.tables;
        rules = omega (arith, o.few);
        near = omega (arith, k.near, o.most);
        fresh = λ e. absurd (positive o.begun e);
      })

-- With enough fuel, as the run goes.
pub data Trail (s : List ℕ) : ℕ → State → Rest → Type 0 where
  stops : {f : ℕ} {st : State} {r : Refusal} → StateOk s st → Err r ≡ step_of s st → Trail s (suc f) st (stop r)
  opens : {f : ℕ} {st next : State} {o : Rest} → StateOk s st → Ok (Opened next) ≡ step_of s st → Trail s f next o → Trail s (suc f) st o
  begins : {f : ℕ} {st next : State} {o : Rest} → StateOk s st → Ok (Begun next) ≡ step_of s st → Trail s f next o → Trail s (suc f) st (new_table o)
  rules : {f : ℕ} {st next : State} {o : Rest} {r : Rule} → StateOk s st → Ok (Ruled next r) ≡ step_of s st → Trail s f next o → Trail s (suc f) st (with_rule r o)
  ends : {f : ℕ} {st : State} → StateOk s st → Ok Ended ≡ step_of s st → Trail s (suc f) st (rest st.width [] [])

no_fuel : {n at : ℕ} → n < zero + at → at ≤ n → ⊥
no_fuel h l = omega arith

module _ (s : List ℕ) where
  abbrev Ready : ℕ → Type 0
  Ready f = (st : State) → StateOk s st → length s < f + st.at → Trail s f st (run f s st)

  turn : (f : ℕ) → Ready f → (st : State) → StateOk s st → length s < suc f + st.at
      → (x : Result Step Refusal) → x ≡ step_of s st → Trail s (suc f) st (on_step st x (run f s))
  unfolding on_step
  turn f go st k room (Err r) e = stops k e
  turn f go st k room (Ok (Opened next)) e =
      let o = told_ok s st e in opens k e (go next (opened_ok s st next k o) (omega (arith, o.further)))
  turn f go st k room (Ok (Begun next)) e =
      let o = told_ok s st e in
      begins k e (go next (begun_ok s st next k o) (omega (arith, ap (λ (x : State). x.at) o.goes)))
  turn f go st k room (Ok (Ruled next r)) e =
      let o = told_ok s st e in
      rules k e (go next (ruled_ok s st next k o) (omega (arith, ap (λ (x : State). x.at) o.goes)))
  turn f go st k room (Ok Ended) e = ends k e

  pub trail : (f : ℕ) → Ready f
  unfolding run
  trail zero st k room = absurd (no_fuel room k.inside)
  trail (suc f) st k room = turn f (trail f) st k room (step_of s st) refl

  -- The whole file's.
  pub whole_trail : Trail s (length s + 1) start (run (length s + 1) s start)
  whole_trail = trail (length s + 1) start (start_ok s) (omega arith)
