-- Reading a file in a loop: between two records, the rest of the file gives what `read_of` gives, and what the working arrays
-- are to hold.
use Prim.Native.Nat.{ℕ, suc, ◌+◌, ◌-◌, ◌<◌}
use mathlib.Core.List.{List, [], flatten}
use mathlib.Core.Path.{◌≡◌, refl, sym, ap, ◌∙◌}
use native.Mathlib.Omega.{arith}
use lib.ListN.{length, length-append}
use Rattle.std.specs.Prelude.{Result, Ok, Err}
use Rattle.reading.specs.declared.Figures.{Figures}
use Rattle.reading.specs.declared.Rule.{Rule}
use Rattle.reading.specs.declared.refusals.Refusal.{Refusal}
use Rattle.reading.specs.declared.steps.State.{State}
use Rattle.reading.specs.declared.steps.Step.{Step}
use Rattle.reading.specs.declared.steps.Step.TheVariants.{Opened, Begun, Ruled, Ended}
use Rattle.reading.specs.File.{step_of, Rest, stop, rest, new_table, with_rule, on_step, run, start, whole, parse, answer_of, read_of}
use Rattle.reading.proofs.Tests.{positive}
use Rattle.reading.proofs.Onward.{OpenedOk, BegunOk, RuledOk, EndedOk, told_ok}
use Rattle.reading.proofs.Trails.{StateOk, start_ok, opened_ok, begun_ok, ruled_ok, Trail, stops, opens, begins, rules, ends, whole_trail}

-- ---- The answer from a state on: what was counted so far, and what the rest gives.
abbrev pub figures : State → Rest → Result Figures Refusal
figures st (stop x) = Err x
figures st (rest w rs ts) = Ok (record { width = w; nodes = st.tables + length ts; rules = st.rules + (length rs + length (flatten ts)) })

abbrev pub figures_are : ℕ → ℕ → ℕ → Result Figures Refusal
figures_are w n r = Ok (record { width = w; nodes = n; rules = r })

accepted_same : (w : ℕ) {a b c d : ℕ} → a ≡ b → c ≡ d → figures_are w a c ≡ figures_are w b d
accepted_same w e q = cc

module _ (s : List ℕ) (st next : State) where
  figures_opened : (o : Rest) → StateOk s st → OpenedOk s st next → figures st o ≡ figures next o
  figures_opened (stop x) k q = refl
  figures_opened (rest w rs ts) k q =
      let z = k.fresh q.fresh in
      accepted_same w (omega (arith, z.1, q.tables)) (omega (arith, z.2, q.rules))

  figures_begun : (o : Rest) → BegunOk s st next → figures st (new_table o) ≡ figures next o
  unfolding flatten
  figures_begun (stop x) q = refl
  figures_begun (rest w rs ts) q =
      let t : next.tables ≡ st.tables + 1 = ap (λ (x : State). x.tables) q.goes in
      let r : next.rules ≡ st.rules = ap (λ (x : State). x.rules) q.goes in
      accepted_same w (omega arith) (omega (arith, length-append rs (flatten ts)))

  figures_ruled : (r : Rule) (o : Rest) → RuledOk s st next r → figures st (with_rule r o) ≡ figures next o
  figures_ruled r (stop x) q = refl
  figures_ruled r (rest w rs ts) q =
      let t : next.tables ≡ st.tables = ap (λ (x : State). x.tables) q.goes in
      let c : next.rules ≡ st.rules + 1 = ap (λ (x : State). x.rules) q.goes in
      accepted_same w (omega arith) (omega arith)

  figures_ended : StateOk s st → EndedOk s st → figures_are st.width st.nodes st.rules ≡ figures st (rest st.width [] [])
  unfolding flatten
  figures_ended k q = accepted_same st.width (omega (arith, q.all, k.tables)) (omega arith)

-- No rule stands before the first table.
abbrev pub NoRules : Rest → Type 0
NoRules (stop x) = Unit
NoRules (rest w rs ts) = rs ≡ []

new_table_none : (o : Rest) → NoRules (new_table o)
new_table_none (stop x) = tt
new_table_none (rest w rs ts) = refl

pub none_before : {s : List ℕ} {f : ℕ} {st : State} {o : Rest} → Trail s f st o → st.tables ≡ 0 → NoRules o
none_before (stops k e) z = tt
none_before {s} (opens {st = st} k e t) z = none_before t (told_ok s st e).tables
none_before (begins {o = o} k e t) z = new_table_none o
none_before {s} (rules {st = st} k e t) z = absurd (positive (told_ok s st e).in_table z)
none_before (ends k e) z = refl

figures-whole : (o : Rest) → NoRules o → answer_of (whole o) ≡ figures start o
figures-whole (stop x) z = refl
figures-whole (rest w rs ts) z = accepted_same w (omega arith) (omega (arith, ap length z))

-- ---- Between two records, with fuel f left.
pub record Known (s : List ℕ) (f : ℕ) (st : State) : Type 0 where
  pub ok : StateOk s st
  pub room : length s < f + st.at
  pub agrees : read_of s ≡ figures st (run f s st)

pub known_starts : (s : List ℕ) → Known s (length s + 1) start
unfolding parse
known_starts s =
    record {
      ok = start_ok s;
      room = omega arith;
      agrees = figures-whole (run (length s + 1) s start) (none_before (whole_trail s) refl);
    }

module _ (s : List ℕ) (f : ℕ) (st : State) (known : Known s f st) where
  pub fueled : f ≡ suc (f - 1)
  fueled = omega (arith, known.room, known.ok.inside)

  turned : {x : Result Step Refusal} → x ≡ step_of s st → run f s st ≡ on_step st x (run (f - 1) s)
  unfolding run
  turned e = ap (λ (n : ℕ). run n s st) fueled ∙ ap (λ (y : Result Step Refusal). on_step st y (run (f - 1) s)) (sym e)

  follow : {x : Result Step Refusal} → x ≡ step_of s st → read_of s ≡ figures st (on_step st x (run (f - 1) s))
  follow e = known.agrees ∙ ap (figures st) (turned e)

  pub known_opened : {next : State} → Ok (Opened next) ≡ step_of s st → Known s (f - 1) next
  unfolding on_step
  known_opened {next} e =
      let q = told_ok s st e in
      record {
        ok = opened_ok s st next known.ok q;
        room = omega (arith, known.room, known.ok.inside, q.further);
        agrees = follow e ∙ figures_opened s st next (run (f - 1) s next) known.ok q;
      }

  pub known_begun : {next : State} → Ok (Begun next) ≡ step_of s st → Known s (f - 1) next
  unfolding on_step
  known_begun {next} e =
      let q = told_ok s st e in
      record {
        ok = begun_ok s st next known.ok q;
        room = omega (arith, known.room, known.ok.inside, ap (λ (x : State). x.at) q.goes);
        agrees = follow e ∙ figures_begun s st next (run (f - 1) s next) q;
      }

  pub known_ruled : {next : State} {r : Rule} → Ok (Ruled next r) ≡ step_of s st → Known s (f - 1) next
  unfolding on_step
  known_ruled {next} {r} e =
      let q = told_ok s st e in
      record {
        ok = ruled_ok s st next known.ok q;
        room = omega (arith, known.room, known.ok.inside, ap (λ (x : State). x.at) q.goes);
        agrees = follow e ∙ figures_ruled s st next r (run (f - 1) s next) q;
      }

  pub known_refused : {r : Refusal} → Err r ≡ step_of s st → Err r ≡ read_of s
  unfolding on_step
  known_refused e = sym (follow e)

  pub known_ended : Ok Ended ≡ step_of s st → figures_are st.width st.nodes st.rules ≡ read_of s
  unfolding on_step
  known_ended e = figures_ended s st st known.ok (told_ok s st e) ∙ sym (follow e)

  -- Each record leaves less of the file.
  pub less_opened : {next : State} → Ok (Opened next) ≡ step_of s st → length s - next.at < length s - st.at
  less_opened e = let q = told_ok s st e in omega (arith, q.further, q.inside)

  pub less_begun : {next : State} → Ok (Begun next) ≡ step_of s st → length s - next.at < length s - st.at
  less_begun e = let q = told_ok s st e in omega (arith, ap (λ (x : State). x.at) q.goes, q.inside)

  pub less_ruled : {next : State} {r : Rule} → Ok (Ruled next r) ≡ step_of s st → length s - next.at < length s - st.at
  less_ruled e = let q = told_ok s st e in omega (arith, ap (λ (x : State). x.at) q.goes, q.inside)

-- The same, whatever fuel is left.
pub record Reading (s : List ℕ) (st : State) : Type 0 where
  pub fuel : ℕ
  pub known : Known s fuel st
