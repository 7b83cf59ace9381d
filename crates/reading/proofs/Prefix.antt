-- No answer depends on bytes past the first 4,096: the reading never gets there.
use Prim.Native.Nat.{ℕ, zero, suc, ◌+◌, ◌≤◌, ◌<◌}
use mathlib.Core.Bool.{Bool, cond}
use mathlib.Core.List.{List}
use mathlib.Core.Path.{◌≡◌, refl, sym, ap, subst, ◌∙◌}
use native.Mathlib.Omega.{arith}
use native.Mathlib.Nat.{zero-add}
use borrow.Author.Tests.{leb-true, leb-false, lt-ltb, lt-leb}
use lib.Dec.{leb}
use lib.ListN.{length, take}
use lib.Seq.{take_all}
use Rattle.std.specs.Prelude.{Option, Some, None, Result, Ok, Err}
use Rattle.reading.specs.declared.records.Doing.TheVariants.{Forwards, Drops, Delivers}
use Rattle.reading.specs.declared.records.Case.{Case}
use Rattle.reading.specs.declared.records.Case.TheVariants.{Network, Table, Rule as rule_case, End}
use Rattle.reading.specs.declared.records.Shape.{Shape}
use Rattle.reading.specs.declared.records.Record.{Record}
use Rattle.reading.specs.declared.records.Record.TheVariants as record_of
use Rattle.reading.specs.declared.records.Unread.{Unread}
use Rattle.reading.specs.declared.records.Unread.TheVariants.{Missing, Unknown, Short}
use Rattle.reading.specs.declared.refusals.Refusal.{Refusal}
use Rattle.reading.specs.declared.steps.State.{State}
use Rattle.reading.specs.declared.steps.Step.{Step}
use Rattle.reading.specs.Kinds.{byte_at, shape_of}
use Rattle.reading.specs.File.{step_of, Rest, new_table, with_rule, on_step, run, whole, parse}
use Rattle.reading.specs.Code.{body_of, shaped_at, record_at, end_step, step_on}
use Rattle.reading.proofs.Tests.{by_test, cond_elim}
use Rattle.reading.proofs.Agree.{step_is}
use Rattle.reading.proofs.Places.{body_in, part_length, part_record}
use Rattle.reading.proofs.Shapes.{of_shape}
use Rattle.reading.proofs.Onward.{told_ok}
use Rattle.reading.proofs.Trails.{StateOk, Trail, stops, opens, begins, rules, ends, whole_trail}

body_most : (c : Case) → body_of c ≤ 9
body_most Network = omega arith
body_most Table = omega arith
body_most (rule_case n Forwards) = omega arith
body_most (rule_case n Drops) = omega arith
body_most (rule_case n Delivers) = omega arith
body_most End = omega arith

shape_most : (k : ℕ) → body_in (shape_of k) ≤ 9
shape_most k = of_shape (λ (o : Option Shape). body_in o ≤ 9) (omega arith) body_most k

-- Within the file something stands.
abbrev Present : Result Record Unread → Type 0
Present (Ok r) = Unit
Present (Err (Short c)) = Unit
Present (Err Unknown) = Unit
Present (Err Missing) = ⊥

shaped_present : (s : List ℕ) (at : ℕ) (o : Option Shape) → Present (shaped_at s at o)
unfolding shaped_at
shaped_present s at None = tt
shaped_present s at (Some sh) = cond_elim Present (leb (length s) (at + sh.body)) (λ _. tt) (λ _. tt)

present : (s : List ℕ) (at : ℕ) → at < length s → Present (record_at s at)
unfolding record_at
present s at h =
    subst (λ (b : Bool). Present (cond b (Err Missing) (shaped_at s at (shape_of (byte_at s at))))) (sym (lt-leb (length s) at h))
    (shaped_present s at (shape_of (byte_at s at)))

-- The file's length matters to the step only near its end.
same_length : (n m : ℕ) (st : State) (r : Result Record Unread) → Present r → st.at + 1 < n → st.at + 1 < m → step_on n st r ≡ step_on m st r
unfolding step_on end_step
same_length n m st (Ok (record_of.Network w k)) p a b = refl
same_length n m st (Ok (record_of.Table v)) p a b = refl
same_length n m st (Ok (record_of.Rule wr)) p a b = refl
same_length n m st (Ok record_of.End) p a b = simp (lt-ltb (st.at + 1) n a, lt-ltb (st.at + 1) m b)
same_length n m st (Err (Short c)) p a b = refl
same_length n m st (Err Unknown) p a b = refl
same_length n m st (Err Missing) p a b = absurd p

module _ (s : List ℕ) (long : 4096 ≤ length s) where
  abbrev front : List ℕ
  front = take 4096 s

  front_length : length front ≡ 4096
  front_length = part_length s 0 4096 (omega arith)

  record_same : (at : ℕ) → at + 9 < 4096 → record_at front at ≡ record_at s at
  record_same at h =
      part_record s 0 4096 (omega arith) at (omega (arith, shape_most (byte_at s (0 + at)))) ∙ ap (record_at s) (zero-add at)

  near : (st : State) → StateOk s st → st.at ≤ 2691
  near st k = omega (arith, k.near, k.tables, k.nodes, k.rules)

  step_same : (st : State) → StateOk s st → step_of front st ≡ step_of s st
  step_same st k =
      let n = near st k in
      step_is front st
      ∙ ap (step_on (length front) st) (record_same st.at (omega arith))
      ∙ same_length (length front) (length s) st (record_at s st.at) (present s st.at (omega arith)) (omega (arith, front_length)) (omega arith)
      ∙ sym (step_is s st)

  -- The run over the front alone ends as the run over the file.
  abbrev Same : State → Rest → Type 0
  Same st o = (f : ℕ) → 4096 < f + st.at → run f front st ≡ o

  turn : (st : State) → StateOk s st → {x : Result Step Refusal} → x ≡ step_of s st → (o : Rest)
      → ((f : ℕ) → 4096 < suc f + st.at → on_step st x (run f front) ≡ o) → Same st o
  unfolding run
  turn st k e o go zero h = absurd (no (near st k) h)
    where
      no : {n : ℕ} → n ≤ 2691 → 4096 < zero + n → ⊥
      no l h = omega arith
  turn st k e o go (suc f) h = ap (λ (y : Result Step Refusal). on_step st y (run f front)) (step_same st k ∙ sym e) ∙ go f h

  run-same : {f : ℕ} {st : State} {o : Rest} → Trail s f st o → Same st o
  unfolding on_step
  run-same (stops {st = st} k e) = turn st k e _ (λ f h. refl)
  run-same (opens {st = st} k e t) = turn st k e _ (λ f h. run-same t f (omega (arith, (told_ok s st e).further)))
  run-same (begins {st = st} k e t) = turn st k e _ (λ f h. ap new_table (run-same t f (omega (arith, ap (λ (x : State). x.at) (told_ok s st e).goes))))
  run-same (rules {st = st} {r = r} k e t) = turn st k e _ (λ f h. ap (with_rule r) (run-same t f (omega (arith, ap (λ (x : State). x.at) (told_ok s st e).goes))))
  run-same (ends {st = st} k e) = turn st k e _ (λ f h. refl)

  parse-front : parse front ≡ parse s
  unfolding parse
  parse-front = ap whole (run-same (whole_trail s) (length front + 1) (omega (arith, front_length)))

pub parse-prefix : (s : List ℕ) → parse (take 4096 s) ≡ parse s
parse-prefix s = by_test (leb (length s) 4096) (λ l. ap parse (take_all 4096 s (leb-true (length s) 4096 l))) (λ l. parse-front s (omega (arith, leb-false (length s) 4096 l)))
