-- The code's step, by kind, agrees with the rows of the table of refusals.
use Prim.Native.Nat.{ℕ, ◌+◌, ◌^◌}
use mathlib.Core.Bool.{Bool, true, false, cond, not, ◌&&◌}
use mathlib.Core.List.{List}
use mathlib.Core.Path.{◌≡◌, refl, sym, ap, ◌∙◌}
use native.Mathlib.Nat.{add-zero}
use lib.Bits.{bit_and}
use lib.Dec.{eqb, ltb, leb}
use lib.ListN.{length}
use Rattle.std.specs.Prelude.{Option, Some, None, Result, Ok, Err}
use Rattle.pattern.specs.Notations.{noted_of, complement}
use Rattle.reading.specs.declared.records.Notation.{Notation}
use Rattle.reading.specs.declared.records.Notation.TheVariants.{Caring, Freeing}
use Rattle.reading.specs.declared.records.Doing.{Doing}
use Rattle.reading.specs.declared.records.Doing.TheVariants.{Forwards, Drops, Delivers}
use Rattle.reading.specs.declared.records.Case.{Case}
use Rattle.reading.specs.declared.records.Case.TheVariants.{Network, Table, Rule, End}
use Rattle.reading.specs.declared.records.Shape.{Shape}
use Rattle.reading.specs.declared.refusals.Reason.TheVariants.{OutOfPlace, NoSuchNext, OutsideWidth, ValueAtFree, TooManyRules}
use Rattle.reading.specs.declared.refusals.Refusal.{Refusal}
use Rattle.reading.specs.declared.steps.State.{State}
use Rattle.reading.specs.declared.records.Written.{Written}
use Rattle.reading.specs.declared.records.Record.{Record}
use Rattle.reading.specs.declared.records.Unread.{Unread}
use Rattle.reading.specs.declared.records.Unread.TheVariants.{Missing}
use Rattle.reading.specs.declared.steps.Step.{Step}
use Rattle.reading.specs.declared.steps.Step.TheVariants.{Ruled}
use Rattle.pattern.specs.declared.Pattern.{Pattern}
use Rattle.reading.specs.Kinds.{byte_at, number_at, shape_of}
use Rattle.reading.specs.Refusals.{refusal, rows_at, out_of_place, care_by, forwards, most_rules}
use Rattle.reading.specs.File.{decide, good, step_of, action_of}
use Rattle.reading.specs.Code.{shape, rule_body, body_of, noted_by, whole_at, shaped_at, record_at, network_step, table_step, ruled_step, filter_step, rule_step, end_step, step_on}
use Rattle.reading.proofs.Tests.{by_test}
use Rattle.reading.proofs.Shapes.{of_shape}

-- A choice between refusals is a refusal.
either_way : (b : Bool) (x y : Refusal) → cond {A = Result Step Refusal} b (Err x) (Err y) ≡ Err (cond b x y)
either_way true x y = refl
either_way false x y = refl

module _ (s : List ℕ) (st : State) where
  -- For a record that begins within the file, by what the table says of its kind.
  abbrev Agrees_at : Option Shape → Type 0
  Agrees_at sh =
      leb (length s) st.at ≡ false
      → decide (rows_at s st sh) (good s st sh) ≡ step_on (length s) st (shaped_at s st.at sh)

  abbrev Agrees : Case → Type 0
  Agrees c = Agrees_at (Some (shape c (body_of c)))

  network_agrees : Agrees Network
  unfolding shaped_at whole_at step_on network_step
  network_agrees e = by_test (leb (length s) (st.at + 2)) (λ l. simp (e, l) (either_way (out_of_place Network st) _ _)) (λ l. simp (e, l))

  table_agrees : Agrees Table
  unfolding shaped_at whole_at step_on table_step
  table_agrees e = by_test (leb (length s) (st.at + 1)) (λ l. simp (e, l) (either_way (out_of_place Table st) _ _)) (λ l. simp (e, l))

  end_agrees : Agrees End
  unfolding shaped_at whole_at step_on end_step
  end_agrees e = let l : leb (length s) (st.at + 0) ≡ false = rw add-zero e in simp (e, l)

  unknown_agrees : Agrees_at None
  unfolding shaped_at step_on
  unknown_agrees e = simp e

  -- A rule's filter by the rows 8, 8 and 9, and by the pattern's constructors.
  filter_agrees : (wr : Written) (care mask value : ℕ) (x : Result Step Refusal) → x ≡ ruled_step st wr (record { care = care; value = value })
      → cond (not (ltb mask (2 ^ st.width))) (Err (refusal OutsideWidth st.at))
      (cond (not (ltb value (2 ^ st.width))) (Err (refusal OutsideWidth st.at))
      (cond (not (eqb (bit_and value care) value)) (Err (refusal ValueAtFree st.at)) x))
      ≡ filter_step st wr (noted_of st.width care mask value)
  unfolding filter_step noted_of
  filter_agrees wr care mask value x e =
      by_test (ltb mask (2 ^ st.width)) (λ m.
      by_test (ltb value (2 ^ st.width)) (λ v.
      by_test (eqb (bit_and value care) value) (λ b. simp (m, v, b, e)) (λ b. simp (m, v, b))) (λ v. simp (m, v))) (λ m. simp m)

  -- The next node by row 7, and by the code.
  next_agrees : (n : Notation) (d : Doing) (mask : ℕ) (p : Pattern) (next : ℕ)
      → cond (forwards d && not (ltb next st.nodes)) (Err (refusal NoSuchNext st.at))
      (Ok (Ruled (record { at = st.at + (1 + rule_body d); width = st.width; nodes = st.nodes; tables = st.tables; rules = st.rules + 1 }) (record { pattern = p; action = action_of d next })))
      ≡ ruled_step st (record { notation = n; mask = mask; value = p.value; action = action_of d next; body = rule_body d }) p
  unfolding ruled_step
  next_agrees n Forwards mask p next = by_test (ltb next st.nodes) (λ h. simp h) (λ h. simp h)
  next_agrees n Drops mask p next = refl
  next_agrees n Delivers mask p next = refl

  notation_agrees : (n : Notation) (wr : Written) (mask value : ℕ) (x : Result Step Refusal) → x ≡ ruled_step st wr (record { care = care_by n st.width mask; value = value })
      → cond (not (ltb mask (2 ^ st.width))) (Err (refusal OutsideWidth st.at))
      (cond (not (ltb value (2 ^ st.width))) (Err (refusal OutsideWidth st.at))
      (cond (not (eqb (bit_and value (care_by n st.width mask)) value)) (Err (refusal ValueAtFree st.at)) x))
      ≡ filter_step st wr (noted_by n st.width mask value)
  notation_agrees Caring wr mask value x e = filter_agrees wr mask mask value x e
  notation_agrees Freeing wr mask value x e = filter_agrees wr (complement st.width mask) mask value x e

  rule_agrees : (n : Notation) (d : Doing) → Agrees (Rule n d)
  unfolding shaped_at whole_at step_on rule_step
  rule_agrees n d e =
      by_test (leb (length s) (st.at + rule_body d))
      (λ l. simp (e, l) (ap (cond (out_of_place (Rule n d) st) (Err (refusal OutOfPlace st.at))) (either_way (leb most_rules st.rules) _ _) ∙ either_way (out_of_place (Rule n d) st) _ _))
      (λ l. simp (e, l)
      (ap (λ (x : Result Step Refusal). cond (out_of_place (Rule n d) st) (Err (refusal OutOfPlace st.at)) (cond (leb most_rules st.rules) (Err (refusal TooManyRules st.at)) x))
      (notation_agrees n _ (number_at s (st.at + 1)) (number_at s (st.at + 5)) _ (next_agrees n d (number_at s (st.at + 1)) _ (byte_at s (st.at + 9))))))

  agrees : (c : Case) → Agrees c
  agrees Network = network_agrees
  agrees Table = table_agrees
  agrees (Rule n d) = rule_agrees n d
  agrees End = end_agrees

  -- The step by the rows is what the code does with what stands at the state's place.
  pub step_is : step_of s st ≡ step_on (length s) st (record_at s st.at)
  unfolding step_of record_at step_on
  step_is =
      by_test (leb (length s) st.at) (λ e. simp e)
      (λ e.
      of_shape Agrees_at unknown_agrees agrees (byte_at s st.at) e
      ∙ ap (λ (b : Bool). step_on (length s) st (cond b (Err Missing) (shaped_at s st.at (shape_of (byte_at s st.at))))) (sym e))

  -- The step from what the reader handed back.
  pub stepped : {x : Result Step Refusal} {r : Result Record Unread} → r ≡ record_at s st.at → x ≡ step_on (length s) st r → x ≡ step_of s st
  stepped e q = q ∙ ap (step_on (length s) st) e ∙ sym step_is
