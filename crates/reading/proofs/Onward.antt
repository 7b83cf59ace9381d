-- What one record does to the reading: the one walk over the step that every later law rests on.
use Prim.Native.Nat.{ℕ, zero, suc, ◌+◌, ◌^◌, ◌≤◌, ◌<◌}
use mathlib.Core.Bool.{Bool, true, false, cond, not, true≢false}
use mathlib.Core.List.{List}
use mathlib.Core.Path.{◌≡◌, refl, sym, subst, ◌∙◌}
use native.Mathlib.Omega.{arith}
use borrow.Author.Tests.{leb-true, leb-false, ltb-true, ltb-false, eqb-true, not-false}
use lib.Bits.{bit_and}
use lib.Dec.{T, leb, ltb, eqb, lit≤}
use lib.ListN.{length}
use Rattle.std.specs.Prelude.{Result, Ok, Err}
use Rattle.pattern.specs.declared.Pattern.{Pattern}
use Rattle.pattern.specs.declared.Flaw.{Flaw}
use Rattle.pattern.specs.declared.Flaw.TheVariants.{WideMask, WideValue, ValueAtFree as free_bit}
use Rattle.pattern.specs.Filters.{WellFormed}
use Rattle.pattern.specs.Notations.{noted_of, complement}
use Rattle.pattern.proofs.Masks.{complement_lt}
use Rattle.reading.specs.declared.Rule.{Rule as TheRule}
use Rattle.reading.specs.declared.records.Notation.{Notation}
use Rattle.reading.specs.declared.records.Notation.TheVariants.{Caring, Freeing}
use Rattle.reading.specs.declared.records.Doing.TheVariants.{Drops}
use Rattle.reading.specs.declared.records.Case.{Case}
use Rattle.reading.specs.declared.records.Case.TheVariants.{Network, Table, Rule, End}
use Rattle.reading.specs.declared.records.Written.{Written}
use Rattle.reading.specs.declared.records.Record.{Record}
use Rattle.reading.specs.declared.records.Record.TheVariants as record_of
use Rattle.reading.specs.declared.records.Unread.{Unread}
use Rattle.reading.specs.declared.records.Unread.TheVariants.{Missing, Unknown, Short}
use Rattle.reading.specs.declared.refusals.Reason.{Reason}
use Rattle.reading.specs.declared.refusals.Reason.TheVariants.{UnknownKind, OutOfPlace, CutShort, BadWidth, BadNodeCount, TableNumber, NoSuchNext, OutsideWidth, ValueAtFree, TooManyRules, AfterTheEnd}
use Rattle.reading.specs.declared.refusals.Refusal.{Refusal}
use Rattle.reading.specs.declared.steps.State.{State}
use Rattle.reading.specs.declared.steps.Step.{Step}
use Rattle.reading.specs.declared.steps.Step.TheVariants.{Opened, Begun, Ruled, Ended}
use Rattle.reading.specs.Refusals.{number_of, out_of_place, one_too_many, between, most_rules}
use Rattle.reading.specs.File.{step_of}
use Rattle.reading.specs.Code.{noted_by, noted_in, leads_in, network_step, table_step, ruled_step, filter_step, rule_step, end_step, short_refusal, step_on, record_at}
use Rattle.reading.proofs.Tests.{by_test, cond_elim, neither}
use Rattle.reading.proofs.Agree.{step_is}
use Rattle.reading.proofs.Places.{Inside, inside}

-- ---- What each record in place tells.
not_zero : (n : ℕ) → eqb n 0 ≡ false → 0 < n
not_zero zero e = absurd (true≢false e)
not_zero (suc n) e = omega arith

-- Every record but the network's stands after it.
begun : (st : State) (b : Bool) → cond (eqb st.width 0) true b ≡ false → 0 < st.width
begun st b e = not_zero st.width (neither (eqb st.width 0) b e).0

-- A table record is in place only where a table is still to come.
pub table_placed : (st : State) → out_of_place Table st ≡ false → st.tables < st.nodes
table_placed st e = leb-false st.nodes st.tables (neither (eqb st.width 0) (leb st.nodes st.tables) e).1

-- A range test that did not fail.
in_range : (a b n : ℕ) → not (between a b n) ≡ false → (a ≤ n) × (n ≤ b)
in_range a b n e =
    by_test (leb a n) (λ l. by_test (leb n b) (λ h. (leb-true a n l, leb-true n b h)) (λ h. absurd (true≢false (sym (simp (l, h)) ∙ e))))
    (λ l. absurd (true≢false (sym (simp l) ∙ e)))

-- A filter that is fine is well formed.
abbrev NotedOk : ℕ → Result Pattern Flaw → Type 0
NotedOk w (Ok p) = WellFormed w p
NotedOk w (Err flaw) = Unit

noted_ok : (w care mask value : ℕ) → (mask < 2 ^ w → care < 2 ^ w) → NotedOk w (noted_of w care mask value)
unfolding noted_of
noted_ok w care mask value small =
    cond_elim (NotedOk w) (ltb mask (2 ^ w)) (λ m.
    cond_elim (NotedOk w) (ltb value (2 ^ w)) (λ v.
    cond_elim (NotedOk w) (eqb (bit_and value care) value) (λ b. (small (ltb-true mask (2 ^ w) m), eqb-true (bit_and value care) value b)) (λ _. tt))
    (λ _. tt)) (λ _. tt)

written_ok : (w : ℕ) (n : Notation) (mask value : ℕ) → NotedOk w (noted_by n w mask value)
written_ok w Caring mask value = noted_ok w mask mask value (λ m. m)
written_ok w Freeing mask value = noted_ok w (complement w mask) mask value (complement_lt w mask)

-- ---- What is known after a record that is not refused.
pub record OpenedOk (s : List ℕ) (st next : State) : Type 0 where
  pub fresh : st.width ≡ 0
  pub wide : 1 ≤ next.width
  pub narrow : next.width ≤ 32
  pub some : 1 ≤ next.nodes
  pub few : next.nodes ≤ 64
  pub tables : next.tables ≡ 0
  pub rules : next.rules ≡ 0
  pub further : next.at ≡ st.at + 3
  pub inside : next.at ≤ length s

pub record BegunOk (s : List ℕ) (st next : State) : Type 0 where
  pub begun : 0 < st.width
  pub more : st.tables < st.nodes
  pub goes : next ≡ record { at = st.at + 2; width = st.width; nodes = st.nodes; tables = st.tables + 1; rules = st.rules }
  pub inside : st.at + 2 ≤ length s

pub record RuledOk (s : List ℕ) (st next : State) (r : TheRule) : Type 0 where
  pub written : Written
  pub stands : Ok (record_of.Rule written) ≡ record_at s st.at
  pub fine : Ok r.pattern ≡ noted_in st.width written
  pub acts : written.action ≡ r.action
  pub most : written.body ≤ 9
  pub begun : 0 < st.width
  pub in_table : 0 < st.tables
  pub few : st.rules < 256
  pub goes : next ≡ record { at = st.at + (1 + written.body); width = st.width; nodes = st.nodes; tables = st.tables; rules = st.rules + 1 }
  pub inside : st.at + (1 + written.body) ≤ length s
  pub formed : WellFormed st.width r.pattern
  pub leads : leads_in st.nodes r.action ≡ true

pub record EndedOk (s : List ℕ) (st : State) : Type 0 where
  pub begun : 0 < st.width
  pub all : st.nodes ≤ st.tables
  pub last : length s ≡ st.at + 1

-- A refusal of the file has one of the numbers 1 to 11.
abbrev pub OfFile : Reason → Type 0
OfFile n = (1 ≤ number_of n) × (number_of n ≤ 11)

abbrev pub StepOk : List ℕ → State → Result Step Refusal → Type 0
StepOk s st (Err r) = OfFile r.reason
StepOk s st (Ok (Opened next)) = OpenedOk s st next
StepOk s st (Ok (Begun next)) = BegunOk s st next
StepOk s st (Ok (Ruled next r)) = RuledOk s st next r
StepOk s st (Ok Ended) = EndedOk s st

module _ (s : List ℕ) (st : State) where
  number : (n : Reason) → T (leb 1 (number_of n)) → T (leb (number_of n) 11) → OfFile n
  number n l h = (lit≤ l, lit≤ h)

  network_ok : (w n : ℕ) → st.at + 2 < length s → StepOk s st (network_step st w n)
  unfolding network_step
  network_ok w n i =
      cond_elim (StepOk s st) (out_of_place Network st) (λ _. number OutOfPlace tt tt) (λ o.
      cond_elim (StepOk s st) (not (between 1 32 w)) (λ _. number BadWidth tt tt) (λ a.
      cond_elim (StepOk s st) (not (between 1 64 n)) (λ _. number BadNodeCount tt tt) (λ b.
      record {
        fresh = eqb-true st.width 0 (not-false (eqb st.width 0) o);
        wide = (in_range 1 32 w a).0;
        narrow = (in_range 1 32 w a).1;
        some = (in_range 1 64 n b).0;
        few = (in_range 1 64 n b).1;
        tables = refl;
        rules = refl;
        further = refl;
        inside = omega arith;
      })))

  table_ok : (v : ℕ) → st.at + 1 < length s → StepOk s st (table_step st v)
  unfolding table_step
  table_ok v i =
      cond_elim (StepOk s st) (out_of_place Table st) (λ _. number OutOfPlace tt tt) (λ o.
      cond_elim (StepOk s st) (not (eqb v st.tables)) (λ _. number TableNumber tt tt) (λ _.
      record { begun = begun st (leb st.nodes st.tables) o; more = table_placed st o; goes = refl; inside = omega arith }))

  end_ok : st.at < length s → StepOk s st (end_step st (length s))
  unfolding end_step
  end_ok i =
      cond_elim (StepOk s st) (out_of_place End st) (λ _. number OutOfPlace tt tt) (λ o.
      cond_elim (StepOk s st) (ltb (st.at + 1) (length s)) (λ _. number AfterTheEnd tt tt) (λ l.
      record {
        begun = begun st (ltb st.tables st.nodes) o;
        all = ltb-false st.tables st.nodes (neither (eqb st.width 0) (ltb st.tables st.nodes) o).1;
        last = omega (arith, ltb-false (st.at + 1) (length s) l);
      }))

  short_ok : (c : Case) → OfFile (short_refusal st c).reason
  short_ok c =
      cond_elim (λ (r : Refusal). OfFile r.reason) (out_of_place c st) (λ _. number OutOfPlace tt tt) (λ _.
      cond_elim (λ (r : Refusal). OfFile r.reason) (one_too_many c st) (λ _. number TooManyRules tt tt) (λ _. number CutShort tt tt))

  module _ (wr : Written) (i : Inside s st.at (Ok (record_of.Rule wr))) (stands : Ok (record_of.Rule wr) ≡ record_at s st.at)
      (o : out_of_place (Rule Caring Drops) st ≡ false) (few : st.rules < 256) where
    filter_ok : (n : Result Pattern Flaw) → n ≡ noted_in st.width wr → NotedOk st.width n → StepOk s st (filter_step st wr n)
    unfolding filter_step ruled_step
    filter_ok (Ok p) e k =
        cond_elim (StepOk s st) (leads_in st.nodes wr.action)
        (λ l.
        record {
          written = wr;
          stands = stands;
          fine = e;
          acts = refl;
          most = i.2;
          begun = begun st (eqb st.tables 0) o;
          in_table = not_zero st.tables (neither (eqb st.width 0) (eqb st.tables 0) o).1;
          few = few;
          goes = refl;
          inside = omega (arith, i.0);
          formed = k;
          leads = l;
        })
        (λ _. number NoSuchNext tt tt)
    filter_ok (Err WideMask) e k = number OutsideWidth tt tt
    filter_ok (Err WideValue) e k = number OutsideWidth tt tt
    filter_ok (Err free_bit) e k = number ValueAtFree tt tt

  rule_ok : (wr : Written) → Inside s st.at (Ok (record_of.Rule wr)) → Ok (record_of.Rule wr) ≡ record_at s st.at → StepOk s st (rule_step st wr)
  unfolding rule_step
  rule_ok wr i stands =
      cond_elim (StepOk s st) (out_of_place (Rule Caring Drops) st) (λ _. number OutOfPlace tt tt) (λ o.
      cond_elim (StepOk s st) (leb most_rules st.rules) (λ _. number TooManyRules tt tt) (λ f.
      filter_ok wr i stands o (leb-false most_rules st.rules f) (noted_in st.width wr) refl (written_ok st.width wr.notation wr.mask wr.value)))

  on_ok : (r : Result Record Unread) → Inside s st.at r → r ≡ record_at s st.at → StepOk s st (step_on (length s) st r)
  unfolding step_on
  on_ok (Ok (record_of.Network w n)) i e = network_ok w n i
  on_ok (Ok (record_of.Table v)) i e = table_ok v i
  on_ok (Ok (record_of.Rule wr)) i e = rule_ok wr i e
  on_ok (Ok record_of.End) i e = end_ok i
  on_ok (Err (Short c)) i e = short_ok c
  on_ok (Err Unknown) i e = number UnknownKind tt tt
  on_ok (Err Missing) i e = number CutShort tt tt

  pub step_ok : StepOk s st (step_of s st)
  step_ok = subst (StepOk s st) (sym (step_is s st)) (on_ok (record_at s st.at) (inside s st.at) refl)

  -- The same of a step that is told.
  pub told_ok : {x : Result Step Refusal} → x ≡ step_of s st → StepOk s st x
  told_ok e = subst (StepOk s st) (sym e) step_ok
