-- Filling the working arrays: between two records each array holds its notes of the records taken in, then what stood there.
use Prim.Native.Nat.{ℕ, suc, ◌+◌, ◌-◌, ◌<◌}
use mathlib.Core.List.{List, [], ◌∷◌, ◌++◌, append_assoc, append-nil}
use mathlib.Core.Path.{◌≡◌, refl, sym, ap, ◌∙◌}
use native.Mathlib.Omega.{arith}
use native.Mathlib.Numerals.{add-one}
use lib.ListN.{length, get_or, set, drop, length-append}
use lib.Seq.{drop-cons, set_at}
use Rattle.std.specs.Prelude.{Result, Ok, Err}
use Rattle.reading.specs.declared.Arrays.{Arrays}
use Rattle.reading.specs.declared.Rule.{Rule}
use Rattle.reading.specs.declared.refusals.Refusal.{Refusal}
use Rattle.reading.specs.declared.steps.State.{State}
use Rattle.reading.specs.declared.steps.Step.{Step}
use Rattle.reading.specs.declared.steps.Step.TheVariants.{Opened, Begun, Ruled, Ended}
use Rattle.reading.specs.File.{step_of, start}
use Rattle.reading.specs.Arrays.{onward, notes, notes_of, per_rule, per_table, mark_of, filled, patterns_of, actions_of, marks_of}
use Rattle.reading.proofs.Onward.{told_ok}
use Rattle.reading.proofs.Progress.{Known, known_starts, known_opened, known_begun, known_ruled, fueled}

-- One more note stored.
stored : {A : Type 0} (acc old : List A) (v : A) (i : ℕ) → length acc ≡ i → i < length old → set (filled acc old) i v ≡ filled (acc ++ (v ∷ [])) old
stored {A} acc old v i e h =
    ap (λ (l : List A). set (acc ++ l) i v) (drop-cons old (length acc) v (rw e h))
    ∙ set_at acc (get_or old (length acc) v) (drop (suc (length acc)) old) v i e
    ∙ sym (append_assoc acc (v ∷ []) (drop (suc (length acc)) old))
    ∙ ap (λ (n : ℕ). acc ++ (v ∷ []) ++ drop n old) (sym (length-append acc (v ∷ []) ∙ add-one (length acc)))

-- One array, with i notes in it.
pub record Noting {A : Type 0} (g : State → Result Step Refusal → List A) (s : List ℕ) (f : ℕ) (st : State) (old new : List A) (i : ℕ) : Type 0 where
  pub acc : List A
  pub whole : notes_of g s ≡ acc ++ notes g f s st
  pub current : new ≡ filled acc old
  pub count : length acc ≡ i

noting_starts : {A : Type 0} (g : State → Result Step Refusal → List A) (s : List ℕ) (old : List A) → Noting g s (length s + 1) start old old 0
noting_starts g s old = record { acc = []; whole = refl; current = refl; count = refl }

module _ {A : Type 0} (g : State → Result Step Refusal → List A) (s : List ℕ) (f : ℕ) (st : State) (fuel : f ≡ suc (f - 1)) (old new : List A) (i : ℕ) (k : Noting g s f st old new i) where
  turned : {x : Result Step Refusal} → x ≡ step_of s st → notes g f s st ≡ g st x ++ onward x (notes g (f - 1) s)
  unfolding notes
  turned e = ap (λ (n : ℕ). notes g n s st) fuel ∙ ap (λ (y : Result Step Refusal). g st y ++ onward y (notes g (f - 1) s)) (sym e)

  whole_is : {x : Result Step Refusal} (xs later : List A) → x ≡ step_of s st → g st x ≡ xs → onward x (notes g (f - 1) s) ≡ later → notes_of g s ≡ k.acc ++ (xs ++ later)
  whole_is {x} xs later e a b =
      k.whole
      ∙ ap (λ (l : List A). k.acc ++ l)
      (turned e ∙ ap (λ (l : List A). l ++ onward x (notes g (f - 1) s)) a ∙ ap (λ (l : List A). xs ++ l) b)

  -- A record of which nothing is noted.
  noting_skip : {x : Result Step Refusal} {j : ℕ} (next : State) → x ≡ step_of s st → g st x ≡ [] → onward x (notes g (f - 1) s) ≡ notes g (f - 1) s next
      → i ≡ j → Noting g s (f - 1) next old new j
  noting_skip next e none on c =
      record { acc = k.acc; whole = whole_is [] (notes g (f - 1) s next) e none on; current = k.current; count = k.count ∙ c }

  -- A record of which one note is made.
  noting_take : {x : Result Step Refusal} {j : ℕ} (next : State) (v : A) → x ≡ step_of s st → g st x ≡ v ∷ [] → onward x (notes g (f - 1) s) ≡ notes g (f - 1) s next
      → i + 1 ≡ j → i < length old → Noting g s (f - 1) next old (set new i v) j
  noting_take next v e one on c h =
      record {
        acc = k.acc ++ (v ∷ []);
        whole = whole_is (v ∷ []) (notes g (f - 1) s next) e one on ∙ sym (append_assoc k.acc (v ∷ []) (notes g (f - 1) s next));
        current = ap (λ (l : List A). set l i v) k.current ∙ stored k.acc old v i k.count h;
        count = length-append k.acc (v ∷ []) ∙ ap (λ (n : ℕ). n + 1) k.count ∙ c;
      }

  -- The last record: nothing more is noted, or one note is made.
  noting_stop : {x : Result Step Refusal} → x ≡ step_of s st → g st x ≡ [] → onward x (notes g (f - 1) s) ≡ [] → new ≡ filled (notes_of g s) old
  noting_stop e none on =
      k.current ∙ ap (λ (l : List A). filled l old) (sym (whole_is [] [] e none on ∙ append-nil k.acc))

  noting_last : {x : Result Step Refusal} (v : A) → x ≡ step_of s st → g st x ≡ v ∷ [] → onward x (notes g (f - 1) s) ≡ [] → i < length old → set new i v ≡ filled (notes_of g s) old
  noting_last v e one on h =
      ap (λ (l : List A). set l i v) k.current
      ∙ stored k.acc old v i k.count h
      ∙ ap (λ (l : List A). filled l old) (sym (whole_is (v ∷ []) [] e one on))

-- ---- All three, with fuel for the rest of the file.
pub record Fits (a : Arrays) : Type 0 where
  pub patterns : length a.patterns ≡ 256
  pub actions : length a.actions ≡ 256
  pub marks : length a.marks ≡ 65

pub record Filling (s : List ℕ) (old new : Arrays) (st : State) : Type 0 where
  pub fuel : ℕ
  pub known : Known s fuel st
  pub fits : Fits old
  pub patterns : Noting (per_rule (λ r. r.pattern)) s fuel st old.patterns new.patterns st.rules
  pub actions : Noting (per_rule (λ r. r.action)) s fuel st old.actions new.actions st.rules
  pub marks : Noting (per_table mark_of) s fuel st old.marks new.marks st.tables

pub filling_starts : (s : List ℕ) (a : Arrays) → Fits a → Filling s a a start
filling_starts s a fits =
    record {
      fuel = length s + 1;
      known = known_starts s;
      fits = fits;
      patterns = noting_starts _ s a.patterns;
      actions = noting_starts _ s a.actions;
      marks = noting_starts _ s a.marks;
    }

-- The arrays as the contract has them.
pub record Filled (s : List ℕ) (old new : Arrays) : Type 0 where
  pub patterns : new.patterns ≡ filled (patterns_of s) old.patterns
  pub actions : new.actions ≡ filled (actions_of s) old.actions
  pub marks : new.marks ≡ filled (marks_of s) old.marks

module _ (s : List ℕ) (old new : Arrays) (st : State) (k : Filling s old new st) where
  now : k.fuel ≡ suc (k.fuel - 1)
  now = fueled s k.fuel st k.known

  pub filled_refused : {r : Refusal} → Err r ≡ step_of s st → Filled s old new
  filled_refused e =
      record {
        patterns = noting_stop _ s _ st now old.patterns new.patterns _ k.patterns e refl refl;
        actions = noting_stop _ s _ st now old.actions new.actions _ k.actions e refl refl;
        marks = noting_stop _ s _ st now old.marks new.marks _ k.marks e refl refl;
      }

  pub filling_opened : {next : State} → Ok (Opened next) ≡ step_of s st → Filling s old new next
  filling_opened {next} e =
      let o = told_ok s st e in
      let z = k.known.ok.fresh o.fresh in
      let r : st.rules ≡ next.rules = z.2 ∙ sym o.rules in
      let t : st.tables ≡ next.tables = z.1 ∙ sym o.tables in
      record {
        fuel = k.fuel - 1;
        known = known_opened s k.fuel st k.known e;
        fits = k.fits;
        patterns = noting_skip _ s _ st now old.patterns new.patterns _ k.patterns next e refl refl r;
        actions = noting_skip _ s _ st now old.actions new.actions _ k.actions next e refl refl r;
        marks = noting_skip _ s _ st now old.marks new.marks _ k.marks next e refl refl t;
      }

  -- A table record's mark goes to the place of the table.
  pub table_place : st.tables < 65
  table_place = omega (arith, k.known.ok.tables, k.known.ok.nodes)

  marks_room : st.tables < length old.marks
  marks_room = omega (arith, table_place, k.fits.marks)

  abbrev pub with_mark : Arrays
  with_mark = record { patterns = new.patterns; actions = new.actions; marks = set new.marks st.tables (mark_of st) }

  pub filling_begun : {next : State} → Ok (Begun next) ≡ step_of s st → Filling s old with_mark next
  filling_begun {next} e =
      let o = told_ok s st e in
      let r : st.rules ≡ next.rules = sym (ap (λ (x : State). x.rules) o.goes) in
      let t : st.tables + 1 ≡ next.tables = sym (ap (λ (x : State). x.tables) o.goes) in
      record {
        fuel = k.fuel - 1;
        known = known_begun s k.fuel st k.known e;
        fits = k.fits;
        patterns = noting_skip _ s _ st now old.patterns new.patterns _ k.patterns next e refl refl r;
        actions = noting_skip _ s _ st now old.actions new.actions _ k.actions next e refl refl r;
        marks = noting_take _ s _ st now old.marks new.marks _ k.marks next (mark_of st) e refl refl t marks_room;
      }

  pub rule_place : {next : State} {r : Rule} → Ok (Ruled next r) ≡ step_of s st → st.rules < 256
  rule_place e = (told_ok s st e).few

  abbrev pub with_rule : Rule → Arrays
  with_rule r =
      record { patterns = set new.patterns st.rules r.pattern; actions = set new.actions st.rules r.action; marks = new.marks }

  pub filling_ruled : {next : State} {r : Rule} → Ok (Ruled next r) ≡ step_of s st → Filling s old (with_rule r) next
  filling_ruled {next} {r} e =
      let o = told_ok s st e in
      let n : st.rules + 1 ≡ next.rules = sym (ap (λ (x : State). x.rules) o.goes) in
      let t : st.tables ≡ next.tables = sym (ap (λ (x : State). x.tables) o.goes) in
      record {
        fuel = k.fuel - 1;
        known = known_ruled s k.fuel st k.known e;
        fits = k.fits;
        patterns = noting_take _ s _ st now old.patterns new.patterns _ k.patterns next r.pattern e refl refl n (omega (arith, o.few, k.fits.patterns));
        actions = noting_take _ s _ st now old.actions new.actions _ k.actions next r.action e refl refl n (omega (arith, o.few, k.fits.actions));
        marks = noting_skip _ s _ st now old.marks new.marks _ k.marks next e refl refl t;
      }

  pub filled_ended : Ok Ended ≡ step_of s st → Filled s old with_mark
  filled_ended e =
      record {
        patterns = noting_stop _ s _ st now old.patterns new.patterns _ k.patterns e refl refl;
        actions = noting_stop _ s _ st now old.actions new.actions _ k.actions e refl refl;
        marks = noting_last _ s _ st now old.marks new.marks _ k.marks (mark_of st) e refl refl marks_room;
      }
