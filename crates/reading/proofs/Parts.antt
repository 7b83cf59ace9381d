-- Each node's table is a part of the file: the rule records between two marks give that node's rules.
use Prim.Native.Nat.{ℕ, zero, suc, ◌+◌, ◌-◌, ◌≤◌, ◌<◌}
use mathlib.Core.List.{List, [], ◌∷◌}
use mathlib.Core.Path.{◌≡◌, refl, sym, ap, subst, ◌∙◌}
use native.Mathlib.Omega.{arith}
use borrow.Author.Tests.{le-leb}
use lib.ListN.{length, get_or, take, drop}
use Rattle.std.specs.Prelude.{Option, Some, Ok}
use Rattle.reading.specs.declared.Action.{Action}
use Rattle.reading.specs.declared.Rule.{Rule}
use Rattle.reading.specs.declared.Mark.{Mark}
use Rattle.reading.specs.declared.records.Record.TheVariants as record_of
use Rattle.reading.specs.declared.steps.State.{State}
use Rattle.reading.specs.File.{Rest, stop, rest, new_table, with_rule, run, start}
use Rattle.reading.specs.Kinds.{byte_at, shape_of}
use Rattle.reading.specs.Code.{record_at}
use Rattle.reading.specs.Arrays.{mark_of, good_rule, found_in, found_at, on_found, rules_from, rules_in, notes, per_table, begins_of}
use Rattle.reading.proofs.Tests.{positive}
use Rattle.reading.proofs.Places.{body_in, part_length, part_record, rule_extent}
use Rattle.reading.proofs.Onward.{BegunOk, RuledOk, told_ok}
use Rattle.reading.proofs.Trails.{StateOk, Trail, stops, opens, begins, rules, ends}
use Rattle.reading.proofs.Networks.{map_notes, notes_on, Opening, never, opened, file_opening, If}

abbrev place_of : State → ℕ
place_of st = st.at

-- The part from b up to the mark e.
abbrev up_to : List ℕ → ℕ → ℕ → List ℕ
up_to s b e = take (e - b) (drop b s)

-- At a part's end there is no rule.
none_left : (w : ℕ) (s : List ℕ) (g b e : ℕ) → b ≤ e → e ≤ length s → rules_from g w (up_to s b e) (e - b) ≡ []
unfolding rules_from found_at record_at
none_left w s zero b e l h = refl
none_left w s (suc g) b e l h = simp (le-leb (length (up_to s b e)) (e - b) (omega (arith, part_length s b (e - b) (omega arith))))

-- A rule record of the file is found in the part that it lies in.
module _ (s : List ℕ) (st next : State) (r : Rule) (q : RuledOk s st next r) (b e : ℕ) (l : b ≤ st.at) (h : next.at ≤ e) (i : e ≤ length s) where
  end_is : next.at ≡ st.at + (1 + q.written.body)
  end_is = ap place_of q.goes

  stands_there : record_at (up_to s b e) (st.at - b) ≡ Ok (record_of.Rule q.written)
  stands_there =
      let there : b + (st.at - b) ≡ st.at = omega arith in
      part_record s b (e - b) (omega (arith, end_is)) (st.at - b)
      (subst (λ (n : ℕ). st.at - b + n < e - b) (rule_extent s st.at q.stands ∙ ap (λ (n : ℕ). body_in (shape_of (byte_at s n))) (sym there)) (omega (arith, end_is)))
      ∙ ap (record_at s) there
      ∙ sym q.stands

  found_there : Some (r, next.at - b) ≡ found_at st.width (up_to s b e) (st.at - b)
  unfolding found_at
  found_there =
      let on : next.at - b ≡ st.at - b + (1 + q.written.body) = omega (arith, end_is) in
      ap (λ (n : ℕ). Some (r, n)) on
      ∙ ap (λ (a : Action). Some (record { pattern = r.pattern; action = a }, st.at - b + (1 + q.written.body))) (sym q.acts)
      ∙ ap (good_rule (st.at - b) q.written) q.fine
      ∙ ap (found_in st.width (st.at - b)) (sym stands_there)

  one_more : (g : ℕ) → rules_from (suc g) st.width (up_to s b e) (st.at - b) ≡ r ∷ rules_from g st.width (up_to s b e) (next.at - b)
  unfolding rules_from
  one_more g = ap (λ (x : Option (Rule × ℕ)). on_found x (rules_from g st.width (up_to s b e))) (sym found_there)

-- ---- Node v's part, between marks v and v + 1.
pub record Part (s m : List ℕ) (w : ℕ) (ts : List (List Rule)) (v : ℕ) : Type 0 where
  pub from : get_or m v 0 + 2 ≤ get_or m (suc v) 0
  pub upto : get_or m (suc v) 0 ≤ length s
  pub table : rules_in w (up_to s (get_or m v 0 + 2) (get_or m (suc v) 0)) ≡ get_or ts v []

-- From a state after the network record on, with the marks that are still to come.
record PartsOk (s m : List ℕ) (st : State) (w : ℕ) (rs : List Rule) (ts : List (List Rule)) : Type 0 where
  width : w ≡ st.width
  ahead : st.at ≤ get_or m 0 0
  upto : get_or m 0 0 ≤ length s
  here : (b g : ℕ) → b ≤ st.at → get_or m 0 0 - st.at < g → rules_from g w (up_to s b (get_or m 0 0)) (st.at - b) ≡ rs
  tables : (v : ℕ) → v < length ts → Part s m w ts v
  many : length m ≡ suc (length ts)

abbrev PartsIf : List ℕ → List ℕ → State → Rest → Type 0
PartsIf s m st (stop x) = Unit
PartsIf s m st (rest w rs ts) = PartsOk s m st w rs ts

module _ (s : List ℕ) (st : State) (k : StateOk s st) where
  parts_ended : PartsOk s (st.at ∷ []) st st.width [] []
  parts_ended =
      record {
        width = refl;
        ahead = omega arith;
        upto = k.inside;
        here = λ b g l h. none_left st.width s g b st.at l k.inside;
        tables = λ v h. absurd (no h);
        many = refl;
      }
    where
      no : {v : ℕ} → v < 0 → ⊥
      no h = omega arith

  -- The table that a table record begins, and those after it.
  module _ (next : State) (q : BegunOk s st next) (m : List ℕ) (w : ℕ) (rs : List Rule) (ts : List (List Rule)) (i : PartsOk s m next w rs ts) where
    end_of : next.at ≡ st.at + 2
    end_of = ap place_of q.goes

    first_part : Part s (st.at ∷ m) w (rs ∷ ts) 0
    unfolding rules_in
    first_part =
        record {
          from = omega (arith, end_of, i.ahead);
          upto = i.upto;
          table =
              ap (rules_from (length (up_to s (st.at + 2) (get_or m 0 0)) + 1) w (up_to s (st.at + 2) (get_or m 0 0))) (omega (arith, end_of))
              ∙ i.here (st.at + 2) (length (up_to s (st.at + 2) (get_or m 0 0)) + 1) (omega (arith, end_of))
              (omega (arith, end_of, i.ahead, part_length s (st.at + 2) (get_or m 0 0 - (st.at + 2)) (omega (arith, end_of, i.ahead, i.upto))));
        }

    later_parts : (v : ℕ) → v < length (rs ∷ ts) → Part s (st.at ∷ m) w (rs ∷ ts) v
    later_parts zero h = first_part
    later_parts (suc v) h = let p = i.tables v (omega arith) in record { from = p.from; upto = p.upto; table = p.table }

    parts_begun : PartsOk s (st.at ∷ m) st w [] (rs ∷ ts)
    parts_begun =
        record {
          width = i.width ∙ ap (λ (x : State). x.width) q.goes;
          ahead = omega arith;
          upto = k.inside;
          here = λ b g l h. none_left w s g b st.at l k.inside;
          tables = later_parts;
          many = ap suc i.many;
        }

  -- One more rule in the table that is open.
  module _ (next : State) (r : Rule) (q : RuledOk s st next r) (m : List ℕ) (w : ℕ) (rs : List Rule) (ts : List (List Rule)) (i : PartsOk s m next w rs ts) where
    width_is : w ≡ st.width
    width_is = i.width ∙ ap (λ (x : State). x.width) q.goes

    further : st.at < next.at
    further = omega (arith, ap place_of q.goes)

    more_here : (b g : ℕ) → b ≤ st.at → get_or m 0 0 - st.at < g → rules_from g w (up_to s b (get_or m 0 0)) (st.at - b) ≡ r ∷ rs
    more_here b zero l h = absurd (no h)
      where
        no : {n : ℕ} → n < 0 → ⊥
        no h = omega arith
    more_here b (suc g) l h =
        ap (λ (w : ℕ). rules_from (suc g) w (up_to s b (get_or m 0 0)) (st.at - b)) width_is
        ∙ one_more s st next r q b (get_or m 0 0) l i.ahead i.upto g
        ∙ ap (λ (w : ℕ). r ∷ rules_from g w (up_to s b (get_or m 0 0)) (next.at - b)) (sym width_is)
        ∙ ap (λ (l : List Rule). r ∷ l) (i.here b g (omega (arith, further)) (omega (arith, further, i.ahead)))

    parts_ruled : PartsOk s m st w (r ∷ rs) ts
    parts_ruled =
        record { width = width_is; ahead = omega (arith, further, i.ahead); upto = i.upto; here = more_here; tables = i.tables; many = i.many }

  parts_new : (next : State) (o : Rest) (m : List ℕ) → BegunOk s st next → PartsIf s m next o → PartsIf s (st.at ∷ m) st (new_table o)
  parts_new next (stop x) m q i = tt
  parts_new next (rest w rs ts) m q i = parts_begun next q m w rs ts i

  parts_with : (next : State) (r : Rule) (o : Rest) (m : List ℕ) → RuledOk s st next r → PartsIf s m next o → PartsIf s m st (with_rule r o)
  parts_with next r (stop x) m q i = tt
  parts_with next r (rest w rs ts) m q i = parts_ruled next r q m w rs ts i

parts : {s : List ℕ} {f : ℕ} {st : State} {o : Rest} → Trail s f st o → 0 < st.width → PartsIf s (notes (per_table place_of) f s st) st o
parts (stops k e) l = tt
parts {s} (opens {st = st} k e t) l = absurd (positive l (told_ok s st e).fresh)
parts {s} (begins {f = f} {st = st} {next = next} {o = o} k e t) l =
    let q = told_ok s st e in
    subst (λ (m : List ℕ). PartsIf s m st (new_table o)) (sym (notes_on (per_table place_of) s f st e))
    (parts_new s st k next o _ q (parts t (omega (arith, q.begun, ap (λ (x : State). x.width) q.goes))))
parts {s} (rules {f = f} {st = st} {next = next} {o = o} {r = r} k e t) l =
    let q = told_ok s st e in
    subst (λ (m : List ℕ). PartsIf s m st (with_rule r o)) (sym (notes_on (per_table place_of) s f st e))
    (parts_with s st k next r o _ q (parts t (omega (arith, q.begun, ap (λ (x : State). x.width) q.goes))))
parts {s} (ends {f = f} {st = st} k e) l =
    subst (λ (m : List ℕ). PartsOk s m st st.width [] []) (sym (notes_on (per_table place_of) s f st e)) (parts_ended s st k)

-- ---- Of the whole file.
pub record Parted (s m : List ℕ) (w : ℕ) (ts : List (List Rule)) : Type 0 where
  pub each : (v : ℕ) → v < length ts → Part s m w ts v
  pub many : length m ≡ suc (length ts)

parted : (s m : List ℕ) (st : State) (o : Rest) → PartsIf s m st o → If (Parted s m) o
parted s m st (stop x) i = tt
parted s m st (rest w rs ts) i = record { each = i.tables; many = i.many }

opening_parted : {s : List ℕ} {f : ℕ} {st : State} {o : Rest} → Opening s f st o → If (Parted s (notes (per_table place_of) f s st)) o
opening_parted never = tt
opening_parted {s} (opened {f = f} {st = st} {next = next} {o = o} k e t) =
    let q = told_ok s st e in
    subst (λ (m : List ℕ). If (Parted s m) o) (sym (notes_on (per_table place_of) s f st e))
    (parted s _ next o (parts t (omega (arith, q.wide))))

pub file_parted : (s : List ℕ) → If (Parted s (begins_of s)) (run (length s + 1) s start)
file_parted s =
    subst (λ (m : List ℕ). If (Parted s m) (run (length s + 1) s start)) (sym (map_notes (λ (m : Mark). m.place) mark_of s (length s + 1) start))
    (opening_parted (file_opening s))
