-- The lookup in a table's part: between two records the rest of the part gives the answer.
use Prim.Native.Nat.{ℕ, zero, suc, ◌+◌, ◌≤◌, ◌<◌}
use mathlib.Core.Bool.{false}
use mathlib.Core.List.{List, [], ◌∷◌}
use mathlib.Core.Path.{◌≡◌, refl, sym, ap, subst, ◌∙◌}
use native.Mathlib.Omega.{arith}
use native.Mathlib.Numerals.{add-one}
use borrow.Author.Tests.{le-leb}
use lib.ListN.{length}
use Rattle.std.specs.Prelude.{Result, Ok, Err, Option, Some, None}
use Rattle.pattern.specs.declared.Pattern.{Pattern}
use Rattle.pattern.specs.declared.Flaw.{Flaw}
use Rattle.reading.specs.declared.Rule.{Rule}
use Rattle.reading.specs.declared.records.Case.{Case}
use Rattle.reading.specs.declared.records.Case.TheVariants as case_of
use Rattle.reading.specs.declared.records.Doing.{Doing}
use Rattle.reading.specs.declared.records.Notation.{Notation}
use Rattle.reading.specs.declared.steps.State.{State}
use Rattle.reading.specs.Refusals.{one_too_many}
use Rattle.reading.specs.declared.records.Written.{Written}
use Rattle.reading.specs.declared.records.Record.{Record}
use Rattle.reading.specs.declared.records.Unread.{Unread}
use Rattle.reading.specs.declared.records.Record.TheVariants as record_of
use Rattle.reading.specs.Code.{noted_in, record_at}
use Rattle.reading.specs.Arrays.{good_rule, found_in, found_at, on_found, rules_from}
use Rattle.std.specs.Result.{result_ok}
use Rattle.reading.proofs.Tests.{no_one}
use Rattle.reading.proofs.Places.{Inside, inside}

-- Every case but a rule's.
pub no_rule_case : (st : State) (c : Case) → ((n : Notation) (d : Doing) → c ≡ case_of.Rule n d → ⊥) → false ≡ one_too_many c st
no_rule_case st case_of.Network h = refl
no_rule_case st case_of.Table h = refl
no_rule_case st (case_of.Rule n d) h = absurd (h n d refl)
no_rule_case st case_of.End h = refl

-- Every record but a rule.
pub no_rule : (w at : ℕ) (r : Record) → ((wr : Written) → r ≡ record_of.Rule wr → ⊥) → None ≡ found_in w at (Ok r)
no_rule w at (record_of.Network v n) h = refl
no_rule w at (record_of.Table v) h = refl
no_rule w at (record_of.Rule wr) h = absurd (h wr refl)
no_rule w at record_of.End h = refl

-- A rule that is found ends further on within the part.
abbrev FoundOk : List ℕ → ℕ → Option (Rule × ℕ) → Type 0
FoundOk s at (Some (r, next)) = (at < next) × (next ≤ length s)
FoundOk s at None = Unit

module _ (w : ℕ) (s : List ℕ) (at : ℕ) where
  good_ok : (wr : Written) (n : Result Pattern Flaw) → at + wr.body < length s → FoundOk s at (good_rule at wr n)
  good_ok wr (Ok p) h = (omega arith, omega arith)
  good_ok wr (Err flaw) h = tt

  found_in_lem : (r : Result Record Unread) → Inside s at r → FoundOk s at (found_in w at r)
  found_in_lem (Ok (record_of.Network v n)) h = tt
  found_in_lem (Ok (record_of.Table v)) h = tt
  found_in_lem (Ok (record_of.Rule wr)) h = good_ok wr (noted_in w wr) h.0
  found_in_lem (Ok record_of.End) h = tt
  found_in_lem (Err why) h = tt

  found_ok : {f : Option (Rule × ℕ)} → f ≡ found_at w s at → FoundOk s at f
  unfolding found_at
  found_ok e = subst (FoundOk s at) (sym e) (found_in_lem (record_at s at) (inside s at))

-- What is made of the record that stands there.
was_ok : {A E : Type 0} (r : Result A E) {x : A} → result_ok r ≡ Some x → Ok x ≡ r
was_ok (Ok y) e = cc
was_ok (Err y) e = absurd (no e)
  where
    no : {A : Type 0} {x : A} → None ≡ Some x → ⊥
    no e = let z : ◌≡◌ {A = ℕ} 0 1 = cc in no_one z

module _ (w : ℕ) (s : List ℕ) (at : ℕ) (r : Result Record Unread) (stands : r ≡ record_at s at) where
  pub nothing_read : result_ok r ≡ None → None ≡ found_at w s at
  unfolding found_at
  nothing_read e = none_of r e ∙ ap (found_in w at) stands
    where
      none_of : (r : Result Record Unread) → result_ok r ≡ None → None ≡ found_in w at r
      none_of (Ok x) e = let z : ◌≡◌ {A = ℕ} 0 1 = cc in absurd (no_one z)
      none_of (Err why) e = refl

  pub no_rule_read : {x : Record} → result_ok r ≡ Some x → ((wr : Written) → x ≡ record_of.Rule wr → ⊥) → None ≡ found_at w s at
  unfolding found_at
  no_rule_read {x} e h = no_rule w at x h ∙ ap (found_in w at) (was_ok r e ∙ stands)

  module _ {x : Record} (e : result_ok r ≡ Some x) (wr : Written) (is : x ≡ record_of.Rule wr) where
    pub rule_read : Ok (record_of.Rule wr) ≡ record_at s at
    rule_read = ap Ok (sym is) ∙ was_ok r e ∙ stands

    pub no_filter_read : result_ok (noted_in w wr) ≡ None → None ≡ found_at w s at
    unfolding found_at
    no_filter_read f = none_of (noted_in w wr) f ∙ ap (found_in w at) rule_read
      where
        none_of : (n : Result Pattern Flaw) → result_ok n ≡ None → None ≡ good_rule at wr n
        none_of (Ok p) f = let z : ◌≡◌ {A = ℕ} 0 1 = cc in absurd (no_one z)
        none_of (Err flaw) f = refl

    pub filter_read : {p : Pattern} → result_ok (noted_in w wr) ≡ Some p → Some (record { pattern = p; action = wr.action }, at + (1 + wr.body)) ≡ found_at w s at
    unfolding found_at
    filter_read f = ap (good_rule at wr) (was_ok (noted_in w wr) f) ∙ ap (found_in w at) rule_read

-- Past the part's end there is no rule.
none_past : (w : ℕ) (s : List ℕ) (at : ℕ) → length s ≤ at → None ≡ found_at w s at
unfolding found_at record_at
none_past w s at h = simp (le-leb (length s) at h)

on_same : (w : ℕ) (s : List ℕ) (f g at : ℕ) (x : Option (Rule × ℕ)) → FoundOk s at x
    → ((next : ℕ) → at < next → rules_from f w s next ≡ rules_from g w s next) → on_found x (rules_from f w s) ≡ on_found x (rules_from g w s)
on_same w s f g at (Some (r, next)) k on = ap (λ (l : List Rule). r ∷ l) (on next k.0)
on_same w s f g at None k on = refl

-- With enough fuel the rules from a place on are the same.
enough : (w : ℕ) (s : List ℕ) (f g at : ℕ) → length s < f + at → length s < g + at → rules_from f w s at ≡ rules_from g w s at
unfolding rules_from
enough w s zero zero at a b = refl
enough w s zero (suc g) at a b = ap (λ (x : Option (Rule × ℕ)). on_found x (rules_from g w s)) (none_past w s at (omega arith))
enough w s (suc f) zero at a b = ap (λ (x : Option (Rule × ℕ)). on_found x (rules_from f w s)) (sym (none_past w s at (omega arith)))
enough w s (suc f) (suc g) at a b =
    on_same w s f g at (found_at w s at) (found_ok w s at refl) (λ next h. enough w s f g next (omega (arith, h)) (omega (arith, h)))

module _ (w : ℕ) (s : List ℕ) (at : ℕ) where
  turned : (f : ℕ) {x : Option (Rule × ℕ)} → x ≡ found_at w s at → rules_from (f + 1) w s at ≡ on_found x (rules_from f w s)
  unfolding rules_from
  turned f e = ap (λ (n : ℕ). rules_from n w s at) (add-one f) ∙ ap (λ (y : Option (Rule × ℕ)). on_found y (rules_from f w s)) (sym e)

  -- The reader gives the rule that stands at its place, or stops.
  pub gives_rule : {r : Rule} {next : ℕ} → Some (r, next) ≡ found_at w s at → rules_from (length s + 1) w s at ≡ r ∷ rules_from (length s + 1) w s next
  gives_rule {r} {next} e =
      turned (length s) e
      ∙ ap (λ (l : List Rule). r ∷ l) (enough w s (length s) (length s + 1) next (omega (arith, (found_ok w s at e).0)) (omega arith))

  pub gives_none : None ≡ found_at w s at → rules_from (length s + 1) w s at ≡ []
  gives_none e = turned (length s) e
