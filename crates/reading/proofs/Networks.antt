-- What an accepted file gives: the bounds of its network, and the numbers that are noted of its rules and tables.
use Prim.Native.Nat.{ℕ, zero, suc, ◌+◌, ◌≤◌, ◌<◌}
use mathlib.Core.Bool.{true}
use mathlib.Core.List.{List, [], ◌∷◌, ◌++◌, map, flatten}
use mathlib.Core.Path.{◌≡◌, refl, sym, ap, subst, ◌∙◌}
use native.Mathlib.Omega.{arith}
use native.Mathlib.Nat.{add-zero}
use lib.ListN.{length, length-append}
use Rattle.std.specs.Prelude.{Result, Ok, Err}
use Rattle.pattern.specs.Filters.{WellFormed}
use Rattle.reading.specs.declared.Rule.{Rule}
use Rattle.reading.specs.declared.refusals.Refusal.{Refusal}
use Rattle.reading.specs.declared.steps.State.{State}
use Rattle.reading.specs.declared.steps.Step.{Step}
use Rattle.reading.specs.declared.steps.Step.TheVariants.{Opened, Begun, Ruled, Ended}
use Rattle.reading.specs.Network.{Network}
use Rattle.reading.specs.File.{step_of, Rest, stop, rest, new_table, with_rule, run, start, accepted, whole, parse}
use Rattle.reading.specs.Code.{leads_in}
use Rattle.reading.specs.Arrays.{onward, notes, per_rule, per_table}
use Rattle.reading.proofs.Tests.{positive, no_one}
use Rattle.reading.proofs.Onward.{told_ok}
use Rattle.reading.proofs.Trails.{StateOk, Trail, stops, opens, begins, rules, ends, whole_trail}

-- Of every member of a list.
abbrev pub Every : {A : Type 0} → (A → Type 0) → List A → Type 0
Every P [] = Unit
Every P (x ∷ xs) = P x × Every P xs

-- The numbers of the tables' first rules, from n on, then the rule count.
abbrev pub starts : ℕ → List (List Rule) → List ℕ
starts n [] = n ∷ []
starts n (t ∷ ts) = n ∷ starts (n + length t) ts

-- ---- Going on by one record.
pub notes_on : {A : Type 0} (g : State → Result Step Refusal → List A) (s : List ℕ) (f : ℕ) (st : State) {x : Result Step Refusal} → x ≡ step_of s st → notes g (suc f) s st ≡ g st x ++ onward x (notes g f s)
unfolding notes
notes_on g s f st e = ap (λ (y : Result Step Refusal). g st y ++ onward y (notes g f s)) (sym e)

-- Notes of which something is taken are the notes of what is taken.
pub map_notes : {A B : Type 0} (k : A → B) (g : State → A) (s : List ℕ) (f : ℕ) (st : State) → map k (notes (per_table g) f s st) ≡ notes (per_table (λ st. k (g st))) f s st
unfolding notes
map_notes k g s zero st = refl
map_notes {A} {B} k g s (suc f) st = go (step_of s st) (λ next. map_notes k g s f next)
  where
    go : (x : Result Step Refusal) → ((next : State) → map k (notes (per_table g) f s next) ≡ notes (per_table (λ st. k (g st))) f s next)
        → map k (per_table g st x ++ onward x (notes (per_table g) f s)) ≡ per_table (λ st. k (g st)) st x ++ onward x (notes (per_table (λ st. k (g st))) f s)
    go (Err r) on = refl
    go (Ok (Opened next)) on = on next
    go (Ok (Begun next)) on = ap (λ (l : List B). k (g st) ∷ l) (on next)
    go (Ok (Ruled next r)) on = on next
    go (Ok Ended) on = refl

-- The notes of the rules are in file order.
abbrev pub NotedIf : {A : Type 0} → (Rule → A) → List A → Rest → Type 0
NotedIf h l (stop x) = Unit
NotedIf h l (rest w rs ts) = l ≡ map h (rs ++ flatten ts)

noted_new : {A : Type 0} (h : Rule → A) (l : List A) (o : Rest) → NotedIf h l o → NotedIf h l (new_table o)
unfolding flatten
noted_new h l (stop x) e = tt
noted_new h l (rest w rs ts) e = e

noted_with : {A : Type 0} (h : Rule → A) (l : List A) (r : Rule) (o : Rest) → NotedIf h l o → NotedIf h (h r ∷ l) (with_rule r o)
noted_with h l r (stop x) e = tt
noted_with {A} h l r (rest w rs ts) e = ap (λ (l : List A). h r ∷ l) e

pub noted : {A : Type 0} (h : Rule → A) {s : List ℕ} {f : ℕ} {st : State} {o : Rest} → Trail s f st o → NotedIf h (notes (per_rule h) f s st) o
unfolding flatten
noted h (stops k e) = tt
noted {A} h {s} (opens {f = f} {st = st} {o = o} k e t) =
    subst (λ (l : List A). NotedIf h l o) (sym (notes_on (per_rule h) s f st e)) (noted h t)
noted {A} h {s} (begins {f = f} {st = st} {o = o} k e t) =
    subst (λ (l : List A). NotedIf h l (new_table o)) (sym (notes_on (per_rule h) s f st e)) (noted_new h _ o (noted h t))
noted {A} h {s} (rules {f = f} {st = st} {o = o} {r = r} k e t) =
    subst (λ (l : List A). NotedIf h l (with_rule r o)) (sym (notes_on (per_rule h) s f st e)) (noted_with h _ r o (noted h t))
noted {A} h {s} (ends {f = f} {st = st} k e) =
    subst (λ (l : List A). NotedIf h l (rest st.width [] [])) (sym (notes_on (per_rule h) s f st e)) refl

-- ---- A rule that a network of this width and node count may hold.
pub record GoodRule (w n : ℕ) (r : Rule) : Type 0 where
  pub formed : WellFormed w r.pattern
  pub leads : leads_in n r.action ≡ true

-- From a state after the network record on.
pub record Given (s : List ℕ) (f : ℕ) (st : State) (w : ℕ) (rs : List Rule) (ts : List (List Rule)) : Type 0 where
  pub width : w ≡ st.width
  pub nodes : st.tables + length ts ≡ st.nodes
  pub count : st.rules + (length rs + length (flatten ts)) ≤ 256
  pub good : Every (GoodRule w st.nodes) (rs ++ flatten ts)
  pub firsts : notes (per_table (λ st. st.rules)) f s st ≡ starts (st.rules + length rs) ts
  pub short : length s ≤ 2692

abbrev pub GivenIf : List ℕ → ℕ → State → Rest → Type 0
GivenIf s f st (stop x) = Unit
GivenIf s f st (rest w rs ts) = Given s f st w rs ts

module _ (s : List ℕ) (f : ℕ) (st : State) (k : StateOk s st) where
  given_ended : Ok Ended ≡ step_of s st → Given s (suc f) st st.width [] []
  unfolding flatten
  given_ended e =
      let q = told_ok s st e in
      record {
        width = refl;
        nodes = omega (arith, q.all, k.tables);
        count = omega (arith, k.rules);
        good = tt;
        firsts = notes_on (per_table (λ st. st.rules)) s f st e ∙ ap (λ (n : ℕ). n ∷ []) (omega arith);
        short = omega (arith, q.last, k.near, k.tables, k.nodes, k.rules);
      }

  -- The state after a table record, and after a rule of a body.
  abbrev at_table : State
  at_table = record { at = st.at + 2; width = st.width; nodes = st.nodes; tables = st.tables + 1; rules = st.rules }

  abbrev at-rule : ℕ → State
  at-rule body = record { at = st.at + (1 + body); width = st.width; nodes = st.nodes; tables = st.tables; rules = st.rules + 1 }

  given_begun : (o : Rest) → Ok (Begun at_table) ≡ step_of s st → GivenIf s f at_table o → GivenIf s (suc f) st (new_table o)
  unfolding flatten
  given_begun (stop x) e i = tt
  given_begun (rest w rs ts) e i =
      record {
        width = i.width;
        nodes = omega (arith, i.nodes);
        count = omega (arith, i.count, length-append rs (flatten ts));
        good = i.good;
        firsts =
            notes_on (per_table (λ st. st.rules)) s f st e
            ∙ ap (λ (l : List ℕ). st.rules ∷ l) i.firsts
            ∙ ap (λ (n : ℕ). n ∷ starts (n + length rs) ts) (sym (add-zero st.rules));
        short = i.short;
      }

  given_ruled : (body : ℕ) (r : Rule) (o : Rest) → GoodRule st.width st.nodes r → Ok (Ruled (at-rule body) r) ≡ step_of s st
      → GivenIf s f (at-rule body) o → GivenIf s (suc f) st (with_rule r o)
  given_ruled body r (stop x) g e i = tt
  given_ruled body r (rest w rs ts) g e i =
      record {
        width = i.width;
        nodes = i.nodes;
        count = omega (arith, i.count);
        good = (subst (λ (w : ℕ). GoodRule w st.nodes r) (sym i.width) g, i.good);
        firsts = notes_on (per_table (λ st. st.rules)) s f st e ∙ i.firsts ∙ ap (λ (n : ℕ). starts n ts) (omega arith);
        short = i.short;
      }

pub given : {s : List ℕ} {f : ℕ} {st : State} {o : Rest} → Trail s f st o → 0 < st.width → GivenIf s f st o
given (stops k e) l = tt
given {s} (opens {st = st} k e t) l = absurd (positive l (told_ok s st e).fresh)
given {s} (begins {f = f} {st = st} {next = next} {o = o} k e t) l =
    let q = told_ok s st e in
    given_begun s f st k o (ap (λ (x : State). Ok (Begun x)) (sym q.goes) ∙ e) (subst (λ (x : State). GivenIf s f x o) q.goes (given t (omega (arith, q.begun, ap (λ (x : State). x.width) q.goes))))
given {s} (rules {f = f} {st = st} {next = next} {o = o} {r = r} k e t) l =
    let q = told_ok s st e in
    given_ruled s f st k q.written.body r o (record { formed = q.formed; leads = q.leads }) (ap (λ (x : State). Ok (Ruled x r)) (sym q.goes) ∙ e)
    (subst (λ (x : State). GivenIf s f x o) q.goes (given t (omega (arith, q.begun, ap (λ (x : State). x.width) q.goes))))
given {s} (ends {f = f} {st = st} k e) l = given_ended s f st k e

-- ---- The whole file: it is refused at once, or opens.
pub data Opening (s : List ℕ) : ℕ → State → Rest → Type 0 where
  never : {f : ℕ} {st : State} {x : Refusal} → Opening s f st (stop x)
  opened : {f : ℕ} {st next : State} {o : Rest} → StateOk s st → Ok (Opened next) ≡ step_of s st → Trail s f next o → Opening s (suc f) st o

opening : {s : List ℕ} {f : ℕ} {st : State} {o : Rest} → Trail s f st o → st.width ≡ 0 → Opening s f st o
opening (stops k e) z = never
opening (opens k e t) z = opened k e t
opening {s} (begins {st = st} k e t) z = absurd (positive (told_ok s st e).begun z)
opening {s} (rules {st = st} k e t) z = absurd (positive (told_ok s st e).begun z)
opening {s} (ends {st = st} k e) z = absurd (positive (told_ok s st e).begun z)

pub file_opening : (s : List ℕ) → Opening s (length s + 1) start (run (length s + 1) s start)
file_opening s = opening (whole_trail s) refl

-- What holds of width and tables wherever a reading ends well, holds of an accepted network.
abbrev pub If : (ℕ → List (List Rule) → Type 0) → Rest → Type 0
If C (stop x) = Unit
If C (rest w rs ts) = C w ts

pub of_accepted : (C : ℕ → List (List Rule) → Type 0) (s : List ℕ) (net : Network) → If C (run (length s + 1) s start) → parse s ≡ accepted net → C net.width net.tables
unfolding parse
of_accepted C s net c e = go (run (length s + 1) s start) c e
  where
    go : (o : Rest) → If C o → whole o ≡ accepted net → C net.width net.tables
    go (stop x) c e = let z : ◌≡◌ {A = ℕ} 0 1 = cc in absurd (no_one z)
    go (rest w rs ts) c e = let q : record { width = w; tables = ts } ≡ net = cc in subst (λ (x : Network). C x.width x.tables) q c
