-- Judge's answer and lists, case by case: too many classes, or the class list with the verdict; lists that are too short, or the front of
-- lists that are long enough.
use mathlib.Core.Path.{◌≡◌, refl, sym, ◌∙◌, ap, ap₂, subst}
use mathlib.Core.Bool.{Bool, true, false, ◌||◌, cond, true≢false}
use mathlib.Core.List.{List, [], ◌++◌, map, append_assoc, append-nil}
use Prim.Native.Nat.{ℕ, ◌-◌, ◌≤◌, ◌<◌}
use native.Mathlib.Omega.{arith}
use lib.Dec.{leb, ltb}
use lib.ListN.{length, take, drop, replicate, take-append-drop, length-map}
use borrow.Author.Tests.{leb-true, lt-ltb, le-ltb}
use Rattle.std.specs.Prelude.{Result, Ok, Err, Option, Some, None}
use Rattle.std.specs.Option.{MatchOption, is_some, ok_or}
use Rattle.std.proofs.Common.{MutBor}
use Rattle.std.proofs.lemmas.List.{drop_all, length-take}
use Rattle.std.proofs.lemmas.Option.{cond_some}
use Rattle.std.proofs.Math.Seq.{take-append_seam}
use Rattle.std.specs.Array.{IsFirstChunk}
use Rattle.pattern.specs.declared.Pattern.{Pattern}
use Rattle.reading.specs.declared.refusals.Reason.TheVariants.{TooManyClasses, ShortLists}
use Rattle.reading.specs.declared.refusals.Refusal.{Refusal}
use Rattle.reading.specs.Network.{Network, filters}
use Rattle.reading.specs.Refusals.{refusal}
use Rattle.reading.specs.File.{Parsed, refused, accepted, parse}
use Rattle.classes.specs.Classes.{Entry, class_list, laid, care_at, value_at, size_of}
use Rattle.classes.specs.Given.{counted, listed, AllWellFormed}
use Rattle.classes.proofs.Laid.{after, laid_split}
use Rattle.least.specs.declared.Patterns.{Patterns}
use Rattle.rounds.specs.Rounds.{cycle_bytes}
use Rattle.judge.specs.declared.Judged.{Judged}
use Rattle.judge.specs.Verdicts.{verdict_of, cycle_in}
use Rattle.judge.specs.Judging.{Lent, lent_of, Judgement, judgement, too_short, written, classes_of, figures_of, said_of, judged_of, on_parsed, judge_of}
use Rattle.judge.specs.Steps.{Listed}

-- ---- the class list where its length is counted, and nothing where it is not

module _ (w : ℕ) (fs : List Pattern) where
  pub counted_none : counted w fs ≡ None → leb (length (class_list w fs)) 512 ≡ false
  unfolding counted
  counted_none e = go (leb (length (class_list w fs)) 512) e
    where
      go : (b : Bool) → cond b (Some (length (class_list w fs))) None ≡ None → b ≡ false
      go true e = cc
      go false e = refl

  pub counted_some : (n : ℕ) → counted w fs ≡ Some n → (leb (length (class_list w fs)) 512 ≡ true) × (length (class_list w fs) ≡ n)
  unfolding counted
  counted_some n e = cond_some (leb (length (class_list w fs)) 512) (length (class_list w fs)) n e

  pub counted_few : (n : ℕ) → Some n ≡ counted w fs → n ≤ 512
  counted_few n e = let c = counted_some n (sym e) in omega (arith, leb-true (length (class_list w fs)) 512 c.0, c.1)

-- what Judge gives of an accepted file with at most 512 classes
abbrev pub fine : Network → Lent → Judgement
fine net old = judgement (Ok (said_of net)) (written (classes_of net) (cycle_in net (verdict_of net)) old)

-- ---- what the code has of an accepted file: its width and filters, and then the class list in the three lists

module _ (net : Network) (old now : Lent) (w : ℕ) (fs : List Pattern) (width : net.width ≡ w) (are : fs ≡ filters net)
    (cares : now.cares ≡ laid care_at (listed w fs) old.cares) (values : now.values ≡ laid value_at (listed w fs) old.values)
    (sizes : now.sizes ≡ laid size_of (listed w fs) old.sizes) where
  is_classes : class_list w fs ≡ classes_of net
  is_classes = ap₂ class_list (sym width) are

  -- 12
  pub too_many : None ≡ counted w fs → now.cycle ≡ cycle_bytes [] old.cycle → judgement (Err (refusal TooManyClasses 0)) now ≡ judged_of net old
  unfolding judged_of listed
  too_many e y =
      let no : leb (length (class_list w fs)) 512 ≡ false = counted_none w fs (sym e) in
      let no_too : leb (length (classes_of net)) 512 ≡ false = ap (λ (L : List Entry). leb (length L) 512) (sym is_classes) ∙ no in
      let none : listed w fs ≡ [] = rw no in
      rw no_too (λ i. judgement (Err (refusal TooManyClasses 0)) (lent_of
      ((cares ∙ ap (λ (L : List Entry). laid care_at L old.cares) none) i)
      ((values ∙ ap (λ (L : List Entry). laid value_at L old.values) none) i)
      ((sizes ∙ ap (λ (L : List Entry). laid size_of L old.sizes) none) i) (y i)))

  -- the class list and the verdict
  module _ (n : ℕ) (e : Some n ≡ counted w fs) where
    few : leb (length (classes_of net)) 512 ≡ true
    few = ap (λ (L : List Entry). leb (length L) 512) (sym is_classes) ∙ (counted_some w fs n (sym e)).0

    many : length (classes_of net) ≡ n
    many = ap (λ (L : List Entry). length L) (sym is_classes) ∙ (counted_some w fs n (sym e)).1

    all : listed w fs ≡ classes_of net
    unfolding listed
    all = rw (counted_some w fs n (sym e)).0 is_classes

    -- the first entries of a list are the classes' figures
    front : (f : Entry → ℕ) (xs was : List ℕ) → xs ≡ laid f (listed w fs) was → take n xs ≡ map f (classes_of net)
    front f xs was e =
        ap (take n) (e ∙ ap (λ (L : List Entry). laid f L was) all ∙ laid_split f (classes_of net) was)
        ∙ ap (λ (k : ℕ). take k (map f (classes_of net) ++ after (classes_of net) was)) (sym many ∙ sym (length-map (classes_of net) f))
        ∙ take-append_seam (map f (classes_of net)) (after (classes_of net) was)

    pub listed_here : AllWellFormed net.width (filters net) → (l : Patterns) → l.cares.now ≡ take n now.cares → l.values.now ≡ take n now.values → Listed net l
    listed_here good l c v = record {
      formed = good;
      cares = c ∙ front care_at now.cares old.cares cares;
      values = v ∙ front value_at now.values old.values values;
    }

    pub judged_well : (said : Judged) → said.figures ≡ figures_of net → said.classes ≡ n → said.verdict ≡ verdict_of net
        → now.cycle ≡ cycle_bytes (cycle_in net (verdict_of net)) old.cycle → judgement (Ok said) now ≡ judged_of net old
    unfolding judged_of
    judged_well said f c v y =
        rw few (λ i. judgement (Ok (record { figures = f i; classes = (c ∙ sym many) i; verdict = v i })) (lent_of
        ((cares ∙ ap (λ (L : List Entry). laid care_at L old.cares) all) i)
        ((values ∙ ap (λ (L : List Entry). laid value_at L old.values) all) i)
        ((sizes ∙ ap (λ (L : List Entry). laid size_of L old.sizes) all) i) (y i)))

-- ---- 13, before the file, where any of the lists is too short

module _ (file : List ℕ) (old : Lent) where
  pub judge_short : too_short old ≡ true → judge_of file old ≡ judgement (Err (refusal ShortLists 0)) old
  unfolding judge_of
  judge_short e = rw e

  pub judge_long : false ≡ too_short old → judge_of file old ≡ on_parsed (parse file) old
  unfolding judge_of
  judge_long e = ap (λ (b : Bool). cond b (judgement (Err (refusal ShortLists 0)) old) (on_parsed (parse file) old)) (sym e)

or_true : (b : Bool) → b || true ≡ true
or_true true = refl
or_true false = refl

module _ (file cares values sizes cycle : List ℕ) where
  pub short_cares : length cares < 1024 → judge_of file (lent_of cares values sizes cycle) ≡ judgement (Err (refusal ShortLists 0)) (lent_of cares values sizes cycle)
  short_cares l = judge_short file (lent_of cares values sizes cycle) (rw (lt-ltb (length cares) 1024 l))

  pub short_values : length values < 1024 → judge_of file (lent_of cares values sizes cycle) ≡ judgement (Err (refusal ShortLists 0)) (lent_of cares values sizes cycle)
  short_values l = judge_short file (lent_of cares values sizes cycle) (rw (lt-ltb (length values) 1024 l) (or_true (ltb (length cares) 1024)))

  pub short_sizes : length sizes < 1024 → judge_of file (lent_of cares values sizes cycle) ≡ judgement (Err (refusal ShortLists 0)) (lent_of cares values sizes cycle)
  short_sizes l =
      judge_short file (lent_of cares values sizes cycle)
      (rw (lt-ltb (length sizes) 1024 l) (ap (λ (b : Bool). ltb (length cares) 1024 || b) (or_true (ltb (length values) 1024)) ∙ or_true (ltb (length cares) 1024)))

  pub short_cycle : length cycle < 64 → judge_of file (lent_of cares values sizes cycle) ≡ judgement (Err (refusal ShortLists 0)) (lent_of cares values sizes cycle)
  short_cycle l =
      judge_short file (lent_of cares values sizes cycle)
      (rw (lt-ltb (length cycle) 64 l) (ap (λ (b : Bool). ltb (length cares) 1024 || (ltb (length values) 1024 || b)) (or_true (ltb (length sizes) 1024))
      ∙ ap (λ (b : Bool). ltb (length cares) 1024 || b) (or_true (ltb (length values) 1024)) ∙ or_true (ltb (length cares) 1024)))

  long_enough : 1024 ≤ length cares → 1024 ≤ length values → 1024 ≤ length sizes → 64 ≤ length cycle
      → judge_of file (lent_of cares values sizes cycle) ≡ on_parsed (parse file) (lent_of cares values sizes cycle)
  long_enough c v s y =
      judge_long file (lent_of cares values sizes cycle)
      (rw (le-ltb (length cares) 1024 c, le-ltb (length values) 1024 v, le-ltb (length sizes) 1024 s, le-ltb (length cycle) 64 y))

-- ---- the lists are judged by their front, and what comes after it stays

abbrev pub front_of : Lent → Lent
front_of old = lent_of (take 1024 old.cares) (take 1024 old.values) (take 1024 old.sizes) (take 64 old.cycle)

-- judgements of the front of the lists and of the lists say the same
pub record SameBut (old : Lent) (front whole : Judgement) : Type 0 where
  pub answer : front.answer ≡ whole.answer
  pub cares : front.lent.cares ++ drop 1024 old.cares ≡ whole.lent.cares
  pub values : front.lent.values ++ drop 1024 old.values ≡ whole.lent.values
  pub sizes : front.lent.sizes ++ drop 1024 old.sizes ≡ whole.lent.sizes
  pub cycle : front.lent.cycle ++ drop 64 old.cycle ≡ whole.lent.cycle

pub joined : (n : ℕ) (xs front : List ℕ) → front ≡ take n xs → front ++ drop n xs ≡ xs
joined n xs front e = ap (λ (l : List ℕ). l ++ drop n xs) e ∙ take-append-drop n xs

-- nothing comes after the front
ends : (k : ℕ) (xs : List ℕ) → drop k (take k xs) ≡ []
ends k xs = drop_all k (take k xs) (omega (arith, length-take k xs))

laid_front : (f : Entry → ℕ) (L : List Entry) (xs : List ℕ) → laid f L (take 1024 xs) ++ drop 1024 xs ≡ laid f L xs
laid_front f L xs =
    ap (λ (r : List ℕ). (map f L ++ replicate (1024 - length L) 0 ++ r) ++ drop 1024 xs) (ends 1024 xs)
    ∙ ap (λ (l : List ℕ). l ++ drop 1024 xs) (append-nil (map f L ++ replicate (1024 - length L) 0))

cycle_front : (l xs : List ℕ) → cycle_bytes l (take 64 xs) ++ drop 64 xs ≡ cycle_bytes l xs
cycle_front l xs =
    ap (λ (r : List ℕ). (l ++ (replicate (64 - length l) 255 ++ r)) ++ drop 64 xs) (ends 64 xs)
    ∙ ap (λ (r : List ℕ). (l ++ r) ++ drop 64 xs) (append-nil (replicate (64 - length l) 255))
    ∙ append_assoc l (replicate (64 - length l) 255) (drop 64 xs)

written_front : (a : Result Judged Refusal) (L : List Entry) (nodes : List ℕ) (old : Lent)
    → SameBut old (judgement a (written L nodes (front_of old))) (judgement a (written L nodes old))
written_front a L nodes old = record {
  answer = refl;
  cares = laid_front care_at L old.cares;
  values = laid_front value_at L old.values;
  sizes = laid_front size_of L old.sizes;
  cycle = cycle_front nodes old.cycle;
}

front_judged : (p : Parsed) (old : Lent) → SameBut old (on_parsed p (front_of old)) (on_parsed p old)
unfolding judged_of
front_judged (refused r) old = record {
  answer = refl;
  cares = take-append-drop 1024 old.cares;
  values = take-append-drop 1024 old.values;
  sizes = take-append-drop 1024 old.sizes;
  cycle = take-append-drop 64 old.cycle;
}
front_judged (accepted net) old = go (leb (length (classes_of net)) 512)
  where
    go : (b : Bool) → SameBut old (cond b (fine net (front_of old)) (judgement (Err (refusal TooManyClasses 0)) (written [] [] (front_of old))))
        (cond b (fine net old) (judgement (Err (refusal TooManyClasses 0)) (written [] [] old)))
    go true = written_front (Ok (said_of net)) (classes_of net) (cycle_in net (verdict_of net)) old
    go false = written_front (Err (refusal TooManyClasses 0)) [] [] old

-- so Judge says of long lists what the reading says of their front
pub judged_front : (file : List ℕ) (old : Lent) (front : Lent) → IsFirstChunk old.cares front.cares 1024 → IsFirstChunk old.values front.values 1024
    → IsFirstChunk old.sizes front.sizes 1024 → IsFirstChunk old.cycle front.cycle 64 → SameBut old (on_parsed (parse file) front) (judge_of file old)
judged_front file old front c v s y =
    subst (SameBut old (on_parsed (parse file) front)) (sym (long_enough file old.cares old.values old.sizes old.cycle c.enough v.enough s.enough y.enough))
    (subst (λ (f : Lent). SameBut old (on_parsed (parse file) f) (on_parsed (parse file) old)) (sym fronts) (front_judged (parse file) old))
  where
    fronts : front ≡ front_of old
    fronts = λ i. lent_of (c.same i) (v.same i) (s.same i) (y.same i)

-- ---- a file that is judged

-- No refusal is a judgement, so what Judge gives then is what its network has.
pub judged_is : (file : List ℕ) (old : Lent) (j : Judged) (net : Network) → (judge_of file old).answer ≡ Ok j → parse file ≡ accepted net
    → judge_of file old ≡ fine net old
unfolding judged_of
judged_is file old j net e read = start (too_short old) refl
  where
    few : (b : Bool) → (let k : Judgement = cond b (fine net old) (judgement (Err (refusal TooManyClasses 0)) (written [] [] old)) in k.answer ≡ Ok j → k ≡ fine net old)
    few true e = refl
    few false e = cc

    start : (b : Bool) → too_short old ≡ b → judge_of file old ≡ fine net old
    start true t =
        let no : Err (refusal ShortLists 0) ≡ Ok j = sym (ap (λ (k : Judgement). k.answer) (judge_short file old t)) ∙ e in cc
    start false t =
        let is : judge_of file old ≡ judged_of net old = judge_long file old (sym t) ∙ ap (λ (p : Parsed). on_parsed p old) read in
        is ∙ few (leb (length (classes_of net)) 512) (sym (ap (λ (k : Judgement). k.answer) is) ∙ e)

-- ---- the front of a lent list, where it is long enough

module _ (n : ℕ) (l : List ℕ) (o : Option (MutBor (List ℕ))) (cases : MatchOption o (length l < n) (λ y. IsFirstChunk l y.now n)) where
  pub some_front : (y : MutBor (List ℕ)) → o ≡ Some y → IsFirstChunk l y.now n
  some_front y e = subst (λ (o : Option (MutBor (List ℕ))). MatchOption o (length l < n) (λ y. IsFirstChunk l y.now n)) e cases

  pub no_front : false ≡ is_some o → length l < n
  no_front e = go o cases e
    where
      go : (o : Option (MutBor (List ℕ))) → MatchOption o (length l < n) (λ y. IsFirstChunk l y.now n) → false ≡ is_some o → length l < n
      go None m e = m
      go (Some y) m e = absurd (true≢false (sym e))

pub no_front_err : (x r : Refusal) (o : Option (MutBor (List ℕ))) → Err x ≡ ok_or o r → false ≡ is_some o → x ≡ r
no_front_err x r None e none = cc
no_front_err x r (Some y) e none = absurd (true≢false (sym none))
