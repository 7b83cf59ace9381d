-- What stands at a place of the file: the record reader's ways out, and that a record that is handed back lies within the file.
--
use Prim.Native.Nat.{ℕ, ◌+◌, ◌-◌, ◌≤◌, ◌<◌}
use mathlib.Core.List.{List}
use mathlib.Core.Path.{◌≡◌, refl, sym, ap, subst, ◌∙◌}
use native.Mathlib.Omega.{arith}
use borrow.Author.Tests.{le-leb, lt-leb, leb-false}
use lib.Dec.{leb}
use lib.ListN.{length, take, drop, length-drop}
use lib.Seq.{length-take-le, get_or-take, get_or-drop}
use Rattle.std.specs.Prelude.{Option, Some, None, Result, Ok, Err}
use Rattle.reading.specs.declared.records.Notation.{Notation}
use Rattle.reading.specs.declared.records.Doing.{Doing}
use Rattle.reading.specs.declared.records.Doing.TheVariants.{Forwards, Drops, Delivers}
use Rattle.reading.specs.declared.records.Case.{Case}
use Rattle.reading.specs.declared.records.Case.TheVariants.{Network, Table, Rule, End}
use Rattle.reading.specs.declared.records.Shape.{Shape}
use Rattle.reading.specs.declared.records.Written.{Written}
use Rattle.reading.specs.declared.records.Record.{Record}
use Rattle.reading.specs.declared.records.Record.TheVariants as record_of
use Rattle.reading.specs.declared.records.Unread.{Unread}
use Rattle.reading.specs.declared.records.Unread.TheVariants.{Missing, Unknown, Short}
use Rattle.reading.specs.Kinds.{byte_at, number_at, shape_of}
use Rattle.reading.specs.Code.{rule_body, shape, body_of, Whole, whole_at, shaped_at, record_at}
use Rattle.reading.proofs.Tests.{cond_elim, no_one}
use Rattle.reading.proofs.Shapes.{of_shape}

-- The length of the body that the table says of a kind.
abbrev pub body_in : Option Shape → ℕ
body_in None = 0
body_in (Some sh) = sh.body

-- The table's body is that of the case.
pub shape_is : (k : ℕ) (sh : Shape) → Some sh ≡ shape_of k → sh ≡ shape sh.case (body_of sh.case)
shape_is k = of_shape (λ (o : Option Shape). (sh : Shape) → Some sh ≡ o → sh ≡ shape sh.case (body_of sh.case)) (λ sh e. absurd (no e)) (λ c sh e. cc) k
  where
    no : {sh : Shape} → Some sh ≡ None → ⊥
    no e = let z : ◌≡◌ {A = ℕ} 0 1 = cc in no_one z

shape_body : (k : ℕ) (sh : Shape) → Some sh ≡ shape_of k → sh.body ≡ body_of sh.case
shape_body k sh e = ap (λ (x : Shape). x.body) (shape_is k sh e)

pub missing_record : (s : List ℕ) (at : ℕ) → length s ≤ at → Err Missing ≡ record_at s at
unfolding record_at
missing_record s at h = simp (le-leb (length s) at h)

module _ (s : List ℕ) (at : ℕ) (there : at < length s) where
  pub unknown_record : shape_of (byte_at s at) ≡ None → Err Unknown ≡ record_at s at
  unfolding record_at shaped_at
  unknown_record e = rw e (simp (lt-leb (length s) at there))

  module _ (sh : Shape) (e : Some sh ≡ shape_of (byte_at s at)) where
    pub short_record : length s - at ≤ sh.body → Err (Short sh.case) ≡ record_at s at
    unfolding record_at shaped_at
    short_record h = rw (← e) (simp (lt-leb (length s) at there, le-leb (length s) (at + sh.body) (omega arith)))

    pub whole_there : sh.body < length s - at → Whole s at sh.case
    whole_there h = omega (arith, shape_body (byte_at s at) sh e)

    pub whole_record : {r : Record} → r ≡ whole_at s at sh.case sh.body → sh.body < length s - at → Ok r ≡ record_at s at
    unfolding record_at shaped_at
    whole_record q h = ap Ok q ∙ rw (← e) (simp (lt-leb (length s) at there, lt-leb (length s) (at + sh.body) (omega arith)))

-- A record with fields ends within the file.
abbrev pub Inside : List ℕ → ℕ → Result Record Unread → Type 0
Inside s at (Ok (record_of.Network w n)) = at + 2 < length s
Inside s at (Ok (record_of.Table v)) = at + 1 < length s
Inside s at (Ok (record_of.Rule wr)) = (at + wr.body < length s) × (8 ≤ wr.body) × (wr.body ≤ 9)
Inside s at (Ok record_of.End) = at < length s
Inside s at (Err why) = Unit

module _ (s : List ℕ) (at : ℕ) where
  inside-whole : (c : Case) → at + body_of c < length s → Inside s at (Ok (whole_at s at c (body_of c)))
  unfolding whole_at
  inside-whole Network h = h
  inside-whole Table h = h
  inside-whole (Rule n Forwards) h = (h, omega arith, omega arith)
  inside-whole (Rule n Drops) h = (h, omega arith, omega arith)
  inside-whole (Rule n Delivers) h = (h, omega arith, omega arith)
  inside-whole End h = omega arith

  pub inside : Inside s at (record_at s at)
  unfolding record_at shaped_at
  inside =
      cond_elim (Inside s at) (leb (length s) at) (λ _. tt) (λ _.
      of_shape (λ (o : Option Shape). Inside s at (shaped_at s at o)) tt
      (λ c. cond_elim (Inside s at) (leb (length s) (at + body_of c)) (λ _. tt) (λ h. inside-whole c (leb-false (length s) _ h)))
      (byte_at s at))

  -- So does one that is told.
  pub inside_as : {r : Result Record Unread} → r ≡ record_at s at → Inside s at r
  inside_as e = subst (Inside s at) (sym e) inside

-- ---- A part of the file: what stands in it at i, wholly within it, stands in the file at b + i.
module _ (s : List ℕ) (b n : ℕ) (fits : b + n ≤ length s) where
  abbrev part : List ℕ
  part = take n (drop b s)

  pub part_length : length (take n (drop b s)) ≡ n
  part_length = length-take-le n (drop b s) (simp length-drop (omega arith))

  part_byte : (j : ℕ) → j < n → byte_at part j ≡ byte_at s (b + j)
  part_byte j h = get_or-take n (drop b s) j 0 h ∙ get_or-drop b s j 0

  part-byte_at : (j k : ℕ) → j + k < n → byte_at part (j + k) ≡ byte_at s (b + j + k)
  part-byte_at j k h = let e : b + (j + k) ≡ b + j + k = omega arith in part_byte (j + k) h ∙ ap (byte_at s) e

  part_number : (j : ℕ) → j + 3 < n → number_at part j ≡ number_at s (b + j)
  part_number j h =
      let e0 : byte_at part j ≡ byte_at s (b + j) = part_byte j (omega arith) in
      let e1 : byte_at part (j + 1) ≡ byte_at s (b + j + 1) = part-byte_at j 1 (omega arith) in
      let e2 : byte_at part (j + 2) ≡ byte_at s (b + j + 2) = part-byte_at j 2 (omega arith) in
      let e3 : byte_at part (j + 3) ≡ byte_at s (b + j + 3) = part-byte_at j 3 (omega arith) in
      cc

  part-number_at : (j k : ℕ) → j + k + 3 < n → number_at part (j + k) ≡ number_at s (b + j + k)
  part-number_at j k h = let e : b + (j + k) ≡ b + j + k = omega arith in part_number (j + k) h ∙ ap (number_at s) e

  part-rule : (i : ℕ) (m : Notation) (d : Doing) → i + rule_body d < n → whole_at part i (Rule m d) (rule_body d) ≡ whole_at s (b + i) (Rule m d) (rule_body d)
  unfolding whole_at
  part-rule i m Forwards h = simp (part-number_at i 1 (omega arith), part-number_at i 5 (omega arith), part-byte_at i 9 h)
  part-rule i m Drops h = simp (part-number_at i 1 (omega arith), part-number_at i 5 (omega arith))
  part-rule i m Delivers h = simp (part-number_at i 1 (omega arith), part-number_at i 5 (omega arith))

  part-whole : (i : ℕ) (c : Case) → i + body_of c < n → whole_at part i c (body_of c) ≡ whole_at s (b + i) c (body_of c)
  unfolding whole_at
  part-whole i Network h = simp (part-byte_at i 1 (omega arith), part-byte_at i 2 h)
  part-whole i Table h = simp (part-byte_at i 1 h)
  part-whole i (Rule m d) h = part-rule i m d h
  part-whole i End h = refl

  part_shaped : (i : ℕ) (o : Option Shape) → i + body_in o < n →
      ((sh : Shape) → o ≡ Some sh → sh.body ≡ body_of sh.case) → shaped_at part i o ≡ shaped_at s (b + i) o
  unfolding shaped_at
  part_shaped i None h e = refl
  part_shaped i (Some sh) h e =
      simp (lt-leb (length part) (i + sh.body) (omega (arith, part_length)), lt-leb (length s) (b + i + sh.body) (omega arith))
      (ap Ok (subst (λ (n : ℕ). whole_at part i sh.case n ≡ whole_at s (b + i) sh.case n) (sym (e sh refl)) (part-whole i sh.case (omega (arith, e sh refl)))))

  pub part_record : (i : ℕ) → i + body_in (shape_of (byte_at s (b + i))) < n → record_at (take n (drop b s)) i ≡ record_at s (b + i)
  unfolding record_at
  part_record i h =
      simp (lt-leb (length part) i (omega (arith, part_length)), lt-leb (length s) (b + i) (omega arith), part_byte i (omega arith))
      (part_shaped i (shape_of (byte_at s (b + i))) h (λ sh e. shape_body (byte_at s (b + i)) sh (sym e)))

-- ---- A rule record is as long as its kind says.
abbrev Extent : ℕ → Result Record Unread → Type 0
Extent n (Ok (record_of.Network w m)) = Unit
Extent n (Ok (record_of.Table v)) = Unit
Extent n (Ok (record_of.Rule wr)) = wr.body ≡ n
Extent n (Ok record_of.End) = Unit
Extent n (Err why) = Unit

module _ (s : List ℕ) (at : ℕ) where
  extent_whole : (c : Case) (n : ℕ) → Extent n (Ok (whole_at s at c n))
  unfolding whole_at
  extent_whole Network n = tt
  extent_whole Table n = tt
  extent_whole (Rule m d) n = refl
  extent_whole End n = tt

  extent_shaped : (o : Option Shape) → Extent (body_in o) (shaped_at s at o)
  unfolding shaped_at
  extent_shaped None = tt
  extent_shaped (Some sh) = cond_elim (Extent sh.body) (leb (length s) (at + sh.body)) (λ _. tt) (λ _. extent_whole sh.case sh.body)

  extent : Extent (body_in (shape_of (byte_at s at))) (record_at s at)
  unfolding record_at
  extent = cond_elim (Extent (body_in (shape_of (byte_at s at)))) (leb (length s) at) (λ _. tt) (λ _. extent_shaped (shape_of (byte_at s at)))

  pub rule_extent : {wr : Written} → Ok (record_of.Rule wr) ≡ record_at s at → wr.body ≡ body_in (shape_of (byte_at s at))
  rule_extent e = subst (Extent (body_in (shape_of (byte_at s at)))) (sym e) extent
