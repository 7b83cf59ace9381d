-- What the printed text says: a decimal number reads back as itself and has no zero in front; a header has no free letter; a run over the lines gives them all.
use Prim.Native.Nat.{ℕ, zero, suc, ◌+◌, ◌*◌, ◌-◌, ◌/◌, ◌%◌, ◌^◌, ◌≤◌, ◌<◌}
use mathlib.Core.Bool.{Bool, true, false, cond}
use mathlib.Core.List.{List, [], ◌∷◌, ◌++◌, map}
use mathlib.Core.Path.{◌≡◌, refl, sym, ap, ◌∙◌}
use Prim.Native.Char.{code}
use native.Mathlib.Nat.{pow-suc}
use native.Mathlib.Omega.{arith}
use borrow.Author.Tests.{ltb-true, ltb-false}
use lib.Dec.{eqb, ltb}
use lib.Pow.{pow_pos, high, ones_lt, ones_split}
use lib.ListN.{length, get_or, length-append, get_or-append}
use Rattle.std.specs.Iterator.{YieldsFirstBy}
use Rattle.std.proofs.lemmas.Iterator.{YieldsList}
use Rattle.std.proofs.lemmas.Iterator.Consumers.{YieldsList-from_first}
use Rattle.arrayvec.specs.ArrayString.{ArrayString}
use Rattle.pattern.specs.declared.Pattern.{Pattern}
use Rattle.pattern.specs.Filters.{header_of}
use Rattle.printing.specs.Text.{digit, digits, decimal, letter}
use Rattle.judge.specs.Judging.{lent_of}
use Rattle.printing.specs.Lines.{class_line, class_at, class_lines}
use Rattle.printing.specs.declared.Printed.{Printed}
use Rattle.printing.specs.declared.Lines.{Lines}
use Rattle.printing.specs.Left.{lines_of, lines_left, TakesFirst}

-- The number that a text of digits stands for, after so much.
unfoldable pub value_after : ℕ → List ℕ → ℕ
value_after so [] = so
value_after so (d ∷ ds) = value_after (so * 10 + (d - 48)) ds

abbrev pub value : List ℕ → ℕ
value = value_after 0

value_last : (so : ℕ) (s : List ℕ) (d : ℕ) → value_after so (s ++ (d ∷ [])) ≡ value_after so s * 10 + (d - 48)
unfolding value_after
value_last so [] d = refl
value_last so (x ∷ s) d = value_last (so * 10 + (x - 48)) s d

value-front : (b : Bool) (x : List ℕ) (v : ℕ) → (b ≡ true → 0 ≡ v) → (b ≡ false → value x ≡ v) → value (cond b [] x) ≡ v
unfolding value_after
value-front true x v f g = f refl
value-front false x v f g = g refl

digits_value : (m n : ℕ) → n < m → value (digits m n) ≡ n
unfolding digits
digits_value zero n h = absurd (omega arith)
digits_value (suc m) n h =
    let front : value (cond (ltb n 10) [] (digits m (n / 10))) ≡ n / 10 =
    value-front (ltb n 10) (digits m (n / 10)) (n / 10)
    (λ e. let small : n < 10 = ltb-true n 10 e in omega arith)
    (λ e. let big : 10 ≤ n = ltb-false n 10 e in digits_value m (n / 10) (omega arith)) in
    value_last 0 (cond (ltb n 10) [] (digits m (n / 10))) (digit (n % 10)) ∙ omega (arith, front)

-- A number reads back as itself.
pub decimal-value : (n : ℕ) → value (decimal n) ≡ n
unfolding decimal
decimal-value n = digits_value (suc n) n (omega arith)

-- So two numbers with one text are one number.
pub decimal_only : (m n : ℕ) → decimal m ≡ decimal n → m ≡ n
decimal_only m n e = sym (decimal-value m) ∙ ap value e ∙ decimal-value n

-- The first letter of a number's text.
first_digit : (b : Bool) (x : List ℕ) (d : ℕ) → (b ≡ true → d ≡ 48 → ⊥) → (b ≡ false → (0 < length x) × (get_or x 0 0 ≡ 48 → ⊥)) → get_or (cond b [] x ++ (d ∷ [])) 0 0 ≡ 48 → ⊥
first_digit true x d f g e = f refl e
first_digit false x d f g e = (g refl).1 (sym (get_or-append x (d ∷ []) 0 0 (g refl).0) ∙ e)

digits_some : (m n : ℕ) → n < m → 0 < length (digits m n)
unfolding digits
digits_some zero n h = absurd (omega arith)
digits_some (suc m) n h = omega (arith, length-append (cond (ltb n 10) [] (digits m (n / 10))) (digit (n % 10) ∷ []))

digits_first : (m n : ℕ) → n < m → 0 < n → get_or (digits m n) 0 0 ≡ 48 → ⊥
unfolding digits
digits_first zero n h some = absurd (omega arith)
digits_first (suc m) n h some =
    first_digit (ltb n 10) (digits m (n / 10)) (digit (n % 10))
    (λ b e. let small : n < 10 = ltb-true n 10 b in omega arith)
    (λ b. let big : 10 ≤ n = ltb-false n 10 b in (digits_some m (n / 10) (omega arith), digits_first m (n / 10) (omega arith) (omega arith)))

-- A number but 0 has no zero in front.
pub decimal_first : (n : ℕ) → 0 < n → get_or (decimal n) 0 0 ≡ 48 → ⊥
unfolding decimal
decimal_first n h = digits_first (suc n) n (omega arith) h

-- Every bit below w is a one in 2 ^ w - 1.
ones_bit : (w b : ℕ) → b < w → (2 ^ w - 1) / 2 ^ b % 2 ≡ 1
ones_bit w b h =
    let j = w - suc b in
    let whole : w ≡ suc j + b = omega arith in
    ap (λ (k : ℕ). (2 ^ k - 1) / 2 ^ b % 2) whole
    ∙ ap (λ (k : ℕ). k / 2 ^ b % 2) (ones_split (suc j) b)
    ∙ ap (λ (k : ℕ). k % 2) (high (2 ^ suc j - 1) b (ones_lt b))
    ∙ omega (arith, pow-suc 2 j, pow_pos j)

-- A header's letters are its bits: none is free.
pub header_letter : (w h b : ℕ) → b < w → letter (header_of w h) b ≡ digit (h / 2 ^ b % 2)
header_letter w h b inside = ap (λ (k : ℕ). cond (eqb k 0) (code "*") (digit (h / 2 ^ b % 2))) (ones_bit w b inside)

-- The lists of a class list with more after it: one line for each class, its pattern and its size.
module _ {A : Type 0} (pat : A → Pattern) (size : A → ℕ) (w : ℕ) where
  later_lines : (c v s : ℕ) (cs vs ss cycle : List ℕ) (i m : ℕ) → class_lines w (lent_of (c ∷ cs) (v ∷ vs) (s ∷ ss) cycle) (suc i) m ≡ class_lines w (lent_of cs vs ss cycle) i m
  unfolding class_lines
  later_lines c v s cs vs ss cycle i zero = refl
  later_lines c v s cs vs ss cycle i (suc m) = ap (λ (rest : List (List ℕ)). class_at w (lent_of cs vs ss cycle) i ∷ rest) (later_lines c v s cs vs ss cycle (suc i) m)

  pub class_list-lines : (L : List A) (xs ys zs cycle : List ℕ)
      → class_lines w (lent_of (map (λ e. (pat e).care) L ++ xs) (map (λ e. (pat e).value) L ++ ys) (map size L ++ zs) cycle) 0 (length L) ≡ map (λ e. class_line w (pat e) (size e)) L
  unfolding class_lines
  class_list-lines [] xs ys zs cycle = refl
  class_list-lines (e ∷ L) xs ys zs cycle =
      ap (λ (rest : List (List ℕ)). class_line w (pat e) (size e) ∷ rest)
      (later_lines (pat e).care (pat e).value (size e) (map (λ e. (pat e).care) L ++ xs) (map (λ e. (pat e).value) L ++ ys) (map size L ++ zs) cycle 0 (length L) ∙ class_list-lines L xs ys zs cycle)

abbrev bytes : ArrayString → List ℕ
bytes line = line.bytes

-- Whoever goes over the lines of a verdict is given their texts, each once, in their order, and no more.
pub all_lines : (p : Printed) (s : Lines) → lines_left s ≡ lines_of p → YieldsList (YieldsFirstBy bytes lines_left) bytes s (lines_of p)
all_lines p s e = YieldsList-from_first bytes lines_left (lines_of p) e

-- These are the lines that `put_next` puts one after another, up to where it finds none left.
abbrev pub Taken : Lines → List (List ℕ) → Type 0
Taken s [] = (line : List ℕ) × (t : Lines) × TakesFirst s false line t
Taken s (x ∷ xs) = (t : Lines) × TakesFirst s true x t × Taken t xs

taken_left : (s : Lines) (xs : List (List ℕ)) → Taken s xs → xs ≡ lines_left s
taken_left s [] (line, t, f) = sym (f.1 refl).0
taken_left s (x ∷ xs) (t, f, rest) = ap (λ (l : List (List ℕ)). x ∷ l) (taken_left t xs rest) ∙ sym (f.0 refl)

-- So they are the texts of all lines of the verdict, each once, in their order, and no more.
pub all_taken : (p : Printed) (s : Lines) (xs : List (List ℕ)) → lines_left s ≡ lines_of p → Taken s xs → xs ≡ lines_of p
all_taken p s xs e run = taken_left s xs run ∙ e
