-- The lines of an answer, by their number.
use Prim.Native.Nat.{ℕ, zero, suc, ◌+◌, ◌-◌, ◌≤◌, ◌<◌}
use mathlib.Core.List.{[], ◌∷◌, ◌++◌}
use mathlib.Core.Path.{◌≡◌, refl, sym, ap, ◌∙◌}
use native.Mathlib.Omega.{arith}
use lib.ListN.{length, get_or, length-append, get_or-append}
use lib.Seq.{get_or_at}
use Rattle.std.specs.Prelude.{Ok}
use Rattle.judge.specs.declared.Judged.{Judged}
use Rattle.judge.specs.Judging.{Lent}
use Rattle.printing.specs.Lines.{class_at, class_lines, verdict_line, lines}

class_lines-length : (w : ℕ) (l : Lent) (i m : ℕ) → length (class_lines w l i m) ≡ m
unfolding class_lines
class_lines-length w l i zero = refl
class_lines-length w l i (suc m) = ap suc (class_lines-length w l (suc i) m)

class_lines-at : (w : ℕ) (l : Lent) (i m k at : ℕ) → k < m → i + k ≡ at → get_or (class_lines w l i m) k [] ≡ class_at w l at
unfolding class_lines
class_lines-at w l i zero k at h e = absurd (omega arith)
class_lines-at w l i (suc m) zero at h e = ap (class_at w l) (omega (arith, e))
class_lines-at w l i (suc m) (suc k) at h e = class_lines-at w l (suc i) m k at (omega arith) (omega arith)

module _ (judged : Judged) (l : Lent) where
  pub judged_length : length (lines (Ok judged) l) ≡ judged.classes + 3
  judged_length = omega (arith, length-append (class_lines judged.figures.width l 0 judged.classes) (verdict_line judged.figures.width judged.verdict l.cycle ∷ []), class_lines-length judged.figures.width l 0 judged.classes)

  -- The lines from the third on.
  later : (k : ℕ) → 2 ≤ k → get_or (lines (Ok judged) l) k [] ≡ get_or (class_lines judged.figures.width l 0 judged.classes ++ (verdict_line judged.figures.width judged.verdict l.cycle ∷ [])) (k - 2) []
  later k h = let past : k ≡ suc (suc (k - 2)) = omega arith in ap (λ (n : ℕ). get_or (lines (Ok judged) l) n []) past

  -- A class's line comes 2 lines after the class's place.
  pub class-at : (k : ℕ) → 2 ≤ k → k - 2 < judged.classes → class_at judged.figures.width l (k - 2) ≡ get_or (lines (Ok judged) l) k []
  class-at k two h =
      sym
      (later k two
      ∙ get_or-append (class_lines judged.figures.width l 0 judged.classes) (verdict_line judged.figures.width judged.verdict l.cycle ∷ []) [] (k - 2) (omega (arith, class_lines-length judged.figures.width l 0 judged.classes))
      ∙ class_lines-at judged.figures.width l 0 judged.classes (k - 2) (k - 2) h (omega arith))

  -- The verdict comes after the classes.
  pub verdict_at : (k : ℕ) → k ≡ judged.classes + 2 → verdict_line judged.figures.width judged.verdict l.cycle ≡ get_or (lines (Ok judged) l) k []
  verdict_at k e =
      sym
      (later k (omega arith)
      ∙ get_or_at (class_lines judged.figures.width l 0 judged.classes) (verdict_line judged.figures.width judged.verdict l.cycle) [] [] (k - 2) (omega (arith, class_lines-length judged.figures.width l 0 judged.classes)))
