-- The contracts of the three calls allow one outcome only: two that they allow return the same number and leave the same lists.
use mathlib.Core.Path.{◌≡◌, sym, ◌∙◌}
use mathlib.Core.List.{List}
use Prim.Native.Nat.{ℕ}
use Rattle.desk.specs.declared.Sheet.{Sheet}
use Rattle.desk.specs.Sheets.{returned, laid, unless_short}

-- What each contract says of the number r and of the list out' at exit, from the sheet of the inner call's answer and the list at entry.
pub record Shown (sheet : Sheet) (out : List ℕ) (r : ℕ) (out' : List ℕ) : Type 0 where
  pub number : r ≡ returned sheet out
  pub figures : out' ≡ laid sheet out

module _ (sheet : Sheet) (out : List ℕ) (r s : ℕ) (out₁ out₂ : List ℕ) (a : Shown sheet out r out₁) (b : Shown sheet out s out₂) where
  pub one_number : r ≡ s
  one_number = a.number ∙ sym b.number

  pub one_out : out₁ ≡ out₂
  one_out = a.figures ∙ sym b.figures

-- Judge's other lists: `given` is what the inner call leaves there.
pub one_list : (out old given : List ℕ) {after₁ after₂ : List ℕ} → after₁ ≡ unless_short out old given → after₂ ≡ unless_short out old given → after₁ ≡ after₂
one_list out old given a b = a ∙ sym b
