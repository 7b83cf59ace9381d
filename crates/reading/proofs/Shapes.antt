-- The table of kinds: the case fixes the body's length, and what holds of each row holds of every kind byte.
use Prim.Native.Nat.{ℕ, zero, suc, ◌+◌, ◌-◌, ◌≤◌, ◌<◌}
use mathlib.Core.List.{List, [], ◌∷◌}
use mathlib.Core.Path.{◌≡◌, refl, sym, subst}
use native.Mathlib.Omega.{arith}
use borrow.Author.Tests.{ne_eqb, ltb-true, ltb-false}
use lib.Dec.{eqb, ltb}
use Rattle.std.specs.Prelude.{Option, Some, None}
use Rattle.reading.specs.declared.records.Notation.TheVariants.{Caring, Freeing}
use Rattle.reading.specs.declared.records.Doing.{Doing}
use Rattle.reading.specs.declared.records.Doing.TheVariants.{Forwards, Drops, Delivers}
use Rattle.reading.specs.declared.records.Case.{Case}
use Rattle.reading.specs.declared.records.Case.TheVariants.{Network, Table, Rule, End}
use Rattle.reading.specs.declared.records.Shape.{Shape}
use Rattle.reading.specs.Kinds.{Kind, kinds, find_kind, shape_of}
use Rattle.reading.specs.Code.{shape, rule_shape, rule_body, body_of}
use Rattle.reading.proofs.Tests.{by_test, cond_elim}

-- What holds of no shape, and of each case with that case's body, holds of what the table says of any kind byte.
module _ (P : Option Shape → Type 0) (none : P None) (each : (c : Case) → P (Some (shape c (body_of c)))) where
  abbrev All : List Kind → Type 0
  All [] = Unit
  All (x ∷ xs) = P (Some x.shape) × All xs

  find_all : (k : ℕ) (xs : List Kind) → All xs → P (find_kind k xs)
  find_all k [] a = none
  find_all k (x ∷ xs) a = cond_elim P (eqb k x.byte) (λ _. a.0) (λ _. find_all k xs a.1)

  pub of_shape : (k : ℕ) → P (shape_of k)
  unfolding shape_of
  of_shape k =
      find_all k kinds (
        each Network,
        (
          each Table,
          (
            each (Rule Caring Forwards),
            (
              each (Rule Caring Drops),
              (
                each (Rule Caring Delivers),
                (each (Rule Freeing Forwards), (each (Rule Freeing Drops), (each (Rule Freeing Delivers), (each End, tt)))),
              ),
            ),
          ),
        ),
      )

-- The rows of the table that the code's two ranges stand for.
range_of : (P : ℕ → Type 0) (a k : ℕ) → P a → P (a + 1) → P (a + 2) → a ≤ k → k < a + 3 → P k
range_of P a k p0 p1 p2 l h =
    by_test (ltb k (a + 1)) (λ t. subst P (sym (from (ltb-true k (a + 1) t))) p0) (λ f.
    by_test (ltb k (a + 2)) (λ t. subst P (sym (middle (ltb-false k (a + 1) f) (ltb-true k (a + 2) t))) p1) (λ g.
    subst P (sym (last (ltb-false k (a + 2) g))) p2))
  where
    from : k < a + 1 → k ≡ a
    from t = omega arith

    middle : a + 1 ≤ k → k < a + 2 → k ≡ a + 1
    middle f t = omega arith

    last : a + 2 ≤ k → k ≡ a + 2
    last g = omega arith

pub caring_kinds : (k : ℕ) → 3 ≤ k → k < 6 → Some (rule_shape Caring (k - 3)) ≡ shape_of k
unfolding shape_of
caring_kinds k l h = range_of (λ (k : ℕ). Some (rule_shape Caring (k - 3)) ≡ find_kind k kinds) 3 k refl refl refl l h

pub freeing_kinds : (k : ℕ) → 19 ≤ k → k < 22 → Some (rule_shape Freeing (k - 19)) ≡ shape_of k
unfolding shape_of
freeing_kinds k l h = range_of (λ (k : ℕ). Some (rule_shape Freeing (k - 19)) ≡ find_kind k kinds) 19 k refl refl refl l h

-- A byte that is none of the nine kinds.
pub unknown_kind : (k : ℕ) → (k ≡ 1 → ⊥) → (k ≡ 2 → ⊥) → (k ≡ 127 → ⊥) → (3 ≤ k → k < 6 → ⊥) → (19 ≤ k → k < 22 → ⊥) → None ≡ shape_of k
unfolding shape_of
unknown_kind k n1 n2 n127 low high =
    simp (
      ne_eqb k 1 n1,
      ne_eqb k 2 n2,
      ne_eqb k 127 n127,
      ne_eqb k 3 (λ e. low (omega arith) (omega arith)),
      ne_eqb k 4 (λ e. low (omega arith) (omega arith)),
      ne_eqb k 5 (λ e. low (omega arith) (omega arith)),
      ne_eqb k 19 (λ e. high (omega arith) (omega arith)),
      ne_eqb k 20 (λ e. high (omega arith) (omega arith)),
      ne_eqb k 21 (λ e. high (omega arith) (omega arith)),
    )

pub at_least_3 : (k : ℕ) → 1 ≤ k → (k ≡ 1 → ⊥) → (k ≡ 2 → ⊥) → 3 ≤ k
at_least_3 zero a h1 h2 = omega arith
at_least_3 (suc zero) a h1 h2 = absurd (h1 refl)
at_least_3 (suc (suc zero)) a h1 h2 = absurd (h2 refl)
at_least_3 (suc (suc (suc k))) a h1 h2 = omega arith

-- Mask and value take eight bytes, the next node one more.
pub rule_body_lem : (d : Doing) → 8 ≤ rule_body d
rule_body_lem Forwards = omega arith
rule_body_lem Drops = omega arith
rule_body_lem Delivers = omega arith
