-- Lists that a loop writes, a store at a time; and the cycle's list, a node at a time.
use mathlib.Core.Path.{◌≡◌, sym, ◌∙◌, ap, ap₂}
use mathlib.Core.List.{List, [], ◌∷◌, ◌++◌, append_assoc, append-nil}
use Prim.Native.Nat.{ℕ, ◌+◌, ◌-◌, ◌<◌}
use native.Mathlib.Nat.{sub-zero}
use native.Mathlib.Numerals.{add-one}
use native.Mathlib.Omega.{arith}
use lib.ListN.{length, take, drop, set, replicate, take-append-drop, length-set}
use lib.Seq.{take-suc-set, drop-set-lt, drop-drop, length-take-le}
use borrow.Author.Tests.{eq-eqb, ne_eqb}
use Rattle.rounds.proofs.Cycle.{fuel}
use Rattle.rounds.specs.Rounds.{cycle_from, cycle_of, cycle_bytes}
use Rattle.std.proofs.lemmas.List.{drop-replicate, drop_all}

-- the element c stored at i: the list in front of `rest` grows by c
pub put_more : (l rest : List ℕ) (i c : ℕ) → i < length l → take i l ++ (c ∷ rest) ≡ take (i + 1) (set l i c) ++ rest
put_more l rest i c h = rw (add-one i, take-suc-set l i c h) (sym (append_assoc (take i l) (c ∷ []) rest))

-- and what lies behind is as it was
pub drop_more : (l l₀ : List ℕ) (i c : ℕ) → drop i l ≡ drop i l₀ → drop (i + 1) (set l i c) ≡ drop (i + 1) l₀
drop_more l l₀ i c e =
    drop-set-lt (i + 1) l i c (omega arith) ∙ sym (drop-drop 1 i l) ∙ ap (drop 1) e ∙ drop-drop 1 i l₀

-- with the last element c stored at i, the list is cyc and then what it was
pub put_last : (l l₀ cyc : List ℕ) (i c : ℕ) → i < length l → drop i l ≡ drop i l₀ → cyc ≡ take i l ++ (c ∷ []) → set l i c ≡ cyc ++ drop (length cyc) l₀
put_last l l₀ cyc i c h e w =
    let t : cyc ≡ take (i + 1) (set l i c) = w ∙ put_more l [] i c h ∙ append-nil (take (i + 1) (set l i c)) in
    let count : i + 1 ≡ length cyc = sym (ap length t ∙ length-take-le (i + 1) (set l i c) (simp length-set (omega arith))) in
    sym (take-append-drop (i + 1) (set l i c)) ∙ ap₂ (λ (x y : List ℕ). x ++ y) (sym t) (drop_more l l₀ i c e ∙ ap (λ k. drop k l₀) count)

-- cyc at the front of 64 bytes that were 255
pub on_cleared : (cyc old : List ℕ) → length old ≡ 64 → cyc ++ drop (length cyc) (replicate 64 255) ≡ cycle_bytes cyc old
on_cleared cyc old e =
    ap (λ t. cyc ++ t) (drop-replicate (length cyc) 64 255
    ∙ sym (append-nil (replicate (64 - length cyc) 255))
    ∙ ap (λ t. replicate (64 - length cyc) 255 ++ t) (sym (drop_all 64 old (omega (arith, e)))))

module _ (f : ℕ → ℕ) where
  pub cyc_first : (n v : ℕ) → cycle_of f n v ≡ cycle_from f v v (n - 0)
  unfolding cycle_of
  cyc_first n v = rw (sub-zero n)

  pub cyc_last : (n i v c : ℕ) → i < n → f c ≡ v → cycle_from f v c (n - i) ≡ c ∷ []
  unfolding cycle_from
  cyc_last n i v c h e = rw (fuel n i h, eq-eqb (f c) v e)

  pub cyc_more : (n i v c : ℕ) → i < n → (f c ≡ v → ⊥) → cycle_from f v c (n - i) ≡ c ∷ cycle_from f v (f c) (n - (i + 1))
  unfolding cycle_from
  cyc_more n i v c h e = rw (fuel n i h, ne_eqb (f c) v e)
