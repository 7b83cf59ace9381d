-- The cycle's nodes, one byte at a time; and what they are of a list that holds a cycle and then 255.
use Prim.Native.Nat.{ℕ, zero, suc, ◌+◌, ◌≤◌, ◌<◌}
use mathlib.Core.Bool.{Bool, cond}
use mathlib.Core.List.{List, [], ◌∷◌, ◌++◌, map}
use mathlib.Core.Path.{◌≡◌, refl, ap, ◌∙◌}
use native.Mathlib.Numerals.{add-one}
use native.Mathlib.Omega.{arith}
use borrow.Author.Tests.{eq-eqb, ne_eqb}
use lib.Dec.{eqb}
use lib.ListN.{length, drop, get_or, replicate, drop_of_length-le}
use lib.Seq.{drop-cons}
use Rattle.printing.specs.Text.{word, decimal}
use Rattle.printing.specs.Lines.{nodes, joined}

pub nodes_none : (vs : List ℕ) (i : ℕ) → length vs ≤ i → nodes (drop i vs) ≡ []
unfolding nodes
nodes_none vs i h = ap nodes (drop_of_length-le vs h)

module _ (vs : List ℕ) (i : ℕ) (h : i < length vs) where
  pub nodes_ended : get_or vs i 0 ≡ 255 → nodes (drop i vs) ≡ []
  unfolding nodes
  nodes_ended e = ap nodes (drop-cons vs i 0 h) ∙ simp (eq-eqb (get_or vs i 0) 255 e)

  pub nodes_next : (get_or vs i 0 ≡ 255 → ⊥) → nodes (drop i vs) ≡ (word " " ++ decimal (get_or vs i 0)) ++ nodes (drop (i + 1) vs)
  unfolding nodes
  nodes_next f = ap nodes (drop-cons vs i 0 h) ∙ simp (ne_eqb (get_or vs i 0) 255 f, add-one)

-- What follows a cycle shows nothing where it starts with 255.
pub nodes-filled : (m : ℕ) (rest : List ℕ) → nodes rest ≡ [] → nodes (replicate m 255 ++ rest) ≡ []
unfolding nodes
nodes-filled zero rest e = e
nodes-filled (suc m) rest e = refl

pub nodes_only : (vs rest : List ℕ) → nodes rest ≡ [] → nodes (vs ++ rest) ≡ nodes vs
unfolding nodes
nodes_only [] rest e = e
nodes_only (v ∷ vs) rest e = ap (λ (t : List ℕ). cond (eqb v 255) [] (word " " ++ decimal v ++ t)) (nodes_only vs rest e)

-- Every number of a list is shown, each after a blank, where none is 255.
pub nodes_all : (vs : List ℕ) → ((i : ℕ) → i < length vs → get_or vs i 0 < 255) → nodes vs ≡ joined (map (λ (v : ℕ). word " " ++ decimal v) vs)
unfolding nodes
nodes_all [] h = refl
nodes_all (v ∷ vs) h =
    ap (λ (b : Bool). cond b [] (word " " ++ decimal v ++ nodes vs)) (ne_eqb v 255 (let l = h 0 (omega arith) in omega arith))
    ∙ ap (λ (t : List ℕ). word " " ++ decimal v ++ t) (nodes_all vs (λ i l. h (suc i) (omega arith)))
