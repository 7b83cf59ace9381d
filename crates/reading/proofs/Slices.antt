-- The working arrays by node: a table's rules stand between the numbers of two first rules.
use Prim.Native.Nat.{ℕ, zero, suc, ◌+◌, ◌-◌, ◌≤◌, ◌<◌}
use mathlib.Core.List.{List, [], ◌∷◌, ◌++◌, flatten}
use mathlib.Core.Path.{◌≡◌, refl, ap, ◌∙◌}
use native.Mathlib.Omega.{arith}
use lib.ListN.{length, get_or, take, drop}
use lib.Seq.{take_at, drop-append-add}
use Rattle.reading.specs.declared.Rule.{Rule}
use Rattle.reading.proofs.Networks.{starts}

first_of : (n : ℕ) (ts : List (List Rule)) → get_or (starts n ts) 0 0 ≡ n
first_of n [] = refl
first_of n (t ∷ ts) = refl

-- Table v of the tables whose first rule has number n.
pub record Slice (n : ℕ) (ts : List (List Rule)) (v : ℕ) : Type 0 where
  pub from : n ≤ get_or (starts n ts) v 0
  pub upto : get_or (starts n ts) v 0 ≤ get_or (starts n ts) (suc v) 0
  pub rules : take (get_or (starts n ts) (suc v) 0 - get_or (starts n ts) v 0) (drop (get_or (starts n ts) v 0 - n) (flatten ts)) ≡ get_or ts v []

pub slice : (n : ℕ) (ts : List (List Rule)) (v : ℕ) → v < length ts → Slice n ts v
unfolding flatten
slice n [] v h = absurd (no h)
  where
    no : {v : ℕ} → v < 0 → ⊥
    no h = omega arith
slice n (t ∷ ts) zero h =
    let e = first_of (n + length t) ts in
    let a : get_or (starts (n + length t) ts) 0 0 - n ≡ length t = omega (arith, e) in
    let z : n - n ≡ 0 = omega arith in
    record {
      from = omega arith;
      upto = omega (arith, e);
      rules =
          ap (λ (k : ℕ). take k (drop (n - n) (t ++ flatten ts))) a
          ∙ ap (λ (k : ℕ). take (length t) (drop k (t ++ flatten ts))) z
          ∙ take_at t (flatten ts) (length t) refl;
    }
slice n (t ∷ ts) (suc v) h =
    let i = slice (n + length t) ts v (omega arith) in
    let a : get_or (starts (n + length t) ts) v 0 - n ≡ length t + (get_or (starts (n + length t) ts) v 0 - (n + length t)) = omega (arith, i.from) in
    record {
      from = omega (arith, i.from);
      upto = i.upto;
      rules =
          ap (λ (l : List Rule). take (get_or (starts (n + length t) ts) (suc v) 0 - get_or (starts (n + length t) ts) v 0) l)
          (ap (λ (k : ℕ). drop k (t ++ flatten ts)) a
          ∙ drop-append-add t (flatten ts) (get_or (starts (n + length t) ts) v 0 - (n + length t)))
          ∙ i.rules;
    }
