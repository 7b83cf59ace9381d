-- The code's loops, a turn at a time: counting under a prefix, looking for a marked class, and the next bit of the least header.
use mathlib.Core.Path.{◌≡◌, refl, sym, ap, ap₂, ◌∙◌, subst}
use mathlib.Core.Bool.{Bool, not, ◌&&◌, ◌||◌}
use mathlib.Core.List.{List, [], ◌∷◌}
use Prim.Native.Nat.{ℕ, zero, suc, ◌+◌, ◌-◌, ◌^◌, ◌≤◌, ◌<◌}
use native.Mathlib.Nat.{le_refl, sub-zero, le_of_suc-le}
use native.Mathlib.Numerals.{add-one}
use native.Mathlib.Omega.{arith}
use lib.Dec.{eqb}
use lib.ListN.{get_or, set, drop, length}
use lib.Seq.{get_or-set_same, get_or-set_other, drop-cons}
use Rattle.std.specs.List.{list_any, zip}
use Rattle.pattern.specs.declared.Pattern.{Pattern}
use Rattle.pattern.specs.Filters.{within}
use Rattle.classes.specs.Classes.{Entry, entry}
use Rattle.classes.specs.Given.{pattern_at, patterns_from}
use Rattle.classes.specs.Steps.{sum_if, rows}
use Rattle.classes.proofs.Rows.{rows_step, rows_end, rows_ext, patterns_step, patterns_end}
use Rattle.least.specs.Counting.{shared, recount, Enough}
use Rattle.least.specs.Steps.{some_of}

-- ---- counting, the last class first

-- The counts of the classes from place k on stand in ns.
pub record Counted (w : ℕ) (P : Pattern) (cs vs ns : List ℕ) (n k : ℕ) : Type 0 where
  pub upto : k ≤ n
  pub enough : Enough w P (patterns_from cs vs 0 n)
  pub done : rows cs vs ns k (n - k) ≡ recount w P (patterns_from cs vs k (n - k))

pub counted_none : {w : ℕ} {P : Pattern} {cs vs ns : List ℕ} {n : ℕ} → Enough w P (patterns_from cs vs 0 n) → Counted w P cs vs ns n n
counted_none {w} {P} {cs} {vs} {ns} {n} e = record {
  upto = le_refl n;
  enough = e;
  done = rows_end cs vs ns n n (le_refl n) ∙ ap (recount w P) (sym (patterns_end cs vs n n (le_refl n)));
}

enough_from : (w : ℕ) (P : Pattern) (cs vs : List ℕ) (n d : ℕ) → d ≤ n → Enough w P (patterns_from cs vs 0 n) → Enough w P (patterns_from cs vs d (n - d))
enough_from w P cs vs n zero h e = subst (λ (m : ℕ). Enough w P (patterns_from cs vs 0 m)) (sym (sub-zero n)) e
enough_from w P cs vs n (suc d) h e =
    subst (λ (x : ℕ). Enough w P (patterns_from cs vs x (n - x))) (add-one d)
    (rest (subst (Enough w P) (patterns_step cs vs d n h) (enough_from w P cs vs n d (le_of_suc-le h) e)))
  where
    rest : Enough w P (pattern_at cs vs d ∷ patterns_from cs vs (d + 1) (n - (d + 1))) → Enough w P (patterns_from cs vs (d + 1) (n - (d + 1)))
    rest s = s.2

-- the next class down
module _ {w : ℕ} {P : Pattern} {cs vs ns : List ℕ} {n k : ℕ} (s : Counted w P cs vs ns n k) (more : 0 < k) where
  below : k - 1 < n
  below = omega (arith, s.upto)

  next : k ≡ k - 1 + 1
  next = omega arith

  here : Enough w P (pattern_at cs vs (k - 1) ∷ patterns_from cs vs (k - 1 + 1) (n - (k - 1 + 1)))
  here = subst (Enough w P) (patterns_step cs vs (k - 1) n below) (enough_from w P cs vs n (k - 1) (le_of_suc-le below) s.enough)

  done_next : rows cs vs ns (k - 1 + 1) (n - (k - 1 + 1)) ≡ recount w P (patterns_from cs vs (k - 1 + 1) (n - (k - 1 + 1)))
  done_next = subst (λ (x : ℕ). rows cs vs ns x (n - x) ≡ recount w P (patterns_from cs vs x (n - x))) next s.done

  sum_is : sum_if (λ q. within q (pattern_at cs vs (k - 1))) (rows cs vs ns (k - 1 + 1) (n - (k - 1 + 1)))
      ≡ sum_if (λ q. within q (pattern_at cs vs (k - 1))) (recount w P (patterns_from cs vs (k - 1 + 1) (n - (k - 1 + 1))))
  sum_is = ap (sum_if (λ q. within q (pattern_at cs vs (k - 1)))) done_next

  pub turn_care : get_or cs (k - 1) 0 < 2 ^ w
  turn_care = here.0

  pub turn_bound : sum_if (λ q. within q (pattern_at cs vs (k - 1))) (rows cs vs ns (k - 1 + 1) (n - (k - 1 + 1))) ≤ shared w P (pattern_at cs vs (k - 1))
  turn_bound = omega (arith, sum_is, here.1)

  pub turn_store : {x : ℕ} → x ≡ shared w P (pattern_at cs vs (k - 1)) - sum_if (λ q. within q (pattern_at cs vs (k - 1))) (rows cs vs ns (k - 1 + 1) (n - (k - 1 + 1)))
      → k - 1 < length ns → Counted w P cs vs (set ns (k - 1) x) n (k - 1)
  turn_store {x} e l = record {
    upto = le_of_suc-le below;
    enough = s.enough;
    done =
        rows_step cs vs (set ns (k - 1) x) (k - 1) n below
        ∙ ap₂ (λ (y : ℕ) (r : List Entry). entry (pattern_at cs vs (k - 1)) y ∷ r)
        (get_or-set_same ns (k - 1) x 0 l ∙ e ∙ ap (λ (y : ℕ). shared w P (pattern_at cs vs (k - 1)) - y) sum_is)
        (rows_ext cs vs ns cs vs (set ns (k - 1) x) (suc (k - 1)) (n - suc (k - 1)) (λ m _ _. refl) (λ m _ _. refl) (λ m h _. get_or-set_other ns (k - 1) m x 0 (omega arith))
        ∙ ap (λ (y : ℕ). rows cs vs ns y (n - y)) (sym (add-one (k - 1))) ∙ done_next)
        ∙ ap (recount w P) (sym (patterns_step cs vs (k - 1) n below));
  }

-- ---- looking for a marked class

-- the counts as they stand in a list, and as entries
pub some_rows : (cs vs ns : List ℕ) (marks : List Bool) (j : ℕ) → j + length marks ≤ length ns
    → list_any (λ e. e.0 && not (eqb e.1 0)) (zip marks (drop j ns)) ≡ some_of marks (rows cs vs ns j (length marks))
unfolding rows
some_rows cs vs ns [] j h = refl
some_rows cs vs ns (m ∷ marks) j h =
    ap (λ (l : List ℕ). list_any (λ e. e.0 && not (eqb e.1 0)) (zip (m ∷ marks) l)) (drop-cons ns j 0 (omega arith))
    ∙ ap (λ (b : Bool). (m && not (eqb (get_or ns j 0) 0)) || b) (some_rows cs vs ns marks (suc j) (omega arith))
