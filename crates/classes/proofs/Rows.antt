-- The entries that stand in three lists: one at a time, after an insertion, after a removal; and the tally of what stands there.
use mathlib.Core.Path.{◌≡◌, refl, sym, ap, ap₂, ◌∙◌, subst}
use mathlib.Core.Logic.{◌⊎◌, inl, inr}
use mathlib.Core.Bool.{Bool, true, false, cond}
use mathlib.Core.List.{List, [], ◌∷◌, ◌++◌}
use Prim.Native.Nat.{ℕ, zero, suc, ◌+◌, ◌-◌, ◌≤◌, ◌<◌}
use native.Mathlib.Nat.{le_refl, eq-or-lt_of_le}
use native.Mathlib.Numerals.{add-one}
use native.Mathlib.Omega.{arith}
use lib.Dec.{T}
use lib.Bits.{bit_or}
use lib.ListN.{length, get_or, take}
use Rattle.std.proofs.lemmas.List.{take_more}
use Rattle.pattern.specs.declared.Pattern.{Pattern}
use Rattle.pattern.specs.Filters.{within}
use Rattle.pattern.proofs.Digits.{none, ◌∪◌, ◌≐◌, by_bits}
use Rattle.pattern.proofs.Masks.{x0, or_assoc}
use Rattle.classes.specs.Classes.{same, before, Entry, entry, tally}
use Rattle.classes.specs.Given.{pattern_at, patterns_from}
use Rattle.classes.specs.Steps.{sum_if, cover, row, rows}
use Rattle.classes.proofs.Shifts.{Inserted, Removed}
use Rattle.classes.proofs.Order.{same_says, before_asym, before_irrefl}

more : (j n : ℕ) → j < n → n - j ≡ suc (n - suc j)
more j n h = omega arith

pub rows_step : (cs vs ns : List ℕ) (j n : ℕ) → j < n → rows cs vs ns j (n - j) ≡ row cs vs ns j ∷ rows cs vs ns (suc j) (n - suc j)
unfolding rows
rows_step cs vs ns j n h = ap (rows cs vs ns j) (more j n h)

pub rows_end : (cs vs ns : List ℕ) (j n : ℕ) → n ≤ j → rows cs vs ns j (n - j) ≡ []
unfolding rows
rows_end cs vs ns j n h = ap (rows cs vs ns j) none
  where
    none : n - j ≡ 0
    none = omega arith

-- a pattern by its two numbers
abbrev pub pat : ℕ → ℕ → Pattern
pat c v = record { care = c; value = v }

pub row_eq : {a b c d s t : ℕ} → a ≡ b → c ≡ d → s ≡ t → entry (pat a c) s ≡ entry (pat b d) t
row_eq e f g = λ i. entry (pat (e i) (f i)) (g i)

-- the m numbers from j on stand at the places that φ says
abbrev Found : (ℕ → ℕ) → ℕ → ℕ → List ℕ → List ℕ → Type 0
Found φ j m b a = (k : ℕ) → j ≤ k → k < j + m → get_or b (φ k) 0 ≡ get_or a k 0

-- where φ keeps neighbours together, so do the entries
rows-found : (φ : ℕ → ℕ) → ((k : ℕ) → suc (φ k) ≡ φ (suc k)) → (cs vs ns cs' vs' ns' : List ℕ) (j m : ℕ)
    → Found φ j m cs' cs → Found φ j m vs' vs → Found φ j m ns' ns → rows cs' vs' ns' (φ j) m ≡ rows cs vs ns j m
unfolding rows
rows-found φ e cs vs ns cs' vs' ns' j zero a b c = refl
rows-found φ e cs vs ns cs' vs' ns' j (suc m) a b c =
    ap₂ (λ (x : Entry) (l : List Entry). x ∷ l)
    (row_eq (a j (le_refl j) (omega arith)) (b j (le_refl j) (omega arith)) (c j (le_refl j) (omega arith)))
    (ap (λ (x : ℕ). rows cs' vs' ns' x m) (e j) ∙ rows-found φ e cs vs ns cs' vs' ns' (suc j) m (tail cs' cs a) (tail vs' vs b) (tail ns' ns c))
  where
    tail : (y x : List ℕ) → Found φ j (suc m) y x → Found φ (suc j) m y x
    tail y x h k l u = h k (omega arith) (omega arith)

rows_up : (cs vs ns cs' vs' ns' : List ℕ) (j m : ℕ) → Found suc j m cs' cs → Found suc j m vs' vs → Found suc j m ns' ns
    → rows cs' vs' ns' (suc j) m ≡ rows cs vs ns j m
rows_up = rows-found suc (λ k. refl)

pub rows_ext : (cs vs ns cs' vs' ns' : List ℕ) (j m : ℕ) → Found (λ k. k) j m cs' cs → Found (λ k. k) j m vs' vs → Found (λ k. k) j m ns' ns
    → rows cs' vs' ns' j m ≡ rows cs vs ns j m
rows_ext = rows-found (λ k. k) (λ k. refl)

-- ---- sums

pub sum_step : (t : Pattern → Bool) (cs vs ns : List ℕ) (j n : ℕ) → j < n → (b : Bool) → b ≡ t (pattern_at cs vs j)
    → sum_if t (rows cs vs ns j (n - j)) ≡ cond b (get_or ns j 0) 0 + sum_if t (rows cs vs ns (j + 1) (n - (j + 1)))
sum_step t cs vs ns j n h b e =
    ap (sum_if t) (rows_step cs vs ns j n h)
    ∙ ap₂ (λ (x : Bool) (k : ℕ). cond x (get_or ns j 0) 0 + sum_if t (rows cs vs ns k (n - k))) (sym e) (sym (add-one j))

pub sum_end : (t : Pattern → Bool) (cs vs ns : List ℕ) (j n : ℕ) → n ≤ j → sum_if t (rows cs vs ns j (n - j)) ≡ 0
sum_end t cs vs ns j n h = ap (sum_if t) (rows_end cs vs ns j n h)

-- one size is at most all of them together
pub size_le : (cs vs ns : List ℕ) (d i r n : ℕ) → i + d ≡ r → r < n → get_or ns r 0 ≤ sum_if (λ p. true) (rows cs vs ns i (n - i))
size_le cs vs ns zero i r n e h =
    let ir : i ≡ r = omega arith in
    omega (arith, sum_step (λ p. true) cs vs ns i n (omega arith) true refl, ap (λ (k : ℕ). get_or ns k 0) ir)
size_le cs vs ns (suc d) i r n e h =
    omega (
      arith,
      sum_step (λ p. true) cs vs ns i n (omega arith) true refl,
      ap (λ (k : ℕ). sum_if (λ p. true) (rows cs vs ns k (n - k))) (add-one i),
      size_le cs vs ns d (suc i) r n (omega arith) h,
    )

-- ---- a tally at its place

skip : (p : Pattern) (x : ℕ) (e : Entry) (L : List Entry) → T (before e.pat p) → tally p x (e ∷ L) ≡ e ∷ tally p x L
skip p x e L b = go (before p e.pat) refl (same p e.pat) refl
  where
    go : (a : Bool) → before p e.pat ≡ a → (s : Bool) → same p e.pat ≡ s
        → cond a (entry p x ∷ e ∷ L) (cond s (entry e.pat (e.size + x) ∷ L) (e ∷ tally p x L)) ≡ e ∷ tally p x L
    go true i s j = absurd (before_asym p e.pat (subst T (sym i) tt) b)
    go false i true j = absurd (before_irrefl p (subst (λ (u : Pattern). T (before u p)) (sym ((same_says p e.pat).0 (subst T (sym j) tt))) b))
    go false i false j = refl

front : (p : Pattern) (x : ℕ) (e : Entry) (L : List Entry) → T (before p e.pat) → tally p x (e ∷ L) ≡ entry p x ∷ e ∷ L
front p x e L b = go (before p e.pat) b
  where
    go : (a : Bool) → T a → cond a (entry p x ∷ e ∷ L) (cond (same p e.pat) (entry e.pat (e.size + x) ∷ L) (e ∷ tally p x L)) ≡ entry p x ∷ e ∷ L
    go true t = refl
    go false t = absurd t

there : (p : Pattern) (x : ℕ) (e : Entry) (L : List Entry) → p ≡ e.pat → tally p x (e ∷ L) ≡ entry e.pat (e.size + x) ∷ L
there p x e L q = go (before p e.pat) refl (same p e.pat) ((same_says p e.pat).1 q)
  where
    go : (a : Bool) → before p e.pat ≡ a → (s : Bool) → T s
        → cond a (entry p x ∷ e ∷ L) (cond s (entry e.pat (e.size + x) ∷ L) (e ∷ tally p x L)) ≡ entry e.pat (e.size + x) ∷ L
    go true i s t = absurd (before_irrefl p (subst (λ (u : Pattern). T (before p u)) (sym q) (subst T (sym i) tt)))
    go false i true t = refl
    go false i false t = absurd t

module _ (p : Pattern) (x : ℕ) (cs vs ns cs' vs' ns' : List ℕ) (r n : ℕ) (rn : r ≤ n)
    (ic : Inserted r n p.care cs' cs) (iv : Inserted r n p.value vs' vs) (is : Inserted r n x ns' ns)
    (after : r < n → T (before p (pattern_at cs vs r))) where
  tail_up : rows cs' vs' ns' (suc r) (n - r) ≡ rows cs vs ns r (n - r)
  tail_up =
      rows_up cs vs ns cs' vs' ns' r (n - r) (λ k l h. ic.up k l (omega arith)) (λ k l h. iv.up k l (omega arith)) (λ k l h. is.up k l (omega arith))

  at_place : rows cs' vs' ns' r (suc n - r) ≡ tally p x (rows cs vs ns r (n - r))
  at_place =
      rows_step cs' vs' ns' r (suc n) (omega arith)
      ∙ ap₂ (λ (e : Entry) (l : List Entry). e ∷ l) (row_eq ic.new iv.new is.new) (ap (rows cs' vs' ns' (suc r)) less ∙ tail_up)
      ∙ go (eq-or-lt_of_le rn)
    where
      less : suc n - suc r ≡ n - r
      less = omega arith

      go : (r ≡ n) ⊎ (r < n) → entry p x ∷ rows cs vs ns r (n - r) ≡ tally p x (rows cs vs ns r (n - r))
      go (inl e) = subst (λ (l : List Entry). entry p x ∷ l ≡ tally p x l) (sym (rows_end cs vs ns r n (omega arith))) refl
      go (inr h) =
          subst (λ (l : List Entry). entry p x ∷ l ≡ tally p x l) (sym (rows_step cs vs ns r n h))
          (sym (front p x (row cs vs ns r) (rows cs vs ns (suc r) (n - suc r)) (after h)))

  pub tally_insert : (d i : ℕ) → i + d ≡ r → ((k : ℕ) → i ≤ k → k < r → T (before (pattern_at cs vs k) p))
      → rows cs' vs' ns' i (suc n - i) ≡ tally p x (rows cs vs ns i (n - i))
  tally_insert zero i e passed =
      subst (λ (k : ℕ). rows cs' vs' ns' k (suc n - k) ≡ tally p x (rows cs vs ns k (n - k))) (omega arith) at_place
  tally_insert (suc d) i e passed =
      rows_step cs' vs' ns' i (suc n) (omega arith)
      ∙ ap₂ (λ (y : Entry) (l : List Entry). y ∷ l) (row_eq (ic.low i (omega arith)) (iv.low i (omega arith)) (is.low i (omega arith)))
      (tally_insert d (suc i) (omega arith) (λ k l h. passed k (omega arith) h))
      ∙ sym (skip p x (row cs vs ns i) (rows cs vs ns (suc i) (n - suc i)) (passed i (le_refl i) (omega arith)))
      ∙ sym (ap (tally p x) (rows_step cs vs ns i n (omega arith)))

module _ (p : Pattern) (x : ℕ) (cs vs ns ns' : List ℕ) (r n : ℕ) (rn : r < n)
    (there-is : p ≡ pattern_at cs vs r) (new : get_or ns' r 0 ≡ get_or ns r 0 + x) (other : (k : ℕ) → (k ≡ r → ⊥) → get_or ns' k 0 ≡ get_or ns k 0) where
  at_there : rows cs vs ns' r (n - r) ≡ tally p x (rows cs vs ns r (n - r))
  at_there =
      rows_step cs vs ns' r n rn
      ∙ ap₂ (λ (e : Entry) (l : List Entry). e ∷ l) (row_eq refl refl new)
      (rows_ext cs vs ns cs vs ns' (suc r) (n - suc r) (λ k l h. refl) (λ k l h. refl) (λ k l h. other k (omega arith)))
      ∙ sym (there p x (row cs vs ns r) (rows cs vs ns (suc r) (n - suc r)) there-is)
      ∙ sym (ap (tally p x) (rows_step cs vs ns r n rn))

  pub tally_add : (d i : ℕ) → i + d ≡ r → ((k : ℕ) → i ≤ k → k < r → T (before (pattern_at cs vs k) p))
      → rows cs vs ns' i (n - i) ≡ tally p x (rows cs vs ns i (n - i))
  tally_add zero i e passed =
      subst (λ (k : ℕ). rows cs vs ns' k (n - k) ≡ tally p x (rows cs vs ns k (n - k))) (omega arith) at_there
  tally_add (suc d) i e passed =
      rows_step cs vs ns' i n (omega arith)
      ∙ ap₂ (λ (y : Entry) (l : List Entry). y ∷ l) (row_eq refl refl (other i (omega arith)))
      (tally_add d (suc i) (omega arith) (λ k l h. passed k (omega arith) h))
      ∙ sym (skip p x (row cs vs ns i) (rows cs vs ns (suc i) (n - suc i)) (passed i (le_refl i) (omega arith)))
      ∙ sym (ap (tally p x) (rows_step cs vs ns i n (omega arith)))

-- ---- a removal

pub removed-rows : (cs vs ns cs' vs' ns' : List ℕ) (i n : ℕ) → i < n → Removed i n cs' cs → Removed i n vs' vs → Removed i n ns' ns
    → rows cs' vs' ns' i (n - 1 - i) ≡ rows cs vs ns (suc i) (n - suc i)
removed-rows cs vs ns cs' vs' ns' i n h a b c =
    ap (rows cs' vs' ns' i) (omega arith)
    ∙ sym (rows_up cs' vs' ns' cs vs ns i (n - suc i) (λ k l m. sym (a.down k l (omega arith))) (λ k l m. sym (b.down k l (omega arith))) (λ k l m. sym (c.down k l (omega arith))))

-- ---- the patterns in two lists, one at a time

pub patterns_step : (cs vs : List ℕ) (j n : ℕ) → j < n → patterns_from cs vs j (n - j) ≡ pattern_at cs vs j ∷ patterns_from cs vs (j + 1) (n - (j + 1))
unfolding patterns_from
patterns_step cs vs j n h =
    ap (patterns_from cs vs j) (more j n h) ∙ ap (λ (x : ℕ). pattern_at cs vs j ∷ patterns_from cs vs x (n - x)) (sym (add-one j))

pub patterns_end : (cs vs : List ℕ) (j n : ℕ) → n ≤ j → patterns_from cs vs j (n - j) ≡ []
unfolding patterns_from
patterns_end cs vs j n h = ap (patterns_from cs vs j) none_left
  where
    none_left : n - j ≡ 0
    none_left = omega arith

-- ---- the cared bits of the filters that f lies within, one filter at a time

pub cover_more : (f : Pattern) (fs : List Pattern) (g : Pattern) → cover f (fs ++ g ∷ []) ≡ cond (within f g) (bit_or (cover f fs) g.care) (cover f fs)
cover_more f [] g = go (within f g)
  where
    go : (b : Bool) → cond b (bit_or g.care 0) 0 ≡ cond b (bit_or 0 g.care) 0
    go true = by_bits (g.care ∷ []) [] (x0 ∪ none ≐ none ∪ x0) tt
    go false = refl
cover_more f (h ∷ fs) g = go (within f h) (within f g) (cover_more f fs g)
  where
    go : (a b : Bool) → cover f (fs ++ g ∷ []) ≡ cond b (bit_or (cover f fs) g.care) (cover f fs)
        → cond a (bit_or h.care (cover f (fs ++ g ∷ []))) (cover f (fs ++ g ∷ []))
        ≡ cond b (bit_or (cond a (bit_or h.care (cover f fs)) (cover f fs)) g.care) (cond a (bit_or h.care (cover f fs)) (cover f fs))
    go true true e = ap (bit_or h.care) e ∙ sym (or_assoc h.care (cover f fs) g.care)
    go true false e = ap (bit_or h.care) e
    go false b e = e

module _ (f : Pattern) (fs : List Pattern) (i : ℕ) (d : Pattern) (all next : ℕ) (h : i < length fs) (so-far : all ≡ cover f (take i fs)) where
  next_cover : (b : Bool) → b ≡ within f (get_or fs i d) → cover f (take (i + 1) fs) ≡ cond b (bit_or all (get_or fs i d).care) all
  next_cover b e =
      ap (cover f) (take_more fs i d h)
      ∙ cover_more f (take i fs) (get_or fs i d)
      ∙ ap₂ (λ (x : Bool) (n : ℕ). cond x (bit_or n (get_or fs i d).care) n) (sym e) (sym so-far)

  pub cover_in : true ≡ within f (get_or fs i d) → next ≡ bit_or all (get_or fs i d).care → next ≡ cover f (take (i + 1) fs)
  cover_in e s = s ∙ sym (next_cover true e)

  pub cover_out : false ≡ within f (get_or fs i d) → next ≡ all → next ≡ cover f (take (i + 1) fs)
  cover_out e s = s ∙ sym (next_cover false e)
