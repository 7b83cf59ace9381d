-- Some marked class has a header under a prefix: as the counts say it, and as a header that says so. Some class is marked at all.
use mathlib.Core.Path.{◌≡◌, sym, subst}
use mathlib.Core.Logic.{◌⊎◌, inl, inr}
use mathlib.Core.Bool.{Bool, false, not, ◌&&◌, ◌||◌}
use mathlib.Core.List.{List, [], ◌∷◌, map}
use Prim.Native.Nat.{ℕ, zero, suc, ◌^◌, ◌≤◌, ◌<◌}
use native.Mathlib.Omega.{arith}
use lib.Dec.{T, eqb}
use lib.ListN.{length}
use Rattle.std.specs.List.{list_any}
use borrow.Author.Tests.{ne_eqb}
use Rattle.pattern.specs.declared.Pattern.{Pattern}
use Rattle.pattern.proofs.Tests.{both}
use Rattle.classes.specs.Classes.{same, among}
use Rattle.least.specs.Steps.{some_of}
use Rattle.classes.proofs.Counts.{count_some, count-pos}
use Rattle.classes.proofs.Order.{or_l, or_r, or_says, same_says, among_first}
use Rattle.least.proofs.Counts.{part, counted}

-- the marks say which patterns of K pass the test
abbrev pub Marked : (Pattern → Bool) → List Bool → List Pattern → Type 0
Marked goes marks [] = Unit
Marked goes [] (p ∷ K) = (false ≡ goes p) × Marked goes [] K
Marked goes (m ∷ marks) (p ∷ K) = (m ≡ goes p) × Marked goes marks K

-- where no mark stands, no pattern passes
unmarked : (goes : Pattern → Bool) (q : Pattern) (K : List Pattern) → Marked goes [] K → T (among q K) → T (goes q) → ⊥
unmarked goes q [] r a b = absurd a
unmarked goes q (p ∷ K) r a b = go (unmarked goes q K r.1) (or_says (same q p) (among q K) a)
  where
    go : (T (among q K) → T (goes q) → ⊥) → T (same q p) ⊎ T (among q K) → ⊥
    go rest (inl s) = subst T (sym r.0) (subst (λ (u : Pattern). T (goes u)) ((same_says q p).0 s) b)
    go rest (inr s) = rest s b

module _ (w : ℕ) (g : ℕ → Pattern) (t : ℕ → Bool) (goes : Pattern → Bool) where
  pub some_found : (marks : List Bool) (K : List Pattern) → Marked goes marks K → T (some_of marks (map (counted w g t) K))
      → (h : ℕ) × (h < 2 ^ w) × T (t h) × T (goes (g h))
  some_found [] K r s = absurd s
  some_found (m ∷ marks) [] r s = absurd s
  some_found (m ∷ marks) (p ∷ K) r s =
      go (some_found marks K r.1) (or_says (m && not (eqb (part w g t p) 0)) (some_of marks (map (counted w g t) K)) s)
    where
      here : T (m && not (eqb (part w g t p) 0)) → (h : ℕ) × (h < 2 ^ w) × T (t h) × T (goes (g h))
      here s =
          let b = (both m (not (eqb (part w g t p) 0))).0 s in
          let c = count_some (λ h. t h && same (g h) p) (2 ^ w) (pos (part w g t p) b.1) in
          let d = (both (t c.0) (same (g c.0) p)).0 c.2 in
          (c.0, c.1, d.0, subst (λ (q : Pattern). T (goes q)) (sym ((same_says (g c.0) p).0 d.1)) (subst T r.0 b.0))
        where
          pos : (x : ℕ) → T (not (eqb x 0)) → zero < x
          pos zero s = absurd s
          pos (suc x) s = omega arith

      go : (T (some_of marks (map (counted w g t) K)) → (h : ℕ) × (h < 2 ^ w) × T (t h) × T (goes (g h)))
          → T (m && not (eqb (part w g t p) 0)) ⊎ T (some_of marks (map (counted w g t) K))
          → (h : ℕ) × (h < 2 ^ w) × T (t h) × T (goes (g h))
      go rest (inl s) = here s
      go rest (inr s) = rest s

  pub some_there : (marks : List Bool) (K : List Pattern) → Marked goes marks K → (h : ℕ) → h < 2 ^ w → T (t h) → T (goes (g h)) → T (among (g h) K)
      → T (some_of marks (map (counted w g t) K))
  some_there marks [] r h l a b c = absurd c
  some_there [] (p ∷ K) r h l a b c = absurd (unmarked goes (g h) (p ∷ K) r c b)
  some_there (m ∷ marks) (p ∷ K) r h l a b c = go (some_there marks K r.1 h l a b) (or_says (same (g h) p) (among (g h) K) c)
    where
      here : T (same (g h) p) → T (m && not (eqb (part w g t p) 0))
      here s =
          (both m (not (eqb (part w g t p) 0))).1 (
            subst T (sym r.0) (subst (λ (q : Pattern). T (goes q)) ((same_says (g h) p).0 s) b),
            nonzero (part w g t p) (count-pos (λ k. t k && same (g k) p) (2 ^ w) h l ((both (t h) (same (g h) p)).1 (a, s))),
          )
        where
          nonzero : (x : ℕ) → zero < x → T (not (eqb x 0))
          nonzero x p = subst (λ (b : Bool). T (not b)) (sym (ne_eqb x 0 (omega arith))) tt

      go : (T (among (g h) K) → T (some_of marks (map (counted w g t) K))) → T (same (g h) p) ⊎ T (among (g h) K)
          → T (some_of (m ∷ marks) (map (counted w g t) (p ∷ K)))
      go rest (inl s) = or_l (m && not (eqb (part w g t p) 0)) (some_of marks (map (counted w g t) K)) (here s)
      go rest (inr s) = or_r (m && not (eqb (part w g t p) 0)) (some_of marks (map (counted w g t) K)) (rest s)

module _ (goes : Pattern → Bool) where
  pub any_found : (marks : List Bool) (K : List Pattern) → Marked goes marks K → length marks ≤ length K → T (list_any (λ m. m) marks)
      → (p : Pattern) × T (among p K) × T (goes p)
  any_found [] K r n s = absurd s
  any_found (m ∷ marks) [] r n s = absurd (none n)
    where
      none : suc (length marks) ≤ 0 → ⊥
      none n = omega arith
  any_found (m ∷ marks) (p ∷ K) r n s = go (any_found marks K r.1 (omega arith)) (or_says m (list_any (λ m. m) marks) s)
    where
      go : (T (list_any (λ m. m) marks) → (q : Pattern) × T (among q K) × T (goes q)) → T m ⊎ T (list_any (λ m. m) marks)
          → (q : Pattern) × T (among q (p ∷ K)) × T (goes q)
      go rest (inl t) = (p, among_first p K, subst T r.0 t)
      go rest (inr t) = let r = rest t in (r.0, or_r (same r.0 p) (among r.0 K) r.1, r.2)

  pub any_there : (marks : List Bool) (K : List Pattern) → Marked goes marks K → (q : Pattern) → T (among q K) → T (goes q) → T (list_any (λ m. m) marks)
  any_there marks [] r q a b = absurd a
  any_there [] (p ∷ K) r q a b = absurd (unmarked goes q (p ∷ K) r a b)
  any_there (m ∷ marks) (p ∷ K) r q a b = go (any_there marks K r.1 q) (or_says (same q p) (among q K) a)
    where
      go : (T (among q K) → T (goes q) → T (list_any (λ m. m) marks)) → T (same q p) ⊎ T (among q K) → T (m || list_any (λ m. m) marks)
      go rest (inl s) = or_l m (list_any (λ m. m) marks) (subst T (sym r.0) (subst (λ (u : Pattern). T (goes u)) ((same_says q p).0 s) b))
      go rest (inr s) = or_r m (list_any (λ m. m) marks) (rest s b)
