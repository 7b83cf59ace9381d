-- The headers of each class under a pattern P, counted from the last class to the first.
use mathlib.Core.Path.{◌≡◌, refl, sym, ap, ap₂, ◌∙◌}
use mathlib.Core.Bool.{Bool, true, false, ◌&&◌, ◌||◌, cond}
use mathlib.Core.List.{List, [], ◌∷◌, map}
use Prim.Native.Nat.{ℕ, ◌+◌, ◌-◌, ◌^◌, ◌≤◌, ◌<◌}
use native.Mathlib.Omega.{arith}
use lib.Dec.{T}
use lib.Bits.{or_lt}
use Rattle.pattern.specs.declared.Pattern.{Pattern}
use Rattle.pattern.specs.Filters.{hits, within, agree, common, WellFormed, count}
use Rattle.pattern.proofs.Tests.{both, iff_eq}
use Rattle.pattern.proofs.Within.{common-hits, common_fit, agree_says}
use Rattle.pattern.proofs.Size.{ind, count_ext, count_fixed, pattern_size}
use Rattle.classes.specs.Classes.{Entry, entry, same, among}
use Rattle.classes.specs.Steps.{sum_if}
use Rattle.classes.proofs.Counts.{count_add, count_same}
use Rattle.classes.proofs.Order.{same_says}
use Rattle.least.specs.Counting.{shared, recount, Enough}

-- the headers that two patterns share
pub shared_size : (w : ℕ) (P p : Pattern) → WellFormed w P → WellFormed w p → count (λ h. hits P h && hits p h) (2 ^ w) ≡ shared w P p
shared_size w P p g_p gp =
    count_ext (λ h. hits P h && hits p h) (λ h. hits (common p P) h && agree p P) (2 ^ w)
    (λ h _. iff_eq (hits P h && hits p h) (hits (common p P) h && agree p P)
    (λ t. let s = (both (hits P h) (hits p h)).0 t in
    let u = (common-hits p P gp.1 g_p.1 h).0 (s.1, s.0) in
    (both (hits (common p P) h) (agree p P)).1 (u.1, (agree_says p P).1 u.0))
    (λ t. let s = (both (hits (common p P) h) (agree p P)).0 t in
    let u = (common-hits p P gp.1 g_p.1 h).1 ((agree_says p P).0 s.1, s.0) in
    (both (hits P h) (hits p h)).1 (u.1, u.0)))
    ∙ count_fixed (hits (common p P)) (agree p P) (2 ^ w)
    ∙ ap (λ (x : ℕ). cond (agree p P) x 0)
    (pattern_size w (common p P) (or_lt w p.care P.care gp.0 g_p.0, common_fit p P gp.1 g_p.1))

-- g gives each header its pattern. K is an end of the class list: a header hits a pattern of it exactly when its own is that one,
-- or stands later and lies within it; no pattern stands twice.
abbrev pub Ends : ℕ → (ℕ → Pattern) → List Pattern → Type 0
Ends w g [] = Unit
Ends w g (p ∷ K) =
    WellFormed w p
    × ((h : ℕ) → h < 2 ^ w → hits p h ≡ same (g h) p || (among (g h) K && within (g h) p))
    × ((h : ℕ) → h < 2 ^ w → T (same (g h) p) → T (among (g h) K) → ⊥)
    × Ends w g K

module _ (w : ℕ) (g : ℕ → Pattern) (t : ℕ → Bool) where
  -- the headers of q's class that pass t
  abbrev pub part : Pattern → ℕ
  part q = count (λ h. t h && same (g h) q) (2 ^ w)

  abbrev pub counted : Pattern → Entry
  counted q = entry q (part q)

  -- a sum of these over an end of the list is a count of headers
  pub sum_is : (s : Pattern → Bool) (K : List Pattern) → Ends w g K
      → sum_if s (map counted K) ≡ count (λ h. t h && (among (g h) K && s (g h))) (2 ^ w)
  sum_is s [] e = sym (count_ext (λ h. t h && false) (λ h. false) (2 ^ w) (λ h _. none (t h)) ∙ count_same false (2 ^ w))
    where
      none : (a : Bool) → a && false ≡ false
      none true = refl
      none false = refl
  sum_is s (p ∷ K) e =
      ap₂ (λ (x y : ℕ). x + y) (sym (count_fixed (λ h. t h && same (g h) p) (s p) (2 ^ w))) (sum_is s K e.3)
      ∙ sym (count_add (λ h. t h && ((same (g h) p || among (g h) K) && s (g h))) (λ h. (t h && same (g h) p) && s p)
      (λ h. t h && (among (g h) K && s (g h))) (2 ^ w)
      (λ h l. apart (t h) (same (g h) p) (among (g h) K) (s (g h)) (s p) (e.2 h l) (λ u. ap s ((same_says (g h) p).0 u))))
    where
      apart : (a b c d d' : Bool) → (T b → T c → ⊥) → (T b → d ≡ d') → ind (a && ((b || c) && d)) ≡ ind ((a && b) && d') + ind (a && (c && d))
      apart false b c d d' n m = refl
      apart true true true d d' n m = absurd (n tt tt)
      apart true true false true d' n m = ap (λ (x : Bool). ind x + 0) (m tt)
      apart true true false false d' n m = ap (λ (x : Bool). ind x + 0) (m tt)
      apart true false true true d' n m = refl
      apart true false true false d' n m = refl
      apart true false false d d' n m = refl

  -- the headers that hit p: those of its own class, and those of the later ones within it
  pub own_part : (p : Pattern) (K : List Pattern) → Ends w g (p ∷ K)
      → count (λ h. t h && hits p h) (2 ^ w) ≡ part p + sum_if (λ q. within q p) (map counted K)
  own_part p K e =
      count_add (λ h. t h && hits p h) (λ h. t h && same (g h) p) (λ h. t h && (among (g h) K && within (g h) p)) (2 ^ w)
      (λ h l. ap (λ (b : Bool). ind (t h && b)) (e.1 h l) ∙ apart (t h) (same (g h) p) (among (g h) K) (within (g h) p) (e.2 h l))
      ∙ ap (λ (x : ℕ). part p + x) (sym (sum_is (λ q. within q p) K e.3))
    where
      apart : (a b c d : Bool) → (T b → T c → ⊥) → ind (a && (b || (c && d))) ≡ ind (a && b) + ind (a && (c && d))
      apart false b c d n = refl
      apart true true true d n = absurd (n tt tt)
      apart true true false d n = refl
      apart true false true true n = refl
      apart true false true false n = refl
      apart true false false d n = refl

module _ (w : ℕ) (g : ℕ → Pattern) (P : Pattern) (g_p : WellFormed w P) where
  whole : (p : Pattern) (K : List Pattern) → Ends w g (p ∷ K) → shared w P p ≡ part w g (hits P) p + sum_if (λ q. within q p) (map (counted w g (hits P)) K)
  whole p K e = sym (shared_size w P p g_p e.0) ∙ own_part w g (hits P) p K e

  -- what the code computes is the number of headers of each class under P
  pub recount_is : (K : List Pattern) → Ends w g K → recount w P K ≡ map (counted w g (hits P)) K
  recount_is [] e = refl
  recount_is (p ∷ K) e =
      ap (λ (L : List Entry). entry p (shared w P p - sum_if (λ q. within q p) L) ∷ L) (recount_is K e.3)
      ∙ ap (λ (x : ℕ). entry p x ∷ map (counted w g (hits P)) K)
      (less (shared w P p) (part w g (hits P) p) (sum_if (λ q. within q p) (map (counted w g (hits P)) K)) (whole p K e))
    where
      less : (x y z : ℕ) → x ≡ y + z → x - z ≡ y
      less x y z e = omega arith

  -- and no difference on the way is below 0
  pub recount_enough : (K : List Pattern) → Ends w g K → Enough w P K
  recount_enough [] e = tt
  recount_enough (p ∷ K) e = (e.0.0, fits, recount_enough K e.3)
    where
      fits : sum_if (λ q. within q p) (recount w P K) ≤ shared w P p
      fits = omega (arith, ap (sum_if (λ q. within q p)) (recount_is K e.3), whole p K e)
