-- The order of the class list: by care mask, then value; and lists that ascend in it.
use mathlib.Core.Path.{◌≡◌, refl, sym, ap, subst}
use mathlib.Core.Logic.{◌↔◌, ◌⊎◌, inl, inr}
use mathlib.Core.Bool.{Bool, true, false, not, ◌&&◌, ◌||◌}
use mathlib.Core.List.{List, [], ◌∷◌}
use Prim.Native.Nat.{◌<◌}
use native.Mathlib.Decide.{dec_lt}
use native.Mathlib.Omega.{arith}
use lib.Dec.{T, not_T, eqb, ltb, eqb→eq, ltb→lt, lt→ltb}
use Rattle.pattern.specs.declared.Pattern.{Pattern}
use Rattle.pattern.proofs.Tests.{eq→eqb, both}
use Rattle.pattern.proofs.Within.{pair}
use Rattle.classes.specs.Classes.{same, before, among}

pub or_l : (a b : Bool) → T a → T (a || b)
or_l true b t = tt
or_l false b t = absurd t

pub or_r : (a b : Bool) → T b → T (a || b)
or_r true b t = tt
or_r false b t = t

pub or_says : (a b : Bool) → T (a || b) → T a ⊎ T b
or_says true b t = inl tt
or_says false b t = inr t

pub is_true : (b : Bool) → T b → b ≡ true
is_true true t = refl
is_true false t = absurd t

pub is_false : (b : Bool) → (T b → ⊥) → b ≡ false
is_false true f = absurd (f tt)
is_false false f = refl

-- ---- the same pattern

pub same_says : (p q : Pattern) → T (same p q) ↔ (p ≡ q)
same_says p q = (
  λ t. let s = (both (eqb p.care q.care) (eqb p.value q.value)).0 t in
      pair (eqb→eq p.care q.care s.0) (eqb→eq p.value q.value s.1),
  λ e. (both (eqb p.care q.care) (eqb p.value q.value)).1 (eq→eqb (ap (λ (r : Pattern). r.care) e), eq→eqb (ap (λ (r : Pattern). r.value) e)),
)

pub same_refl : (p : Pattern) → T (same p p)
same_refl p = (same_says p p).1 refl

pub among_first : (p : Pattern) (K : List Pattern) → T (among p (p ∷ K))
among_first p K = or_l (same p p) (among p K) (same_refl p)

-- ---- which of two patterns comes first

abbrev Before : Pattern → Pattern → Type 0
Before p q = (p.care < q.care) ⊎ ((p.care ≡ q.care) × (p.value < q.value))

before_says : (p q : Pattern) → T (before p q) → Before p q
before_says p q t = go (or_says (ltb p.care q.care) (eqb p.care q.care && ltb p.value q.value) t)
  where
    go : T (ltb p.care q.care) ⊎ T (eqb p.care q.care && ltb p.value q.value) → (p.care < q.care) ⊎ ((p.care ≡ q.care) × (p.value < q.value))
    go (inl s) = inl (ltb→lt p.care q.care s)
    go (inr s) =
        let r = (both (eqb p.care q.care) (ltb p.value q.value)).0 s in
        inr (eqb→eq p.care q.care r.0, ltb→lt p.value q.value r.1)

before_from : (p q : Pattern) → Before p q → T (before p q)
before_from p q (inl h) = or_l (ltb p.care q.care) (eqb p.care q.care && ltb p.value q.value) (lt→ltb p.care q.care h)
before_from p q (inr h) =
    or_r (ltb p.care q.care) (eqb p.care q.care && ltb p.value q.value)
    ((both (eqb p.care q.care) (ltb p.value q.value)).1 (eq→eqb h.0, lt→ltb p.value q.value h.1))

pub before_trans : (p q r : Pattern) → T (before p q) → T (before q r) → T (before p r)
before_trans p q r s t = before_from p r (go (before_says p q s) (before_says q r t))
  where
    go : Before p q → Before q r → Before p r
    go (inl a) (inl b) = inl (omega arith)
    go (inl a) (inr b) = inl (omega arith)
    go (inr a) (inl b) = inl (omega arith)
    go (inr a) (inr b) = inr (omega arith)

pub before-total : (p q : Pattern) → (T (before p q) → ⊥) → (p ≡ q → ⊥) → T (before q p)
before-total p q f g = go (dec_lt q.care p.care) (dec_lt p.care q.care) (dec_lt q.value p.value) (dec_lt p.value q.value)
  where
    go : Dec (q.care < p.care) → Dec (p.care < q.care) → Dec (q.value < p.value) → Dec (p.value < q.value) → T (before q p)
    go (yes a) b c d = before_from q p (inl a)
    go (no a) (yes b) c d = absurd (f (before_from p q (inl b)))
    go (no a) (no b) (yes c) d = before_from q p (inr (omega arith))
    go (no a) (no b) (no c) (yes d) = absurd (f (before_from p q (inr (omega arith))))
    go (no a) (no b) (no c) (no d) = absurd (g (pair (omega arith) (omega arith)))

pub before_asym : (p q : Pattern) → T (before p q) → T (before q p) → ⊥
before_asym p q s t = go (before_says p q s) (before_says q p t)
  where
    go : Before p q → Before q p → ⊥
    go (inl a) (inl b) = omega arith
    go (inl a) (inr b) = omega arith
    go (inr a) (inl b) = omega arith
    go (inr a) (inr b) = omega arith

pub before_irrefl : (p : Pattern) → T (before p p) → ⊥
before_irrefl p t = before_asym p p t t

-- a care mask that is less comes before
pub before_care : (p q : Pattern) → p.care < q.care → T (before p q)
before_care p q h = or_l (ltb p.care q.care) (eqb p.care q.care && ltb p.value q.value) (lt→ltb p.care q.care h)

-- ---- ascending lists: the head comes before all of the tail

abbrev pub before_all : Pattern → List Pattern → Bool
before_all p [] = true
before_all p (q ∷ K) = before p q && before_all p K

abbrev pub ascending : List Pattern → Bool
ascending [] = true
ascending (p ∷ K) = before_all p K && ascending K

-- No pattern stands twice.
abbrev pub distinct : List Pattern → Bool
distinct [] = true
distinct (r ∷ K) = not (among r K) && distinct K

pub before_all_trans : (q r : Pattern) (K : List Pattern) → T (before q r) → T (before_all r K) → T (before_all q K)
before_all_trans q r [] b a = tt
before_all_trans q r (s ∷ K) b a =
    let t = (both (before r s) (before_all r K)).0 a in
    (both (before q s) (before_all q K)).1 (before_trans q r s b t.0, before_all_trans q r K b t.1)

pub before_member : (p q : Pattern) (K : List Pattern) → T (before_all p K) → T (among q K) → T (before p q)
before_member p q [] b m = absurd m
before_member p q (r ∷ K) b m =
    let s = (both (before p r) (before_all p K)).0 b in
    go (before_member p q K s.1) (or_says (same q r) (among q K) m)
  where
    go : (T (among q K) → T (before p q)) → T (same q r) ⊎ T (among q K) → T (before p q)
    go rest (inl t) = subst (λ (u : Pattern). T (before p u)) (sym ((same_says q r).0 t)) ((both (before p r) (before_all p K)).0 b).0
    go rest (inr t) = rest t

pub ascending-distinct : (K : List Pattern) → T (ascending K) → T (distinct K)
ascending-distinct [] a = tt
ascending-distinct (p ∷ K) a =
    let s = (both (before_all p K) (ascending K)).0 a in
    (both (not (among p K)) (distinct K)).1 (not_T (among p K) (λ m. before_irrefl p (before_member p p K s.0 m)), ascending-distinct K s.1)
