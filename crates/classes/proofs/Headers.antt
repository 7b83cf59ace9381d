-- The pattern of a header: what it says of the filters that the header matches, and how one more filter changes it.
use mathlib.Core.Path.{◌≡◌, refl, sym, ap, ap₂, ◌∙◌, subst}
use mathlib.Core.Logic.{◌↔◌}
use mathlib.Core.Bool.{Bool, true, false, ◌&&◌, ◌||◌, cond, beq}
use mathlib.Core.List.{List, [], ◌∷◌, ◌++◌}
use Prim.Native.Nat.{ℕ, ◌^◌, ◌<◌}
use lib.Dec.{T}
use lib.Bits.{bit_and, bit_or, and_zero_r, or_lt}
use lib.Pow.{pow_pos}
use Rattle.pattern.specs.declared.Pattern.{Pattern}
use Rattle.pattern.specs.Filters.{hits, all_free, common}
use Rattle.pattern.proofs.Tests.{both, iff_eq, beq_says}
use Rattle.pattern.proofs.Digits.{Ex, var, none, ◌∩◌, ◌∪◌, ◌≐◌, by_bits}
use Rattle.pattern.proofs.Masks.{x0, x1, x2, x3, x4, sub_antisym}
use Rattle.pattern.proofs.Within.{pair, Fit, Within, within_says, hits_says, Agree, common-hits}
use Rattle.classes.specs.Classes.{care_of, pat_of, same, among}
use Rattle.classes.specs.Given.{AllWellFormed}
use Rattle.classes.proofs.Order.{or_r, same_says, among_first}
use Rattle.classes.proofs.Partition.{Closed, hits_own}

abbrev x5 : Ex
x5 = var 5

-- ---- no filter, and one more

pub pat_none : (h : ℕ) → pat_of [] h ≡ all_free
pat_none h = pair refl (and_zero_r h)

-- A header's pattern is given by its cared bits.
pub care_pat : (fs gs : List Pattern) (h : ℕ) → care_of fs h ≡ care_of gs h → pat_of fs h ≡ pat_of gs h
care_pat fs gs h e = pair e (ap (bit_and h) e)

more : (f : Pattern) (fs : List Pattern) (h : ℕ) (b : Bool) → hits f h ≡ b → care_of (f ∷ fs) h ≡ cond b (bit_or (care_of fs h) f.care) (care_of fs h)
more f fs h b e = ap (λ (b : Bool). cond b (bit_or (care_of fs h) f.care) (care_of fs h)) e

pub pat_miss : (f : Pattern) (fs : List Pattern) (h : ℕ) → hits f h ≡ false → pat_of (f ∷ fs) h ≡ pat_of fs h
pat_miss f fs h e = care_pat (f ∷ fs) fs h (more f fs h false e)

pub pat-hit : (f : Pattern) (fs : List Pattern) (h : ℕ) → hits f h ≡ true → pat_of (f ∷ fs) h ≡ common (pat_of fs h) f
pat-hit f fs h e = pair (more f fs h true e) (ap (bit_and h) (more f fs h true e) ∙ values)
  where
    values : bit_and h (bit_or (care_of fs h) f.care) ≡ bit_or (bit_and h (care_of fs h)) f.value
    values =
        by_bits (h ∷ care_of fs h ∷ f.care ∷ f.value ∷ []) ((x0 ∩ x2 ≐ x3) ∷ []) (x0 ∩ (x1 ∪ x2) ≐ (x0 ∩ x1) ∪ x3) tt
        ((hits_says f h).0 (subst T (sym e) tt))

pub pat_fit : (fs : List Pattern) (h : ℕ) → Fit (pat_of fs h)
pat_fit fs h = by_bits (h ∷ care_of fs h ∷ []) [] ((x0 ∩ x1) ∩ x1 ≐ x0 ∩ x1) tt

-- ---- the cared bits of a filter that h matches are among its pattern's

pub care_grows : (f : Pattern) (fs : List Pattern) (h : ℕ) → bit_and (care_of fs h) (care_of (f ∷ fs) h) ≡ care_of fs h
care_grows f fs h = go (hits f h)
  where
    go : (b : Bool) → bit_and (care_of fs h) (cond b (bit_or (care_of fs h) f.care) (care_of fs h)) ≡ care_of fs h
    go true = by_bits (care_of fs h ∷ f.care ∷ []) [] (x0 ∩ (x0 ∪ x1) ≐ x0) tt
    go false = by_bits (care_of fs h ∷ []) [] (x0 ∩ x0 ≐ x0) tt

pub care_head : (f : Pattern) (fs : List Pattern) (h : ℕ) → T (hits f h) → bit_and f.care (care_of (f ∷ fs) h) ≡ f.care
care_head f fs h t = go (hits f h) t
  where
    go : (b : Bool) → T b → bit_and f.care (cond b (bit_or (care_of fs h) f.care) (care_of fs h)) ≡ f.care
    go true t = by_bits (care_of fs h ∷ f.care ∷ []) [] (x1 ∩ (x0 ∪ x1) ≐ x1) tt
    go false t = absurd t

pub care_has : (fs : List Pattern) (f : Pattern) (h : ℕ) → T (among f fs) → T (hits f h) → bit_and f.care (care_of fs h) ≡ f.care
care_has [] f h m t = absurd m
care_has (g ∷ fs) f h m t = go (λ k. care_has fs f h k t) (same f g) refl m
  where
    go : (T (among f fs) → bit_and f.care (care_of fs h) ≡ f.care) → (b : Bool) → same f g ≡ b → T (b || among f fs)
        → bit_and f.care (care_of (g ∷ fs) h) ≡ f.care
    go rest true s k =
        let fg : f ≡ g = (same_says f g).0 (subst T (sym s) tt) in
        subst (λ (r : Pattern). bit_and r.care (care_of (g ∷ fs) h) ≡ r.care) (sym fg) (care_head g fs h (subst (λ (r : Pattern). T (hits r h)) fg t))
    go rest false s k =
        by_bits (f.care ∷ care_of fs h ∷ care_of (g ∷ fs) h ∷ []) ((x0 ∩ x1 ≐ x0) ∷ (x1 ∩ x2 ≐ x1) ∷ []) (x0 ∩ x2 ≐ x0) tt (rest k) (care_grows g fs h)

-- ---- a header's pattern is closed

pub pat_closed : (fs : List Pattern) (h k : ℕ) → bit_and k (care_of fs h) ≡ bit_and h (care_of fs h) → bit_and (care_of fs h) (care_of fs k) ≡ care_of fs h
pat_closed [] h k e = refl
pat_closed (f ∷ fs) h k e = go (pat_closed fs h k) (hits f h) refl e
  where
    go : (bit_and k (care_of fs h) ≡ bit_and h (care_of fs h) → bit_and (care_of fs h) (care_of fs k) ≡ care_of fs h)
        → (b : Bool) → hits f h ≡ b
        → bit_and k (cond b (bit_or (care_of fs h) f.care) (care_of fs h)) ≡ bit_and h (cond b (bit_or (care_of fs h) f.care) (care_of fs h))
        → bit_and (cond b (bit_or (care_of fs h) f.care) (care_of fs h)) (care_of (f ∷ fs) k) ≡ cond b (bit_or (care_of fs h) f.care) (care_of fs h)
    go rest true hit a =
        by_bits (care_of fs h ∷ f.care ∷ care_of fs k ∷ care_of (f ∷ fs) k ∷ [])
        ((x0 ∩ x2 ≐ x0) ∷ (x2 ∩ x3 ≐ x2) ∷ (x1 ∩ x3 ≐ x1) ∷ [])
        ((x0 ∪ x1) ∩ x3 ≐ x0 ∪ x1) tt
        (rest (by_bits (h ∷ k ∷ care_of fs h ∷ f.care ∷ []) ((x1 ∩ (x2 ∪ x3) ≐ x0 ∩ (x2 ∪ x3)) ∷ []) (x1 ∩ x2 ≐ x0 ∩ x2) tt a))
        (care_grows f fs k)
        (care_head f fs k ((hits_says f k).1
        (by_bits (h ∷ k ∷ care_of fs h ∷ f.care ∷ f.value ∷ []) ((x1 ∩ (x2 ∪ x3) ≐ x0 ∩ (x2 ∪ x3)) ∷ (x0 ∩ x3 ≐ x4) ∷ []) (x1 ∩ x3 ≐ x4) tt a
        ((hits_says f h).0 (subst T (sym hit) tt)))))
    go rest false miss a =
        by_bits (care_of fs h ∷ care_of fs k ∷ care_of (f ∷ fs) k ∷ []) ((x0 ∩ x1 ≐ x0) ∷ (x1 ∩ x2 ≐ x1) ∷ []) (x0 ∩ x2 ≐ x0) tt (rest a) (care_grows f fs k)

pub care_lt : (w : ℕ) (fs : List Pattern) (h : ℕ) → AllWellFormed w fs → care_of fs h < 2 ^ w
care_lt w [] h g = pow_pos w
care_lt w (f ∷ fs) h g = go (care_lt w fs h g.1) (hits f h)
  where
    go : care_of fs h < 2 ^ w → (b : Bool) → cond b (bit_or (care_of fs h) f.care) (care_of fs h) < 2 ^ w
    go rest true = or_lt w (care_of fs h) f.care rest g.0.0
    go rest false = rest

care_least : (fs : List Pattern) (h m : ℕ) → ((f : Pattern) → T (among f fs) → T (hits f h) → bit_and f.care m ≡ f.care) → bit_and (care_of fs h) m ≡ care_of fs h
care_least [] h m a = by_bits (m ∷ []) [] (none ∩ x0 ≐ none) tt
care_least (f ∷ fs) h m a = go (care_least fs h m (λ q k t. a q (or_r (same q f) (among q fs) k) t)) (hits f h) refl
  where
    go : bit_and (care_of fs h) m ≡ care_of fs h → (b : Bool) → hits f h ≡ b
        → bit_and (cond b (bit_or (care_of fs h) f.care) (care_of fs h)) m ≡ cond b (bit_or (care_of fs h) f.care) (care_of fs h)
    go ih true e =
        by_bits (care_of fs h ∷ f.care ∷ m ∷ []) ((x0 ∩ x2 ≐ x0) ∷ (x1 ∩ x2 ≐ x1) ∷ []) ((x0 ∪ x1) ∩ x2 ≐ x0 ∪ x1) tt ih
        (a f (among_first f fs) (subst T (sym e) tt))
    go ih false e = ih

pub pat-set : (fs gs : List Pattern) → ((f : Pattern) → T (among f fs) ↔ T (among f gs)) → (h : ℕ) → pat_of fs h ≡ pat_of gs h
pat-set fs gs e h =
    care_pat fs gs h
    (sub_antisym (care_of fs h) (care_of gs h) (care_least fs h (care_of gs h) (λ f m t. care_has gs f h ((e f).0 m) t))
    (care_least gs h (care_of fs h) (λ f m t. care_has fs f h ((e f).1 m) t)))

pub care_snoc : (fs : List Pattern) (f : Pattern) (h : ℕ) → care_of (fs ++ f ∷ []) h ≡ care_of (f ∷ fs) h
care_snoc [] f h = refl
care_snoc (g ∷ fs) f h = ap (λ (x : ℕ). cond (hits g h) (bit_or x g.care) x) (care_snoc fs f h) ∙ swap (hits g h) (hits f h)
  where
    swap : (a b : Bool)
        → cond a (bit_or (cond b (bit_or (care_of fs h) f.care) (care_of fs h)) g.care) (cond b (bit_or (care_of fs h) f.care) (care_of fs h))
        ≡ cond b (bit_or (cond a (bit_or (care_of fs h) g.care) (care_of fs h)) f.care) (cond a (bit_or (care_of fs h) g.care) (care_of fs h))
    swap true true = by_bits (care_of fs h ∷ f.care ∷ g.care ∷ []) [] ((x0 ∪ x1) ∪ x2 ≐ (x0 ∪ x2) ∪ x1) tt
    swap true false = refl
    swap false true = refl
    swap false false = refl

-- ---- two headers have one pattern exactly when they match the same filters

-- No filter matches one of h and k and misses the other.
abbrev pub alike : List Pattern → ℕ → ℕ → Bool
alike [] h k = true
alike (f ∷ fs) h k = beq (hits f h) (hits f k) && alike fs h k

alike_care : (fs : List Pattern) (h k : ℕ) → T (alike fs h k) → care_of fs h ≡ care_of fs k
alike_care [] h k t = refl
alike_care (f ∷ fs) h k t =
    let s = (both (beq (hits f h) (hits f k)) (alike fs h k)).0 t in
    ap₂ (λ (b : Bool) (c : ℕ). cond b (bit_or c f.care) c) ((beq_says (hits f h) (hits f k)).0 s.0) (alike_care fs h k s.1)

alike-value : (fs : List Pattern) (h k : ℕ) → T (alike fs h k) → bit_and h (care_of fs h) ≡ bit_and k (care_of fs k)
alike-value [] h k t = by_bits (h ∷ k ∷ []) [] (x0 ∩ none ≐ x1 ∩ none) tt
alike-value (f ∷ fs) h k t =
    let s = (both (beq (hits f h) (hits f k)) (alike fs h k)).0 t in
    go (alike-value fs h k s.1) (hits f h) (hits f k) ((beq_says (hits f h) (hits f k)).0 s.0) (hits_says f h).0 (hits_says f k).0
  where
    go : bit_and h (care_of fs h) ≡ bit_and k (care_of fs k) → (b c : Bool) → b ≡ c
        → (T b → bit_and h f.care ≡ f.value) → (T c → bit_and k f.care ≡ f.value)
        → bit_and h (cond b (bit_or (care_of fs h) f.care) (care_of fs h)) ≡ bit_and k (cond c (bit_or (care_of fs k) f.care) (care_of fs k))
    go e true true bc p q =
        by_bits (h ∷ care_of fs h ∷ k ∷ care_of fs k ∷ f.care ∷ f.value ∷ [])
        ((x0 ∩ x1 ≐ x2 ∩ x3) ∷ (x0 ∩ x4 ≐ x5) ∷ (x2 ∩ x4 ≐ x5) ∷ [])
        (x0 ∩ (x1 ∪ x4) ≐ x2 ∩ (x3 ∪ x4)) tt e (p tt) (q tt)
    go e true false bc p q = absurd (subst T bc tt)
    go e false true bc p q = absurd (subst T (sym bc) tt)
    go e false false bc p q = e

pub alike-pat : (fs : List Pattern) (h k : ℕ) → T (alike fs h k) → pat_of fs h ≡ pat_of fs k
alike-pat fs h k t = pair (alike_care fs h k t) (alike-value fs h k t)

-- one half: what matches h matches k
pat-hits : (fs : List Pattern) (h k : ℕ) → pat_of fs h ≡ pat_of fs k → (f : Pattern) → T (among f fs) → T (hits f h) → T (hits f k)
pat-hits fs h k e f m t =
    (hits_says f k).1
    (by_bits (h ∷ care_of fs h ∷ k ∷ care_of fs k ∷ f.care ∷ f.value ∷ [])
    ((x1 ≐ x3) ∷ (x0 ∩ x1 ≐ x2 ∩ x3) ∷ (x4 ∩ x1 ≐ x4) ∷ (x0 ∩ x4 ≐ x5) ∷ [])
    (x2 ∩ x4 ≐ x5) tt
    (ap (λ (r : Pattern). r.care) e) (ap (λ (r : Pattern). r.value) e) (care_has fs f h m t) ((hits_says f h).0 t))

pub alike_all : (fs : List Pattern) (h k : ℕ) → ((f : Pattern) → T (among f fs) → hits f h ≡ hits f k) → T (alike fs h k)
alike_all [] h k e = tt
alike_all (f ∷ fs) h k e =
    (both (beq (hits f h) (hits f k)) (alike fs h k)).1 (
      (beq_says (hits f h) (hits f k)).1 (e f (among_first f fs)),
      alike_all fs h k (λ g m. e g (or_r (same g f) (among g fs) m)),
    )

pub alike-hits : (fs : List Pattern) (h k : ℕ) → T (alike fs h k) → (f : Pattern) → T (among f fs) → hits f h ≡ hits f k
alike-hits fs h k t f m = iff_eq (hits f h) (hits f k) (pat-hits fs h k (alike-pat fs h k t) f m) (pat-hits fs k h (sym (alike-pat fs h k t)) f m)

pub pat-alike : (fs : List Pattern) (h k : ℕ) → pat_of fs h ≡ pat_of fs k → T (alike fs h k)
pat-alike fs h k e = alike_all fs h k (λ f m. iff_eq (hits f h) (hits f k) (pat-hits fs h k e f m) (pat-hits fs k h (sym e) f m))

pub same_alike : (fs : List Pattern) (h k : ℕ) → same (pat_of fs h) (pat_of fs k) ≡ alike fs h k
same_alike fs h k =
    iff_eq (same (pat_of fs h) (pat_of fs k)) (alike fs h k)
    (λ t. pat-alike fs h k ((same_says (pat_of fs h) (pat_of fs k)).0 t)) (λ t. (same_says (pat_of fs h) (pat_of fs k)).1 (alike-pat fs h k t))

-- ---- of the closed patterns that match h, its own lies within every other

pub own_least : (n : ℕ) (fs : List Pattern) (q : Pattern) → Closed n fs q → (h : ℕ) → h < n → T (hits q h) → Within (pat_of fs h) q
own_least n fs q cl h l t = (within_says (pat_of fs h) q).0 (subst T (hits_own n fs q cl h l) t)

pub closed_keep : (n : ℕ) (f : Pattern) (fs : List Pattern) (q : Pattern) → Closed n fs q → Closed n (f ∷ fs) q
closed_keep n f fs q cl h l t =
    by_bits (q.care ∷ care_of fs h ∷ care_of (f ∷ fs) h ∷ []) ((x0 ∩ x1 ≐ x0) ∷ (x1 ∩ x2 ≐ x1) ∷ []) (x0 ∩ x2 ≐ x0) tt (cl h l t) (care_grows f fs h)

pub closed_common : (n : ℕ) (f : Pattern) (fs : List Pattern) (q : Pattern) → Fit q → Fit f → Agree q f → Closed n fs q → Closed n (f ∷ fs) (common q f)
closed_common n f fs q fq ff a cl h l t =
    let s = (common-hits q f fq ff h).1 (a, t) in
    by_bits (q.care ∷ f.care ∷ care_of (f ∷ fs) h ∷ []) ((x0 ∩ x2 ≐ x0) ∷ (x1 ∩ x2 ≐ x1) ∷ []) ((x0 ∪ x1) ∩ x2 ≐ x0 ∪ x1) tt
    (closed_keep n f fs q cl h l s.0) (care_head f fs h s.1)
