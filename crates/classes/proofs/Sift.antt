-- Sifting a filter into the class list gives the class list with that filter, and no difference on the way is below 0.
-- What became of the entries from a place on is the tally of the new patterns of those headers whose old pattern stands there.
use mathlib.Core.Path.{◌≡◌, refl, sym, ap, ap₂, ◌∙◌, subst}
use mathlib.Core.Logic.{◌⊎◌, inl, inr}
use mathlib.Core.Bool.{Bool, true, false, not, ◌&&◌, ◌||◌, cond}
use mathlib.Core.List.{List, [], ◌∷◌}
use Prim.Native.Nat.{ℕ, ◌+◌, ◌-◌, ◌^◌, ◌≤◌, ◌<◌}
use native.Mathlib.Omega.{arith}
use lib.Dec.{T, T_not}
use lib.Bits.{bit_or, or_lt}
use Rattle.pattern.specs.declared.Pattern.{Pattern}
use Rattle.pattern.specs.Filters.{hits, within, agree, common, held, WellFormed, count}
use Rattle.pattern.proofs.Tests.{both}
use Rattle.pattern.proofs.Digits.{◌∩◌, ◌∪◌, ◌≐◌, by_bits}
use Rattle.pattern.proofs.Masks.{x0, x1, x2, x3, sub_lt}
use Rattle.pattern.proofs.Within.{pair, Within, within_says, hits_says, within_lt, Agree, agree_says, common-hits, common_fit}
use Rattle.pattern.proofs.Size.{ind, count_ext, count_fixed, pattern_size}
use Rattle.classes.specs.Classes.{pat_of, same, before, Entry, class_list, among}
use Rattle.classes.specs.Given.{AllWellFormed}
use Rattle.classes.specs.Steps.{sum_if, inside, moved, cut, sift, Sound}
use Rattle.classes.proofs.Counts.{count_add, count_le, count_same}
use Rattle.classes.proofs.Order.{or_r, or_says, is_true, is_false, same_says, among_first, before_trans, before_asym, before_irrefl, before_care, before_all, before_member}
use Rattle.classes.proofs.Partition.{own, Closed, hits_own}
use Rattle.classes.proofs.Headers.{pat_miss, pat-hit, pat_fit, pat_closed, care_lt, own_least, closed_common}
use Rattle.classes.proofs.Tally.{pats, size_at, Proper, class_size, size_head, list_sizes, list_proper, list_unique, list_has}
use Rattle.classes.proofs.Moves.{moved_sum, moved_before, moved_proper}
use Rattle.classes.proofs.Listed.{listed_of}

module _ (w : ℕ) (f : Pattern) (fs : List Pattern) (gf : WellFormed w f) (g : AllWellFormed w fs) where
  -- q is the pattern of some header
  abbrev Some : Pattern → Type 0
  Some q = (h : ℕ) × (h < 2 ^ w) × (pat_of fs h ≡ q)

  some_good : (q : Pattern) → Some q → WellFormed w q
  some_good q s = subst (λ (r : Pattern). WellFormed w r) s.2 (care_lt w fs s.0 g, pat_fit fs s.0)

  some_closed : (q : Pattern) → Some q → Closed (2 ^ w) fs q
  some_closed q s =
      subst (λ (r : Pattern). Closed (2 ^ w) fs r) s.2 (λ k _ t. pat_closed fs s.0 k ((hits_says (pat_of fs s.0) k).0 t))

  -- an end of the class list
  abbrev Part : List Entry → Type 0
  Part S =
      Proper S
      × ((h : ℕ) → h < 2 ^ w → (q : Pattern) → T (among q (pats S)) → Within (pat_of fs h) q → T (among (pat_of fs h) (pats S)))
      × ((q : Pattern) → T (among q (pats S)) → size_at q S ≡ class_size w fs q)
      × ((q : Pattern) → T (among q (pats S)) → Some q)

  module _ (e : Entry) (S : List Entry) (pt : Part (e ∷ S)) where
    here : T (among e.pat (pats (e ∷ S)))
    here = among_first e.pat (pats S)

    later : (q : Pattern) → T (among q (pats S)) → T (among q (pats (e ∷ S)))
    later q m = or_r (same q e.pat) (among q (pats S)) m

    -- the first is not among the later ones
    apart : (q : Pattern) → T (same q e.pat) → T (among q (pats S)) → ⊥
    apart q s m = before_irrefl q (subst (λ (u : Pattern). T (before u q)) (sym ((same_says q e.pat).0 s)) (before_member e.pat q (pats S) pt.0.0 m))

    good : WellFormed w e.pat
    good = some_good e.pat (pt.3 e.pat here)

    closed : Closed (2 ^ w) fs e.pat
    closed = some_closed e.pat (pt.3 e.pat here)

    size_is : e.size ≡ class_size w fs e.pat
    size_is = sym (size_head e S pt.0.0) ∙ pt.2 e.pat here

    part_tail : Part S
    part_tail = (
      pt.0.2,
      λ h l q m i. go h q m i (or_says (same (pat_of fs h) e.pat) (among (pat_of fs h) (pats S)) (pt.1 h l q (later q m) i)),
      λ q m. drop_first q m ∙ pt.2 q (later q m),
      λ q m. pt.3 q (later q m),
    )
      where
        go : (h : ℕ) (q : Pattern) → T (among q (pats S)) → Within (pat_of fs h) q → T (same (pat_of fs h) e.pat) ⊎ T (among (pat_of fs h) (pats S)) → T (among (pat_of fs h) (pats S))
        go h q m i (inr t) = t
        go h q m i (inl t) =
            absurd (before_asym e.pat q (before_member e.pat q (pats S) pt.0.0 m)
            (subst (λ (u : Pattern). T (before q u)) ((same_says (pat_of fs h) e.pat).0 t)
            (before_care q (pat_of fs h) (within_lt (pat_of fs h) q (pat_fit fs h) i
            (λ eq. apart q ((same_says q e.pat).1 (sym eq ∙ (same_says (pat_of fs h) e.pat).0 t)) m)))))

        drop_first : (q : Pattern) → T (among q (pats S)) → size_at q S ≡ size_at q (e ∷ S)
        drop_first q m =
            omega (arith, ap (λ (b : Bool). cond b e.size 0) (is_false (same e.pat q) (λ t. apart q ((same_says q e.pat).1 (sym ((same_says e.pat q).0 t))) m)))

    -- the headers of the end: those of its first entry and the others
    split : (t : Pattern → Bool)
        → count (λ h. among (pat_of fs h) (pats (e ∷ S)) && t (pat_of (f ∷ fs) h)) (2 ^ w)
        ≡ count (λ h. same (pat_of fs h) e.pat && t (pat_of (f ∷ fs) h)) (2 ^ w) + count (λ h. among (pat_of fs h) (pats S) && t (pat_of (f ∷ fs) h)) (2 ^ w)
    split t =
        count_add (λ h. among (pat_of fs h) (pats (e ∷ S)) && t (pat_of (f ∷ fs) h)) (λ h. same (pat_of fs h) e.pat && t (pat_of (f ∷ fs) h))
        (λ h. among (pat_of fs h) (pats S) && t (pat_of (f ∷ fs) h)) (2 ^ w)
        (λ h l. go (same (pat_of fs h) e.pat) (among (pat_of fs h) (pats S)) (t (pat_of (f ∷ fs) h)) (apart (pat_of fs h)))
      where
        go : (a b c : Bool) → (T a → T b → ⊥) → ind ((a || b) && c) ≡ ind (a && c) + ind (b && c)
        go true true c n = absurd (n tt tt)
        go true false true n = refl
        go true false false n = refl
        go false true true n = refl
        go false true false n = refl
        go false false c n = refl

    -- p is not cut by f: its headers keep it
    keeps : cut e.pat f ≡ false → (h : ℕ) → T (same (pat_of fs h) e.pat) → pat_of (f ∷ fs) h ≡ e.pat
    keeps n h s = go (hits f h) refl
      where
        pe : pat_of fs h ≡ e.pat
        pe = (same_says (pat_of fs h) e.pat).0 s

        go : (b : Bool) → hits f h ≡ b → pat_of (f ∷ fs) h ≡ e.pat
        go false x = pat_miss f fs h x ∙ pe
        go true x = pat-hit f fs h x ∙ ap (λ (q : Pattern). common q f) pe ∙ whole
          where
            ag : Agree e.pat f
            ag =
                ((common-hits e.pat f good.1 gf.1 h).0 (subst (λ (q : Pattern). T (hits q h)) pe (own fs h), subst T (sym x) tt)).0

            inn : (a b : Bool) → T a → a && not b ≡ false → T b
            inn true true u v = tt
            inn true false u v = absurd (subst T v tt)
            inn false b u v = absurd u

            wi : Within e.pat f
            wi = (within_says e.pat f).0 (inn (agree e.pat f) (within e.pat f) ((agree_says e.pat f).1 ag) n)

            whole : common e.pat f ≡ e.pat
            whole =
                pair (by_bits (e.pat.care ∷ f.care ∷ []) ((x0 ∩ x1 ≐ x1) ∷ []) (x0 ∪ x1 ≐ x0) tt wi.0)
                (by_bits (e.pat.value ∷ f.care ∷ f.value ∷ []) ((x0 ∩ x1 ≐ x2) ∷ []) (x0 ∪ x2 ≐ x0) tt wi.1)

    keeps_count : cut e.pat f ≡ false → (t : Pattern → Bool)
        → count (λ h. same (pat_of fs h) e.pat && t (pat_of (f ∷ fs) h)) (2 ^ w) ≡ cond (t e.pat) e.size 0
    keeps_count n t =
        count_ext (λ h. same (pat_of fs h) e.pat && t (pat_of (f ∷ fs) h)) (λ h. same (pat_of fs h) e.pat && t e.pat) (2 ^ w)
        (λ h l. go (same (pat_of fs h) e.pat) (λ s. ap t (keeps n h s)))
        ∙ count_fixed (λ h. same (pat_of fs h) e.pat) (t e.pat) (2 ^ w)
        ∙ ap (λ (x : ℕ). cond (t e.pat) x 0) (sym size_is)
      where
        go : {x y : Bool} (b : Bool) → (T b → x ≡ y) → b && x ≡ b && y
        go true i = i tt
        go false i = refl

    -- p is cut by f
    module _ (c : T (cut e.pat f)) where
      ag : Agree e.pat f
      ag = (agree_says e.pat f).0 ((both (agree e.pat f) (not (within e.pat f))).0 c).0

      out : T (within e.pat f) → ⊥
      out t = T_not (within e.pat f) ((both (agree e.pat f) (not (within e.pat f))).0 c).1 t

      -- the common part comes later
      r_later : T (before e.pat (common e.pat f))
      r_later =
          before_care e.pat (common e.pat f)
          (sub_lt e.pat.care (bit_or e.pat.care f.care) (by_bits (e.pat.care ∷ f.care ∷ []) [] (x0 ∩ (x0 ∪ x1) ≐ x0) tt)
          (λ eq. out ((within_says e.pat f).1 (
            by_bits (e.pat.care ∷ f.care ∷ []) ((x0 ≐ x0 ∪ x1) ∷ []) (x0 ∩ x1 ≐ x1) tt eq,
            by_bits (e.pat.care ∷ e.pat.value ∷ f.care ∷ f.value ∷ [])
                ((x0 ≐ x0 ∪ x2) ∷ (x3 ∩ x2 ≐ x3) ∷ (x1 ∩ (x0 ∩ x2) ≐ x3 ∩ (x0 ∩ x2)) ∷ []) (x1 ∩ x2 ≐ x3) tt eq gf.1 ag,
          ))))

      -- how many headers of p's class f matches
      abbrev hit : ℕ
      hit = count (λ h. same (pat_of fs h) e.pat && hits f h) (2 ^ w)

      r_held : held w (common e.pat f) ≡ count (hits (common e.pat f)) (2 ^ w)
      r_held =
          sym (pattern_size w (common e.pat f) (or_lt w e.pat.care f.care good.0 gf.0, common_fit e.pat f good.1 gf.1))

      r_split : count (hits (common e.pat f)) (2 ^ w)
          ≡ count (λ h. among (pat_of fs h) (pats S) && within (pat_of (f ∷ fs) h) (common e.pat f)) (2 ^ w) + count (λ h. same (pat_of fs h) e.pat && hits f h) (2 ^ w)
      r_split =
          count_add (hits (common e.pat f)) (λ h. among (pat_of fs h) (pats S) && within (pat_of (f ∷ fs) h) (common e.pat f))
          (λ h. same (pat_of fs h) e.pat && hits f h) (2 ^ w) point
        where
          point : (h : ℕ) → h < 2 ^ w
              → ind (hits (common e.pat f) h)
              ≡ ind (among (pat_of fs h) (pats S) && within (pat_of (f ∷ fs) h) (common e.pat f)) + ind (same (pat_of fs h) e.pat && hits f h)
          point h l =
              go (hits (common e.pat f) h) (among (pat_of fs h) (pats S)) (same (pat_of fs h) e.pat) (hits f h)
              (λ t. or_says (same (pat_of fs h) e.pat) (among (pat_of fs h) (pats S)) (pt.1 h l e.pat here (own_least (2 ^ w) fs e.pat closed h l (parts t).0)))
              (λ t. (parts t).1) (apart (pat_of fs h))
              (λ s u. ((common-hits e.pat f good.1 gf.1 h).0 (subst (λ (q : Pattern). T (hits q h)) ((same_says (pat_of fs h) e.pat).0 s) (own fs h), u)).1)
              ∙ ap (λ (b : Bool). ind (among (pat_of fs h) (pats S) && b) + ind (same (pat_of fs h) e.pat && hits f h))
              (hits_own (2 ^ w) (f ∷ fs) (common e.pat f) (closed_common (2 ^ w) f fs e.pat good.1 gf.1 ag closed) h l)
            where
              parts : T (hits (common e.pat f) h) → T (hits e.pat h) × T (hits f h)
              parts t = (common-hits e.pat f good.1 gf.1 h).1 (ag, t)

              go : (r m s u : Bool) → (T r → T s ⊎ T m) → (T r → T u) → (T s → T m → ⊥) → (T s → T u → T r) → ind r ≡ ind (m && r) + ind (s && u)
              go true true true u a b n d = absurd (n tt tt)
              go true true false u a b n d = refl
              go true false true true a b n d = refl
              go true false true false a b n d = absurd (b tt)
              go true false false u a b n d = absurd (none (a tt))
                where
                  none : ⊥ ⊎ ⊥ → ⊥
                  none (inl x) = x
                  none (inr x) = x
              go false true true true a b n d = absurd (d tt tt)
              go false true true false a b n d = refl
              go false true false u a b n d = refl
              go false false true true a b n d = absurd (d tt tt)
              go false false true false a b n d = refl
              go false false false u a b n d = refl

      stay : e.size ≡ hit + count (λ h. same (pat_of fs h) e.pat && not (hits f h)) (2 ^ w)
      stay =
          size_is
          ∙ count_add (λ h. same (pat_of fs h) e.pat) (λ h. same (pat_of fs h) e.pat && hits f h) (λ h. same (pat_of fs h) e.pat && not (hits f h)) (2 ^ w)
          (λ h l. go (same (pat_of fs h) e.pat) (hits f h))
        where
          go : (a b : Bool) → ind a ≡ ind (a && b) + ind (a && not b)
          go true true = refl
          go true false = refl
          go false b = refl

      hit_le : hit ≤ e.size
      hit_le = omega (arith, stay)

      inside_from : sum_if (λ p. within p (common e.pat f)) (sift w f S)
          ≡ count (λ h. among (pat_of fs h) (pats S) && within (pat_of (f ∷ fs) h) (common e.pat f)) (2 ^ w)
          → (inside w (common e.pat f) (sift w f S) ≡ hit) × (sum_if (λ p. within p (common e.pat f)) (sift w f S) ≤ held w (common e.pat f))
      inside_from ih = (omega (arith, r_held, r_split), omega (arith, r_held, r_split))

      -- where the headers of p's class go
      goes : (t : Pattern → Bool)
          → count (λ h. same (pat_of fs h) e.pat && t (pat_of (f ∷ fs) h)) (2 ^ w) ≡ cond (t (common e.pat f)) hit 0 + cond (t e.pat) (e.size - hit) 0
      goes t =
          count_add (λ h. same (pat_of fs h) e.pat && t (pat_of (f ∷ fs) h)) (λ h. (same (pat_of fs h) e.pat && hits f h) && t (common e.pat f))
          (λ h. (same (pat_of fs h) e.pat && not (hits f h)) && t e.pat) (2 ^ w)
          (λ h l. point h)
          ∙ ap₂ (λ (x y : ℕ). x + y) (count_fixed (λ h. same (pat_of fs h) e.pat && hits f h) (t (common e.pat f)) (2 ^ w))
          (count_fixed (λ h. same (pat_of fs h) e.pat && not (hits f h)) (t e.pat) (2 ^ w)
          ∙ ap (λ (x : ℕ). cond (t e.pat) x 0) rest)
        where
          rest : count (λ h. same (pat_of fs h) e.pat && not (hits f h)) (2 ^ w) ≡ e.size - hit
          rest = omega (arith, stay)

          point : (h : ℕ)
              → ind (same (pat_of fs h) e.pat && t (pat_of (f ∷ fs) h))
              ≡ ind ((same (pat_of fs h) e.pat && hits f h) && t (common e.pat f)) + ind ((same (pat_of fs h) e.pat && not (hits f h)) && t e.pat)
          point h =
              go (same (pat_of fs h) e.pat) (hits f h) (t (pat_of (f ∷ fs) h)) (t (common e.pat f)) (t e.pat)
              (λ s u. ap t (pat-hit f fs h (is_true (hits f h) u) ∙ ap (λ (q : Pattern). common q f) ((same_says (pat_of fs h) e.pat).0 s)))
              (λ s u. ap t (pat_miss f fs h (is_false (hits f h) u) ∙ (same_says (pat_of fs h) e.pat).0 s))
            where
              go : (s u x y z : Bool) → (T s → T u → x ≡ y) → (T s → (T u → ⊥) → x ≡ z) → ind (s && x) ≡ ind ((s && u) && y) + ind ((s && not u) && z)
              go true true x y z a b = omega (arith, ap ind (a tt tt))
              go true false x y z a b = omega (arith, ap ind (b tt (λ v. v)))
              go false u x y z a b = refl

  -- ---- the whole list

  pub claim : (S : List Entry) → Part S → (t : Pattern → Bool)
      → sum_if t (sift w f S) ≡ count (λ h. among (pat_of fs h) (pats S) && t (pat_of (f ∷ fs) h)) (2 ^ w)
  claim [] pt t = sym (count_same false (2 ^ w))
  claim (e ∷ S) pt t = go (claim S (part_tail e S pt)) (cut e.pat f) refl
    where
      go : ((u : Pattern → Bool) → sum_if u (sift w f S) ≡ count (λ h. among (pat_of fs h) (pats S) && u (pat_of (f ∷ fs) h)) (2 ^ w))
          → (b : Bool) → cut e.pat f ≡ b
          → sum_if t (cond b (moved e (common e.pat f) (inside w (common e.pat f) (sift w f S)) (sift w f S)) (e ∷ sift w f S))
          ≡ count (λ h. among (pat_of fs h) (pats (e ∷ S)) && t (pat_of (f ∷ fs) h)) (2 ^ w)
      go ih false n = omega (arith, split e S pt t, keeps_count e S pt n t, ih t)
      go ih true y =
          let c = subst T (sym y) tt in
          subst
          (λ (k : ℕ). sum_if t (moved e (common e.pat f) k (sift w f S)) ≡ count (λ h. among (pat_of fs h) (pats (e ∷ S)) && t (pat_of (f ∷ fs) h)) (2 ^ w))
          (sym (inside_from e S pt c (ih (λ p. within p (common e.pat f)))).0)
          (omega (arith, moved_sum t e (common e.pat f) (hit e S pt c) (sift w f S) (hit_le e S pt c), goes e S pt c t, split e S pt t, ih t))

  -- the number that the code computes
  pub inside_is : (e : Entry) (S : List Entry) (pt : Part (e ∷ S)) (c : T (cut e.pat f))
      → (inside w (common e.pat f) (sift w f S) ≡ hit e S pt c) × (sum_if (λ p. within p (common e.pat f)) (sift w f S) ≤ held w (common e.pat f))
  inside_is e S pt c = inside_from e S pt c (claim S (part_tail e S pt) (λ p. within p (common e.pat f)))

  -- ascending, no size 0
  pub before-sift : (S : List Entry) → Part S → (a : Pattern) → T (before_all a (pats S)) → T (before_all a (pats (sift w f S)))
  before-sift [] pt a b = tt
  before-sift (e ∷ S) pt a b = go (before-sift S (part_tail e S pt) a s.1) (cut e.pat f) refl
    where
      s : T (before a e.pat) × T (before_all a (pats S))
      s = (both (before a e.pat) (before_all a (pats S))).0 b

      go : T (before_all a (pats (sift w f S))) → (x : Bool) → cut e.pat f ≡ x
          → T (before_all a (pats (cond x (moved e (common e.pat f) (inside w (common e.pat f) (sift w f S)) (sift w f S)) (e ∷ sift w f S))))
      go ih true y =
          moved_before a e (common e.pat f) (inside w (common e.pat f) (sift w f S)) (sift w f S) s.0
          (before_trans a e.pat (common e.pat f) s.0 (r_later e S pt (subst T (sym y) tt))) ih
      go ih false y = (both (before a e.pat) (before_all a (pats (sift w f S)))).1 (s.0, ih)

  pub proper_sift : (S : List Entry) → Part S → Proper (sift w f S)
  proper_sift [] pt = tt
  proper_sift (e ∷ S) pt = go (proper_sift S (part_tail e S pt)) (cut e.pat f) refl
    where
      b : T (before_all e.pat (pats (sift w f S)))
      b = before-sift S (part_tail e S pt) e.pat pt.0.0

      go : Proper (sift w f S) → (x : Bool) → cut e.pat f ≡ x
          → Proper (cond x (moved e (common e.pat f) (inside w (common e.pat f) (sift w f S)) (sift w f S)) (e ∷ sift w f S))
      go ih true y =
          let c = subst T (sym y) tt in
          moved_proper e (common e.pat f) (inside w (common e.pat f) (sift w f S)) (sift w f S)
          (omega (arith, (inside_is e S pt c).0, hit_le e S pt c)) (r_later e S pt c) b pt.0.1 ih
      go ih false y = (b, pt.0.1, ih)

  -- no difference is below 0
  pub sound_sift : (S : List Entry) → Part S → Sound w f S
  sound_sift [] pt = tt
  sound_sift (e ∷ S) pt = (
    record {
      bits = (good e S pt).0;
      held_more = λ c. (inside_is e S pt c).1;
      size_more = λ c. omega (arith, (inside_is e S pt c).0, hit_le e S pt c);
      total = omega (
        arith,
        claim S (part_tail e S pt) (λ p. true),
        count_le (λ h. among (pat_of fs h) (pats S) && true) (2 ^ w),
      );
    },
    sound_sift S (part_tail e S pt),
  )

  -- ---- the class list

  pub list_part : Part (class_list w fs)
  list_part = (
    list_proper w fs,
    λ h l q m i. list_has w fs h l,
    λ q m. list_sizes w fs q,
    listed_of w fs,
  )

  pub sift_is : sift w f (class_list w fs) ≡ class_list w (f ∷ fs)
  sift_is =
      list_unique w (f ∷ fs) (sift w f (class_list w fs)) (proper_sift (class_list w fs) list_part)
      (λ q. claim (class_list w fs) list_part (λ p. same p q)
      ∙ count_ext (λ h. among (pat_of fs h) (pats (class_list w fs)) && same (pat_of (f ∷ fs) h) q) (λ h. same (pat_of (f ∷ fs) h) q) (2 ^ w)
      (λ h l. ap (λ (b : Bool). b && same (pat_of (f ∷ fs) h) q) (is_true (among (pat_of fs h) (pats (class_list w fs))) (list_has w fs h l))))

  pub sift_sound : Sound w f (class_list w fs)
  sift_sound = sound_sift (class_list w fs) list_part
