-- The steps of taking in a filter, on a listing: what each call leaves.
use mathlib.Core.Path.{◌≡◌, refl, sym, ap, ap₂, ◌∙◌, subst}
use mathlib.Core.Bool.{Bool, true, false, cond}
use mathlib.Core.List.{List, ◌∷◌}
use Prim.Native.Nat.{ℕ, zero, suc, ◌+◌, ◌-◌, ◌^◌, ◌≤◌, ◌<◌}
use native.Mathlib.Nat.{le_refl, le_trans, le_of_suc-le, sub-zero}
use native.Mathlib.Numerals.{add-one}
use native.Mathlib.Omega.{arith}
use lib.Dec.{T, eqb, eqb→eq}
use lib.Bits.{bit_or, or_lt}
use lib.Pow.{pow_mono}
use lib.Count.{ones}
use lib.ListN.{get_or, set}
use lib.Seq.{get_or-set_same, get_or-set_other}
use Rattle.pattern.specs.declared.Pattern.{Pattern}
use Rattle.pattern.specs.Filters.{within, common, held}
use Rattle.pattern.proofs.Tests.{eq→eqb}
use Rattle.classes.specs.declared.places.Listing.{Listing}
use Rattle.classes.specs.Classes.{Entry, entry, tally}
use Rattle.classes.specs.Given.{pattern_at}
use Rattle.classes.specs.Steps.{inserted, removed, SameLent, Changed, Resized, sum_if, inside, moved, cut, sift_one, sift, SoundOne, Sound, rows, entry_at, entries_from, entries, Stands, Lacks, Kept, Became}
use Rattle.classes.proofs.Shifts.{Inserted, Removed, inserted_says, removed_says}
use Rattle.classes.proofs.Order.{is_true, is_false}
use Rattle.classes.proofs.Rows.{rows_step, rows_end, pat, rows_ext, size_le, tally_insert, tally_add, removed-rows}

-- ---- the same lists, and entries that stay

pub lent_refl : (a : Listing) → SameLent a a
lent_refl a = record { cares = refl; values = refl; sizes = refl }

pub lent_trans : (c b a : Listing) → SameLent c b → SameLent b a → SameLent c a
lent_trans c b a p q = record { cares = p.cares ∙ q.cares; values = p.values ∙ q.values; sizes = p.sizes ∙ q.sizes }

pub kept_refl : (i : ℕ) (a : Listing) → Kept i a a
kept_refl i a = record { cares = λ k h. refl; values = λ k h. refl; sizes = λ k h. refl; lent = lent_refl a }

kept_trans : (i j k : ℕ) (c b a : Listing) → i ≤ j → i ≤ k → Kept j c b → Kept k b a → Kept i c a
kept_trans i j k c b a h g p q = record {
  cares = λ n l. p.cares n (omega arith) ∙ q.cares n (omega arith);
  values = λ n l. p.values n (omega arith) ∙ q.values n (omega arith);
  sizes = λ n l. p.sizes n (omega arith) ∙ q.sizes n (omega arith);
  lent = lent_trans c b a p.lent q.lent;
}

-- ---- the size of one entry is another

module _ (r x : ℕ) (b a : Listing) (e : Resized r x b a) where
  resized-from : (j : ℕ) → entries_from b j ≡ rows a.cares.now a.values.now (set a.sizes.now r x) j (a.len - j)
  resized-from j = λ i. rows (e.cares i) (e.values i) (e.sizes i) j (e.len i - j)

  resized_kept : (i : ℕ) → i ≤ r → Kept i b a
  resized_kept i h = record {
    cares = λ k l. ap (λ (c : List ℕ). get_or c k 0) e.cares;
    values = λ k l. ap (λ (c : List ℕ). get_or c k 0) e.values;
    sizes = λ k l. ap (λ (c : List ℕ). get_or c k 0) e.sizes ∙ get_or-set_other a.sizes.now r k x 0 (omega arith);
    lent = e.lent;
  }

-- ---- add_entry

gap : (i j : ℕ) → i ≤ j → i + (j - i) ≡ j
gap i j h = omega arith

module _ (p : Pattern) (x : ℕ) (b a : Listing) (i r : ℕ) where
  -- the pattern is there
  module _ (s : Stands p a.cares.now a.values.now i a.len r) where
    -- one size is at most all of them together
    pub add_fits : get_or a.sizes.now r 0 ≤ sum_if (λ q. true) (entries_from a i)
    add_fits = size_le a.cares.now a.values.now a.sizes.now (r - i) i r a.len (gap i r s.at.from) s.there

    pub add_there : a.len < 1024 → Resized r (get_or a.sizes.now r 0 + x) b a → Became i (tally p x (entries_from a i)) b a
    add_there few e = record {
      is = resized-from r (get_or a.sizes.now r 0 + x) b a e i
          ∙ tally_add p x a.cares.now a.values.now a.sizes.now (set a.sizes.now r (get_or a.sizes.now r 0 + x)) r a.len s.there s.is
          (get_or-set_same a.sizes.now r (get_or a.sizes.now r 0 + x) 0 (omega (arith, s.there, e.room))) (λ k f. get_or-set_other a.sizes.now r k (get_or a.sizes.now r 0 + x) 0 f)
          (r - i) i (gap i r s.at.from) s.at.passed;
      from = omega (arith, s.at.from, s.there, e.len);
      one_more = omega (arith, e.len);
      kept = resized_kept r (get_or a.sizes.now r 0 + x) b a e i s.at.from;
    }

  -- it is put in at its place
  pub add_new : Lacks p a.cares.now a.values.now i a.len r → a.len < 1024
      → Changed (inserted r a.len p.care) (inserted r a.len p.value) (inserted r a.len x) (a.len + 1) b a → Became i (tally p x (entries_from a i)) b a
  add_new s few put = record {
    is = ap (λ (m : ℕ). rows b.cares.now b.values.now b.sizes.now i (m - i)) (put.len ∙ add-one a.len)
        ∙ tally_insert p x a.cares.now a.values.now a.sizes.now b.cares.now b.values.now b.sizes.now r a.len s.at.upto ic iv iz s.next (r - i) i (gap i r s.at.from) s.at.passed;
    from = omega (arith, s.at.from, s.at.upto, put.len);
    one_more = omega (arith, put.len);
    kept = record { cares = λ k h. ic.low k (omega (arith, s.at.from)); values = λ k h. iv.low k (omega (arith, s.at.from)); sizes = λ k h. iz.low k (omega (arith, s.at.from)); lent = put.lent };
  }
    where
      ic : Inserted r a.len p.care b.cares.now a.cares.now
      ic = inserted_says r a.len p.care a.cares.now s.at.upto (omega (arith, put.room.cares)) b.cares.now put.cares

      iv : Inserted r a.len p.value b.values.now a.values.now
      iv = inserted_says r a.len p.value a.values.now s.at.upto (omega (arith, put.room.values)) b.values.now put.values

      iz : Inserted r a.len x b.sizes.now a.sizes.now
      iz = inserted_says r a.len x a.sizes.now s.at.upto (omega (arith, put.room.sizes)) b.sizes.now put.sizes

-- ---- move_part

pub entries_first : (a : Listing) (i : ℕ) → i < a.len → entries_from a i ≡ entry_at a i ∷ entries_from a (i + 1)
entries_first a i h =
    rows_step a.cares.now a.values.now a.sizes.now i a.len h ∙ ap (λ (x : ℕ). entry_at a i ∷ entries_from a x) (sym (add-one i))

module _ (r : Pattern) (k : ℕ) (a : Listing) (i : ℕ) (im : i < a.len) (few : a.len < 1024) where
  abbrev M : List Entry
  M = entries_from a (i + 1)

  pick : (x y : Bool) → eqb k 0 ≡ x → eqb k (get_or a.sizes.now i 0) ≡ y
      → moved (entry_at a i) r k M ≡ cond x (entry_at a i ∷ M) (cond y (tally r k M) (entry (pattern_at a.cares.now a.values.now i) (get_or a.sizes.now i 0 - k) ∷ tally r k M))
  pick x y e f =
      ap₂ (λ (u v : Bool). cond u (entry_at a i ∷ M) (cond v (tally r k M) (entry (pattern_at a.cares.now a.values.now i) (get_or a.sizes.now i 0 - k) ∷ tally r k M))) e f

  pub moved_none : k ≡ 0 → Became i (moved (entry_at a i) r k M) a a
  moved_none e = record {
    is = entries_first a i im ∙ sym (pick true (eqb k (get_or a.sizes.now i 0)) (is_true (eqb k 0) (eq→eqb e)) refl);
    from = omega arith;
    one_more = omega arith;
    kept = kept_refl i a;
  }

  -- the entry is taken out
  module _ (b : Listing) (gone : Changed (removed i a.len) (removed i a.len) (removed i a.len) (a.len - 1) b a) where
    oc : Removed i a.len b.cares.now a.cares.now
    oc = removed_says i a.len a.cares.now im (omega (arith, gone.room.cares)) b.cares.now gone.cares

    ov : Removed i a.len b.values.now a.values.now
    ov = removed_says i a.len a.values.now im (omega (arith, gone.room.values)) b.values.now gone.values

    oz : Removed i a.len b.sizes.now a.sizes.now
    oz = removed_says i a.len a.sizes.now im (omega (arith, gone.room)) b.sizes.now gone.sizes

    pub removed_is : entries_from b i ≡ M
    removed_is =
        ap (λ (m : ℕ). rows b.cares.now b.values.now b.sizes.now i (m - i)) gone.len
        ∙ removed-rows a.cares.now a.values.now a.sizes.now b.cares.now b.values.now b.sizes.now i a.len im oc ov oz
        ∙ ap (entries_from a) (sym (add-one i))

    pub moved_whole : (c : Listing) → (k ≡ 0 → ⊥) → k ≡ get_or a.sizes.now i 0 → Became i (tally r k (entries_from b i)) c b → Became i (moved (entry_at a i) r k M) c a
    moved_whole c z e t = record {
      is = t.is ∙ ap (tally r k) removed_is
          ∙ sym (pick false true (is_false (eqb k 0) (λ u. z (eqb→eq k 0 u))) (is_true (eqb k (get_or a.sizes.now i 0)) (eq→eqb e)));
      from = t.from;
      one_more = omega (arith, t.one_more, gone.len);
      kept = kept_trans i i i c b a (le_refl i) (le_refl i) t.kept (record { cares = oc.low; values = ov.low; sizes = oz.low; lent = gone.lent });
    }

  -- the entry stays, with the rest of its headers
  module _ (b : Listing) (left : Resized i (get_or a.sizes.now i 0 - k) b a) where
    pub left_is : entries_from b (i + 1) ≡ M
    left_is =
        resized-from i (get_or a.sizes.now i 0 - k) b a left (i + 1)
        ∙ rows_ext a.cares.now a.values.now a.sizes.now a.cares.now a.values.now (set a.sizes.now i (get_or a.sizes.now i 0 - k)) (i + 1) (a.len - (i + 1))
        (λ j l h. refl) (λ j l h. refl) (λ j l h. get_or-set_other a.sizes.now i j (get_or a.sizes.now i 0 - k) 0 (omega arith))

    pub moved_part : (c : Listing) → (k ≡ 0 → ⊥) → (k ≡ get_or a.sizes.now i 0 → ⊥) → Became (i + 1) (tally r k (entries_from b (i + 1))) c b
        → Became i (moved (entry_at a i) r k M) c a
    moved_part c z e t = record {
      is = entries_first c i (omega (arith, t.from))
          ∙ ap₂ (λ (x : Entry) (l : List Entry). x ∷ l) head (t.is ∙ ap (tally r k) left_is)
          ∙ sym (pick false false (is_false (eqb k 0) (λ u. z (eqb→eq k 0 u))) (is_false (eqb k (get_or a.sizes.now i 0)) (λ u. e (eqb→eq k (get_or a.sizes.now i 0) u))));
      from = omega (arith, t.from);
      one_more = omega (arith, t.one_more, left.len);
      kept = kept_trans i (i + 1) i c b a (omega arith) (le_refl i) t.kept (resized_kept i (get_or a.sizes.now i 0 - k) b a left i (le_refl i));
    }
      where
        here : i < i + 1
        here = omega arith

        head : entry_at c i ≡ entry (pattern_at a.cares.now a.values.now i) (get_or a.sizes.now i 0 - k)
        head =
            λ j. entry
            (pat ((t.kept.cares i here ∙ ap (λ (l : List ℕ). get_or l i 0) left.cares) j) ((t.kept.values i here ∙ ap (λ (l : List ℕ). get_or l i 0) left.values) j))
            ((t.kept.sizes i here ∙ ap (λ (l : List ℕ). get_or l i 0) left.sizes ∙ get_or-set_same a.sizes.now i (get_or a.sizes.now i 0 - k) 0 (omega (arith, left.room))) j)

-- ---- sift_one

module _ (w : ℕ) (f : Pattern) (a : Listing) (i : ℕ) (im : i < a.len) where
  abbrev rest : List Entry
  rest = entries_from a (i + 1)

  abbrev own : Pattern
  own = pattern_at a.cares.now a.values.now i

  sift_pick : (b : Bool) → cut own f ≡ b
      → sift_one w f (entry_at a i) rest ≡ cond b (moved (entry_at a i) (common own f) (inside w (common own f) rest) rest) (entry_at a i ∷ rest)
  sift_pick b e = ap (λ (x : Bool). cond x (moved (entry_at a i) (common own f) (inside w (common own f) rest) rest) (entry_at a i ∷ rest)) e

  pub sift_stays : (p : Pattern) → p ≡ own → cut p f ≡ false → Became i (sift_one w f (entry_at a i) rest) a a
  sift_stays p here e = record {
    is = entries_first a i im ∙ sym (sift_pick false (ap (λ (r : Pattern). cut r f) (sym here) ∙ e));
    from = omega arith;
    one_more = omega arith;
    kept = kept_refl i a;
  }

  pub sift_moves : (b : Listing) (k : ℕ) (p q : Pattern) → p ≡ own → cut p f ≡ true → q ≡ common p f → k ≡ inside w q rest
      → Became i (moved (entry_at a i) q k rest) b a → Became i (sift_one w f (entry_at a i) rest) b a
  sift_moves b k p q here e part size t =
      subst (λ (L : List Entry). Became i L b a)
      (ap (λ (x : ℕ). moved (entry_at a i) q x rest) size
      ∙ ap (λ (y : Pattern). moved (entry_at a i) y (inside w y rest) rest) (part ∙ ap (λ (r : Pattern). common r f) here)
      ∙ sym (sift_pick true (ap (λ (r : Pattern). cut r f) (sym here) ∙ e))) t

-- what the calls need of the common part q: no difference is below 0, and every number fits
pub record Parting (w : ℕ) (q : Pattern) (size : ℕ) (M : List Entry) : Type 0 where
  pub bits : q.care < 2 ^ w
  pub held_more : sum_if (λ p. within p q) M ≤ held w q
  pub size_more : inside w q M ≤ size
  pub few : held w q ≤ 2 ^ 32
  pub total : sum_if (λ p. true) M ≤ 2 ^ 32

pub parting : (w : ℕ) (f : Pattern) (a : Listing) (i : ℕ) (p q : Pattern)
    → w ≤ 32 → f.care < 2 ^ w → SoundOne w f (entry_at a i) (entries_from a (i + 1))
    → p ≡ pattern_at a.cares.now a.values.now i → true ≡ cut p f → q ≡ common p f → Parting w q (get_or a.sizes.now i 0) (entries_from a (i + 1))
parting w f a i p q short bits s is c part =
    subst (λ (r : Pattern). Parting w r (get_or a.sizes.now i 0) (entries_from a (i + 1))) (sym (part ∙ ap (λ (r : Pattern). common r f) is)) (record {
      bits = or_lt w (get_or a.cares.now i 0) f.care s.bits bits;
      held_more = s.held_more (subst T is-cut tt);
      size_more = s.size_more (subst T is-cut tt);
      few = pow_mono {i = w - ones (bit_or (get_or a.cares.now i 0) f.care)} {j = 32} (omega arith);
      total = le_trans s.total (pow_mono {i = w} {j = 32} short);
    })
  where
    is-cut : true ≡ cut (pattern_at a.cares.now a.values.now i) f
    is-cut = c ∙ ap (λ (r : Pattern). cut r f) is

-- ---- take_in

-- the entries from i on are sifted, those below are as they were
pub record Sifting (w : ℕ) (f : Pattern) (i : ℕ) (b a : Listing) : Type 0 where
  pub is : entries_from b i ≡ sift w f (entries_from a i)
  pub old : i ≤ a.len
  pub from : i ≤ b.len
  pub room : b.len + i ≤ a.len + a.len
  pub kept : Kept i b a

pub sifting_start : (w : ℕ) (f : Pattern) (a : Listing) → Sifting w f a.len a a
sifting_start w f a = record {
  is = rows_end a.cares.now a.values.now a.sizes.now a.len a.len (le_refl a.len) ∙ sym (ap (sift w f) (rows_end a.cares.now a.values.now a.sizes.now a.len a.len (le_refl a.len)));
  old = le_refl a.len;
  from = le_refl a.len;
  room = le_refl (a.len + a.len);
  kept = kept_refl a.len a;
}

sound_from : (w : ℕ) (f : Pattern) (a : Listing) (d : ℕ) → d ≤ a.len → Sound w f (entries a) → Sound w f (entries_from a d)
sound_from w f a zero h s = subst (λ (m : ℕ). Sound w f (rows a.cares.now a.values.now a.sizes.now 0 m)) (sym (sub-zero a.len)) s
sound_from w f a (suc d) h s = tail (subst (Sound w f) (rows_step a.cares.now a.values.now a.sizes.now d a.len h) (sound_from w f a d (le_of_suc-le h) s))
  where
    tail : Sound w f (entry_at a d ∷ entries_from a (suc d)) → Sound w f (entries_from a (suc d))
    tail t = t.1

module _ (w : ℕ) (f : Pattern) (j i : ℕ) (b a : Listing) (ji : j + 1 ≡ i) (inv : Sifting w f i b a) where
  jn : j < a.len
  jn = omega (arith, inv.old)

  head_is : entry_at b j ≡ entry_at a j
  head_is = λ k. entry (pat (inv.kept.cares j (omega arith) k) (inv.kept.values j (omega arith) k)) (inv.kept.sizes j (omega arith) k)

  rest_is : entries_from b (j + 1) ≡ sift w f (entries_from a (suc j))
  rest_is =
      subst (λ (x : ℕ). entries_from b x ≡ sift w f (entries_from a x)) (sym ji) inv.is
      ∙ ap (λ (x : ℕ). sift w f (entries_from a x)) (add-one j)

  pub sifting_sound : Sound w f (entries a) → SoundOne w f (entry_at b j) (entries_from b (j + 1))
  sifting_sound s =
      subst (λ (e : Entry). SoundOne w f e (entries_from b (j + 1))) (sym head_is)
      (subst (SoundOne w f (entry_at a j)) (sym rest_is) (top (subst (Sound w f) (rows_step a.cares.now a.values.now a.sizes.now j a.len jn) (sound_from w f a j (le_of_suc-le jn) s))))
    where
      top : Sound w f (entry_at a j ∷ entries_from a (suc j)) → SoundOne w f (entry_at a j) (sift w f (entries_from a (suc j)))
      top t = t.0

  pub sifting_step : (c : Listing) → Became j (sift_one w f (entry_at b j) (entries_from b (j + 1))) c b → Sifting w f j c a
  sifting_step c t = record {
    is = t.is ∙ ap₂ (sift_one w f) head_is rest_is ∙ sym (ap (sift w f) (rows_step a.cares.now a.values.now a.sizes.now j a.len jn));
    old = le_of_suc-le jn;
    from = t.from;
    room = omega (arith, t.one_more, inv.room);
    kept = kept_trans j j i c b a (le_refl j) (omega arith) t.kept inv.kept;
  }
