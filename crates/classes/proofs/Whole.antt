-- The loop over the filters, on a listing; and the three lists at the end.
use mathlib.Core.Path.{◌≡◌, refl, sym, ap, ap₂, ◌∙◌, subst}
use mathlib.Core.Bool.{Bool, cond}
use mathlib.Core.List.{List, [], ◌∷◌, ◌++◌, map, append-nil}
use Prim.Native.Nat.{ℕ, zero, suc, ◌+◌, ◌-◌, ◌^◌, ◌≤◌, ◌<◌, zero-le}
use native.Mathlib.Omega.{arith}
use lib.ListN.{length, get_or, take, drop, replicate}
use lib.Seq.{drop-cons}
use Rattle.std.specs.Prelude.{Option, Some, None, unwrap_or}
use Rattle.std.proofs.lemmas.List.{drop_all}
use Rattle.pattern.specs.declared.Pattern.{Pattern}
use Rattle.classes.specs.declared.places.Listing.{Listing}
use Rattle.classes.specs.Classes.{Entry, class_list, laid, care_at, value_at, size_of}
use Rattle.classes.specs.Given.{counted, listed, AllWellFormed}
use Rattle.classes.specs.Steps.{taken_in, Sound, row, rows, entry_at, entries, inserted, wiped, SameLent, Room, Changed, Took, Gathered}
use Rattle.classes.proofs.Shifts.{Inserted, inserted_says}
use Rattle.classes.proofs.Grow.{list_start, next_list, next_sound, no_fewer}
use Rattle.classes.proofs.Rows.{rows_end, row_eq}
use Rattle.classes.proofs.Steps.{lent_trans}
use borrow.Author.Tests.{le-leb, lt-leb}

rows-length : (cs vs ns : List ℕ) (j m : ℕ) → length (rows cs vs ns j m) ≡ m
unfolding rows
rows-length cs vs ns j zero = refl
rows-length cs vs ns j (suc m) = ap suc (rows-length cs vs ns (suc j) m)

entries-length : (a : Listing) → length (entries a) ≡ a.len
entries-length a = rows-length a.cares.now a.values.now a.sizes.now 0 a.len

-- the first j filters are taken in
pub record Building (w : ℕ) (fs : List Pattern) (j : ℕ) (b a : Listing) : Type 0 where
  pub is : entries b ≡ class_list w (take j fs)
  pub few : b.len ≤ 512
  pub lent : SameLent b a

pub building_start : (w : ℕ) (fs : List Pattern) (x : ℕ) (b a : Listing) → a.len ≡ 0 → x ≡ 2 ^ w
    → Changed (inserted 0 a.len 0) (inserted 0 a.len 0) (inserted 0 a.len x) (a.len + 1) b a → Building w fs 0 b a
unfolding rows
building_start w fs x b a z e put = record {
  is = ap (rows b.cares.now b.values.now b.sizes.now 0) one ∙ ap (λ (y : Entry). y ∷ []) (row_eq ic.new iv.new (iz.new ∙ e)) ∙ list_start w;
  few = omega (arith, one);
  lent = put.lent;
}
  where
    one : b.len ≡ 1
    one = omega (arith, put.len)

    ic : Inserted 0 a.len 0 b.cares.now a.cares.now
    ic = inserted_says 0 a.len 0 a.cares.now zero-le (omega (arith, put.room.cares)) b.cares.now put.cares

    iv : Inserted 0 a.len 0 b.values.now a.values.now
    iv = inserted_says 0 a.len 0 a.values.now zero-le (omega (arith, put.room.values)) b.values.now put.values

    iz : Inserted 0 a.len x b.sizes.now a.sizes.now
    iz = inserted_says 0 a.len x a.sizes.now zero-le (omega (arith, put.room.sizes)) b.sizes.now put.sizes

module _ (w : ℕ) (fs : List Pattern) (g : AllWellFormed w fs) (j : ℕ) (d : Pattern) (b a : Listing) (v : Building w fs j b a) where
  pub building_sound : j < length fs → Sound w (get_or fs j d) (entries b)
  building_sound h = subst (Sound w (get_or fs j d)) (sym v.is) (next_sound w fs g j d h)

  -- filter j is taken in
  module _ (c : Listing) (h : j < length fs) (t : Took (taken_in w (get_or fs j d) (take j fs) (entries b)) c b) where
    next : entries c ≡ class_list w (take (j + 1) fs)
    next = t.is ∙ ap (taken_in w (get_or fs j d) (take j fs)) v.is ∙ next_list w fs g j d h

    pub building_step : c.len ≤ 512 → Building w fs (j + 1) c a
    building_step few = record { is = next; few = few; lent = lent_trans c b a t.lent v.lent }

    pub gathered_many : 512 < c.len → Gathered w fs None c a
    gathered_many big = record { is = over; lent = lent_trans c b a t.lent v.lent }
      where
        over : 512 < length (class_list w fs)
        over = omega (arith, big, entries-length c, ap length next, no_fewer w fs g (j + 1) d)

-- ---- the lists at the end

-- a list of figures of the entries that stand from j on
module _ (figure : Entry → ℕ) (cs vs ns a : List ℕ) (same-figure : (k : ℕ) → get_or a k 0 ≡ figure (row cs vs ns k)) where
  figures : (j m : ℕ) → j + m ≤ length a → take m (drop j a) ≡ map figure (rows cs vs ns j m)
  unfolding rows
  figures j zero h = refl
  figures j (suc m) h =
      ap (take (suc m)) (drop-cons a j 0 (omega arith))
      ∙ ap₂ (λ (x : ℕ) (l : List ℕ). x ∷ l) (same-figure j) (figures (suc j) m (omega arith))

  pub figures_all : (m : ℕ) → m ≤ length a → take m a ≡ map figure (rows cs vs ns 0 m)
  figures_all m h = figures 0 m (omega arith)

-- m entries that are L, the rest cleared
pub laid_out : (figure : Entry → ℕ) (L : List Entry) (m : ℕ) (c b a : List ℕ) → c ≡ wiped m b → m ≡ length L → take m b ≡ map figure L → length a ≡ 1024 → c ≡ laid figure L a
unfolding wiped
laid_out figure L m c b a e n t l =
    e ∙ ap₂ (λ (x : List ℕ) (k : ℕ). x ++ replicate (1024 - k) 0) t n
    ∙ sym (append-nil (map figure L ++ replicate (1024 - length L) 0))
    ∙ ap (λ (x : List ℕ). map figure L ++ replicate (1024 - length L) 0 ++ x) (sym (drop_all 1024 a (omega arith)))

-- r is what is counted, and each of the three lists is laid out
pub record Built (w : ℕ) (fs : List Pattern) (r : Option ℕ) (c : Listing) (cs vs ns : List ℕ) : Type 0 where
  pub count : r ≡ counted w fs
  pub cares : c.cares.now ≡ laid care_at (listed w fs) cs
  pub values : c.values.now ≡ laid value_at (listed w fs) vs
  pub sizes : c.sizes.now ≡ laid size_of (listed w fs) ns

module _ (w : ℕ) (fs : List Pattern) where
  -- what is counted and listed, of a class list that is known to be short, and of one that is known to be long
  counted_few : length (class_list w fs) ≤ 512 → (counted w fs ≡ Some (length (class_list w fs))) × (listed w fs ≡ class_list w fs)
  unfolding counted listed
  counted_few h = (
    ap (λ (b : Bool). cond b (Some (length (class_list w fs))) None) (le-leb (length (class_list w fs)) 512 h),
    ap (λ (b : Bool). cond b (class_list w fs) []) (le-leb (length (class_list w fs)) 512 h),
  )

  counted_many : 512 < length (class_list w fs) → (counted w fs ≡ None) × (listed w fs ≡ [])
  unfolding counted listed
  counted_many h = (
    ap (λ (b : Bool). cond b (Some (length (class_list w fs))) None) (lt-leb (length (class_list w fs)) 512 h),
    ap (λ (b : Bool). cond b (class_list w fs) []) (lt-leb (length (class_list w fs)) 512 h),
  )

  -- the first m entries are listed, and r is what is counted
  pub record Standing (r : Option ℕ) (m : ℕ) (b : Listing) : Type 0 where
    pub few : m ≤ 1024
    is : rows b.cares.now b.values.now b.sizes.now 0 m ≡ listed w fs
    count : r ≡ counted w fs

  pub standing : (r : Option ℕ) (b a : Listing) → Gathered w fs r b a → Standing r (unwrap_or r 0) b
  standing (Some n) b a g =
      let c = counted_few (omega (arith, g.is, ap length g.is.1, rows-length b.cares.now b.values.now b.sizes.now 0 n)) in
      record { few = omega (arith, g.is); is = g.is.1 ∙ sym c.1; count = ap Some (sym (rows-length b.cares.now b.values.now b.sizes.now 0 n) ∙ ap length g.is.1) ∙ sym c.0 }
  standing None b a g =
      let c = counted_many g.is in
      record { few = zero-le; is = rows_end b.cares.now b.values.now b.sizes.now 0 0 zero-le ∙ sym c.1; count = sym c.0 }

  module _ (r : Option ℕ) (c b a : Listing) (g : Gathered w fs r b a)
      (done : Changed (wiped (unwrap_or r 0)) (wiped (unwrap_or r 0)) (wiped (unwrap_or r 0)) (unwrap_or r 0) c b) (before : Room a) where
    stands : Standing r (unwrap_or r 0) b
    stands = standing r b a g

    figures_laid : (figure : Entry → ℕ) (z y x : List ℕ) → ((k : ℕ) → get_or y k 0 ≡ figure (entry_at b k)) → length y ≡ 1024 → length x ≡ 1024
        → z ≡ wiped (unwrap_or r 0) y → z ≡ laid figure (listed w fs) x
    figures_laid figure z y x same-figure ly lx e =
        laid_out figure (listed w fs) (unwrap_or r 0) z y x e
        (sym (rows-length b.cares.now b.values.now b.sizes.now 0 (unwrap_or r 0)) ∙ ap length stands.is)
        (figures_all figure b.cares.now b.values.now b.sizes.now y same-figure (unwrap_or r 0) (omega (arith, stands.few)) ∙ ap (map figure) stands.is) lx

    pub built : Built w fs r c a.cares.now a.values.now a.sizes.now
    built = record {
      count = stands.count;
      cares = figures_laid care_at c.cares.now b.cares.now a.cares.now (λ k. refl) done.room.cares before.cares done.cares;
      values = figures_laid value_at c.values.now b.values.now a.values.now (λ k. refl) done.room.values before.values done.values;
      sizes = figures_laid size_of c.sizes.now b.sizes.now a.sizes.now (λ k. refl) done.room.sizes before.sizes done.sizes;
    }
