-- What the code's steps are: taking in a filter, last entry first, on entries that stand in three lists; and what a listing is
-- before and after each. Serves the proofs.
use Rattle.std.specs.Prelude.{◌≡◌, Bool, true, not, ◌&&◌, cond, List, [], ◌∷◌, ◌++◌, Option, MatchOption, ℕ, zero, suc, ◌+◌, ◌-◌, ◌^◌, ◌≤◌, ◌<◌, T, eqb, get_or, length, set, take, drop, replicate}
use Rattle.std.specs.Int.Bits.{bit_or}
use Rattle.pattern.specs.declared.Pattern.{Pattern}
use Rattle.pattern.specs.Filters.{within, agree, common, held}
use Rattle.classes.specs.Classes.{Entry, entry, before, tally, class_list}
use Rattle.classes.specs.Given.{pattern_at}
use Rattle.classes.specs.declared.entries.Entries.{Entries}
use Rattle.classes.specs.declared.places.Listing.{Listing}

-- ---- on a list of entries

-- The sizes of the entries whose pattern passes the test, together.
abbrev pub sum_if : (Pattern → Bool) → List Entry → ℕ
sum_if t [] = 0
sum_if t (e ∷ L) = cond (t e.pat) e.size 0 + sum_if t L

-- Of the headers that r holds, those that no entry of M within r counts.
abbrev pub inside : ℕ → Pattern → List Entry → ℕ
inside w r M = held w r - sum_if (λ p. within p r) M

-- k headers of e go over to r, which comes later.
abbrev pub moved : Entry → Pattern → ℕ → List Entry → List Entry
moved e r k M = cond (eqb k 0) (e ∷ M) (cond (eqb k e.size) (tally r k M) (entry e.pat (e.size - k) ∷ tally r k M))

-- p has a part in f and a part outside.
abbrev pub cut : Pattern → Pattern → Bool
cut p f = agree p f && not (within p f)

-- Entry e, with M what became of those after it.
abbrev pub sift_one : ℕ → Pattern → Entry → List Entry → List Entry
sift_one w f e M = cond (cut e.pat f) (moved e (common e.pat f) (inside w (common e.pat f) M) M) (e ∷ M)

abbrev pub sift : ℕ → Pattern → List Entry → List Entry
sift w f [] = []
sift w f (e ∷ L) = sift_one w f e (sift w f L)

-- The cared bits of the filters that f lies within, together.
abbrev pub cover : Pattern → List Pattern → ℕ
cover f [] = 0
cover f (g ∷ gs) = cond (within f g) (bit_or g.care (cover f gs)) (cover f gs)

-- A filter that is the common part of those that it lies within is passed over.
abbrev pub taken_in : ℕ → Pattern → List Pattern → List Entry → List Entry
taken_in w f fs L = cond (eqb (cover f fs) f.care) L (sift w f L)

-- No difference is below 0, the mask is of w bits, and the sizes of M together are no more than all headers.
pub record SoundOne (w : ℕ) (f : Pattern) (e : Entry) (M : List Entry) : Type 0 where
  pub bits : e.pat.care < 2 ^ w
  pub held_more : T (cut e.pat f) → sum_if (λ p. within p (common e.pat f)) M ≤ held w (common e.pat f)
  pub size_more : T (cut e.pat f) → inside w (common e.pat f) M ≤ e.size
  pub total : sum_if (λ p. true) M ≤ 2 ^ w

abbrev pub Sound : ℕ → Pattern → List Entry → Type 0
Sound w f [] = Unit
Sound w f (e ∷ L) = SoundOne w f e (sift w f L) × Sound w f L

-- ---- on three lists

-- Entry j, and the m entries from j on.
abbrev pub row : List ℕ → List ℕ → List ℕ → ℕ → Entry
row cs vs ns j = entry (pattern_at cs vs j) (get_or ns j 0)

unfoldable pub rows : List ℕ → List ℕ → List ℕ → ℕ → ℕ → List Entry
rows cs vs ns j zero = []
rows cs vs ns j (suc m) = row cs vs ns j ∷ rows cs vs ns (suc j) m

-- The entries from j on, where the first len stand.
abbrev pub rows_from : Entries → ℕ → List Entry
rows_from l j = rows l.cares.now l.values.now l.sizes.now j (l.len - j)

-- The entries from n on are the same.
abbrev pub SameFrom : ℕ → List ℕ → List ℕ → Type 0
SameFrom n b a = (k : ℕ) → n ≤ k → get_or b k 0 ≡ get_or a k 0

-- a with x put in at place i of the first n: those from there on go one place up.
unfoldable pub inserted : {A : Type 0} → ℕ → ℕ → A → List A → List A
inserted i n x a = take i a ++ (x ∷ take (n - i) (drop i a) ++ drop (suc n) a)

-- a with place i of the first n taken out: those after it go one place down.
unfoldable pub removed : {A : Type 0} → ℕ → ℕ → List A → List A
removed i n a = take i a ++ (take (n - suc i) (drop (suc i) a) ++ drop (n - 1) a)

-- a with 0 from place i to place 1,023, its last.
unfoldable pub wiped : ℕ → List ℕ → List ℕ
wiped i a = take i a ++ replicate (1024 - i) 0

-- r is a place from i to n, and the entries from i up to it are before p.
pub record Passed (p : Pattern) (cs vs : List ℕ) (i n r : ℕ) : Type 0 where
  pub from : i ≤ r
  pub upto : r ≤ n
  pub passed : (k : ℕ) → i ≤ k → k < r → T (before (pattern_at cs vs k) p)

-- Among the entries from i up to n, p stands at place r.
pub record Stands (p : Pattern) (cs vs : List ℕ) (i n r : ℕ) : Type 0 where
  pub at : Passed p cs vs i n r
  pub there : r < n
  pub is : p ≡ pattern_at cs vs r

-- Of the entries from i up to n those before r come before p, and p comes before the one at r: p is to be put in there.
pub record Lacks (p : Pattern) (cs vs : List ℕ) (i n r : ℕ) : Type 0 where
  pub at : Passed p cs vs i n r
  pub next : r < n → T (before p (pattern_at cs vs r))

-- The places below i are the same.
abbrev pub SameBelow : ℕ → List ℕ → List ℕ → Type 0
SameBelow i b a = (k : ℕ) → k < i → get_or b k 0 ≡ get_or a k 0

-- ---- on a listing, which is a before a step and b after it

-- Entry j, the entries from j on, and all entries.
abbrev pub entry_at : Listing → ℕ → Entry
entry_at a j = row a.cares.now a.values.now a.sizes.now j

abbrev pub entries_from : Listing → ℕ → List Entry
entries_from a j = rows a.cares.now a.values.now a.sizes.now j (a.len - j)

abbrev pub entries : Listing → List Entry
entries a = rows a.cares.now a.values.now a.sizes.now 0 a.len

-- It still stands in the same lent lists.
pub record SameLent (b a : Listing) : Type 0 where
  pub cares : b.cares.ghost_name ≡ a.cares.ghost_name
  pub values : b.values.ghost_name ≡ a.values.ghost_name
  pub sizes : b.sizes.ghost_name ≡ a.sizes.ghost_name

-- Each list has 1,024 places.
pub record Room (a : Listing) : Type 0 where
  pub cares : length a.cares.now ≡ 1024
  pub values : length a.values.now ≡ 1024
  pub sizes : length a.sizes.now ≡ 1024

-- Each of the three lists of 1,024 is what its change makes of it, and n entries stand.
pub record Changed (f g h : List ℕ → List ℕ) (n : ℕ) (b a : Listing) : Type 0 where
  pub cares : b.cares.now ≡ f a.cares.now
  pub values : b.values.now ≡ g a.values.now
  pub sizes : b.sizes.now ≡ h a.sizes.now
  pub len : b.len ≡ n
  pub room : Room a
  pub lent : SameLent b a

-- The size of entry i is k now.
pub record Resized (i k : ℕ) (b a : Listing) : Type 0 where
  pub cares : b.cares.now ≡ a.cares.now
  pub values : b.values.now ≡ a.values.now
  pub sizes : b.sizes.now ≡ set a.sizes.now i k
  pub len : b.len ≡ a.len
  pub room : length a.sizes.now ≡ 1024
  pub lent : SameLent b a

-- The entries below i are the same.
pub record Kept (i : ℕ) (b a : Listing) : Type 0 where
  pub cares : SameBelow i b.cares.now a.cares.now
  pub values : SameBelow i b.values.now a.values.now
  pub sizes : SameBelow i b.sizes.now a.sizes.now
  pub lent : SameLent b a

-- The entries from i on became L, at most one more than before; those below are the same.
pub record Became (i : ℕ) (L : List Entry) (b a : Listing) : Type 0 where
  pub is : entries_from b i ≡ L
  pub from : i ≤ b.len
  pub one_more : b.len ≤ a.len + 1
  pub kept : Kept i b a

-- The entries became L, which is at most twice as long as what stood there.
pub record Took (L : List Entry) (b a : Listing) : Type 0 where
  pub is : entries b ≡ L
  pub twice : b.len ≤ a.len + a.len
  pub lent : SameLent b a

-- The entries are the class list, and r is their number, where there are no more than 512.
pub record Gathered (w : ℕ) (fs : List Pattern) (r : Option ℕ) (b a : Listing) : Type 0 where
  pub is : MatchOption r (512 < length (class_list w fs)) (λ n. (n ≤ 512) × (rows b.cares.now b.values.now b.sizes.now 0 n ≡ class_list w fs))
  pub lent : SameLent b a
