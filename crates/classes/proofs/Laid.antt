-- Lists that are laid out hold the patterns that were laid out.
use mathlib.Core.Path.{◌≡◌, refl, sym, ap, ◌∙◌, subst}
use mathlib.Core.List.{List, [], ◌∷◌, ◌++◌, map, append_assoc, append-nil}
use Prim.Native.Nat.{ℕ, zero, suc, ◌-◌, ◌≤◌}
use native.Mathlib.Omega.{arith}
use lib.ListN.{length, length-append, length-drop, length-take, get_or, get_or-append, take, drop, replicate}
use lib.Seq.{get_or-take, get_or-drop, length-take-le}
use Rattle.std.specs.Array.{IsFirstChunk}
use Rattle.std.proofs.lemmas.List.{drop_all, get_or-append_right}
use Rattle.pattern.specs.declared.Pattern.{Pattern}
use Rattle.classes.specs.Classes.{Entry, laid, care_at, value_at}
use Rattle.classes.specs.Given.{pattern_at, patterns_from}
use Rattle.classes.specs.Steps.{rows, SameBelow, SameFrom}
use Rattle.classes.proofs.Tally.{pats}
use Rattle.classes.proofs.Rows.{rows_ext}

-- What is laid out: the figures, and what comes after them.
abbrev pub after : List Entry → List ℕ → List ℕ
after L old = replicate (1024 - length L) 0 ++ drop 1024 old

abbrev front : (Entry → ℕ) → List Entry → List ℕ → List ℕ
front figure L old = map figure L ++ after L old

pub laid_split : (figure : Entry → ℕ) (L : List Entry) (old : List ℕ) → laid figure L old ≡ front figure L old
laid_split figure L old = append_assoc (map figure L) (replicate (1024 - length L) 0) (drop 1024 old)

-- What stands one place later behind one more number.
patterns_behind : (c v : ℕ) (cs vs : List ℕ) (j m : ℕ) → patterns_from (c ∷ cs) (v ∷ vs) (suc j) m ≡ patterns_from cs vs j m
unfolding patterns_from
patterns_behind c v cs vs j zero = refl
patterns_behind c v cs vs j (suc m) = ap (λ (l : List Pattern). pattern_at cs vs j ∷ l) (patterns_behind c v cs vs (suc j) m)

-- The patterns in two lists that begin with the figures of entries.
front_patterns : (L : List Entry) (xs ys : List ℕ) → patterns_from (map care_at L ++ xs) (map value_at L ++ ys) 0 (length L) ≡ pats L
unfolding patterns_from
front_patterns [] xs ys = refl
front_patterns (e ∷ L) xs ys =
    ap (λ (l : List Pattern). e.pat ∷ l)
    (patterns_behind (care_at e) (value_at e) (map care_at L ++ xs) (map value_at L ++ ys) 0 (length L) ∙ front_patterns L xs ys)

pub laid_patterns : (L : List Entry) (cs vs : List ℕ) → patterns_from (laid care_at L cs) (laid value_at L vs) 0 (length L) ≡ pats L
laid_patterns L cs vs =
    subst (λ (c : List ℕ). patterns_from c (laid value_at L vs) 0 (length L) ≡ pats L) (sym (laid_split care_at L cs))
    (subst (λ (v : List ℕ). patterns_from (front care_at L cs) v 0 (length L) ≡ pats L) (sym (laid_split value_at L vs))
    (front_patterns L (after L cs) (after L vs)))

-- The first 1,024 entries of a list.
pub chunk_length : (old chunk : List ℕ) → IsFirstChunk old chunk 1024 → length chunk ≡ 1024
chunk_length old chunk f = ap length f.same ∙ length-take-le 1024 old f.enough

-- A longer list whose first 1,024 entries are laid out.
laid_longer : (figure : Entry → ℕ) (L : List Entry) (old : List ℕ) → laid figure L (take 1024 old) ++ drop 1024 old ≡ laid figure L old
laid_longer figure L old =
    ap (λ (l : List ℕ). map figure L ++ replicate (1024 - length L) 0 ++ l ++ drop 1024 old) (drop_all 1024 (take 1024 old) (omega (arith, length-take 1024 old)))
    ∙ ap (λ (l : List ℕ). l ++ drop 1024 old) (append-nil (map figure L ++ replicate (1024 - length L) 0))

pub chunk_laid : (figure : Entry → ℕ) (L : List Entry) (x new chunk old : List ℕ) → IsFirstChunk old chunk 1024 → new ≡ laid figure L chunk → x ≡ new
    → x ++ drop 1024 old ≡ laid figure L old
chunk_laid figure L x new chunk old f e s =
    ap (λ (l : List ℕ). l ++ drop 1024 old) (s ∙ e ∙ ap (laid figure L) f.same) ∙ laid_longer figure L old

-- x in place of the first 1,024 entries of a list.
abbrev pub fronted : List ℕ → List ℕ → List ℕ
fronted x old = x ++ drop 1024 old

module _ (x old : List ℕ) (enough : 1024 ≤ length old) (same-length : length (fronted x old) ≡ length old) where
  fronted_length : length x ≡ 1024
  fronted_length = omega (arith, same-length, length-append x (drop 1024 old), length-drop 1024 old)

  pub fronted_from : SameFrom 1024 (fronted x old) old
  fronted_from k h =
      get_or-append_right x (drop 1024 old) 1024 k 0 fronted_length h ∙ get_or-drop 1024 old (k - 1024) 0 ∙ ap (λ (j : ℕ). get_or old j 0) (omega (arith, h))

  pub fronted_below : (new : List ℕ) → x ≡ new → SameBelow 1024 (fronted x old) new
  fronted_below new e k h = get_or-append x (drop 1024 old) 0 k (omega (arith, h, fronted_length)) ∙ ap (λ (l : List ℕ). get_or l k 0) e

-- Lists that agree below 1,024 hold the same entries there.
pub rows_below : (cs vs ns cs' vs' ns' : List ℕ) (r m : ℕ) → r ≡ m → m ≤ 1024 → SameBelow 1024 cs' cs → SameBelow 1024 vs' vs → SameBelow 1024 ns' ns
    → rows cs' vs' ns' 0 r ≡ rows cs vs ns 0 m
rows_below cs vs ns cs' vs' ns' r m e few a b c =
    ap (rows cs' vs' ns' 0) e
    ∙ rows_ext cs vs ns cs' vs' ns' 0 m (λ k l h. a k (omega (arith, h, few))) (λ k l h. b k (omega (arith, h, few))) (λ k l h. c k (omega (arith, h, few)))

-- The entries that stand in the first 1,024 places of three lists.
pub chunk_rows : (cs vs ns cs' vs' ns' : List ℕ) → IsFirstChunk cs cs' 1024 → IsFirstChunk vs vs' 1024 → IsFirstChunk ns ns' 1024 → (m : ℕ) → m ≤ 512
    → rows cs' vs' ns' 0 m ≡ rows cs vs ns 0 m
chunk_rows cs vs ns cs' vs' ns' a b c m few = rows_below cs vs ns cs' vs' ns' m m refl (omega (arith, few)) (below cs cs' a) (below vs vs' b) (below ns ns' c)
  where
    below : (old chunk : List ℕ) → IsFirstChunk old chunk 1024 → SameBelow 1024 chunk old
    below old chunk f k h = ap (λ (l : List ℕ). get_or l k 0) f.same ∙ get_or-take 1024 old k 0 h
