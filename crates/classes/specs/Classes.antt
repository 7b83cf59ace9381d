-- Paper 01, "Classes": two headers are in one class when they match the same filters. A class is listed as the common part of
-- all filters that its headers match, all-free if they match none; the size counts only headers of the class. A pattern whose
-- class would be empty is not listed. The order is by care mask, then value, as unsigned numbers.
use Rattle.std.specs.Prelude.{Bool, false, ◌&&◌, ◌||◌, cond, List, [], ◌∷◌, ◌++◌, map, ℕ, zero, suc, ◌+◌, ◌-◌, ◌^◌, eqb, ltb, length, drop, replicate}
use Rattle.std.specs.Int.Bits.{bit_and, bit_or}
use Rattle.pattern.specs.declared.Pattern.{Pattern}
use Rattle.pattern.specs.Filters.{hits}

-- The cared bits of all filters that header h matches.
abbrev pub care_of : List Pattern → ℕ → ℕ
care_of [] h = 0
care_of (f ∷ fs) h = cond (hits f h) (bit_or (care_of fs h) f.care) (care_of fs h)

-- The common part of all filters that h matches, all-free if it matches none.
abbrev pub pat_of : List Pattern → ℕ → Pattern
pat_of fs h = record { care = care_of fs h; value = bit_and h (care_of fs h) }

-- The same pattern.
abbrev pub same : Pattern → Pattern → Bool
same p q = eqb p.care q.care && eqb p.value q.value

-- The order: by care mask, then value.
abbrev pub before : Pattern → Pattern → Bool
before p q = ltb p.care q.care || eqb p.care q.care && ltb p.value q.value

-- A listed pattern, and the number of headers of its class.
pub record Entry : Type 0 where
  pub pat : Pattern
  pub size : ℕ

abbrev pub entry : Pattern → ℕ → Entry
entry p n = record { pat = p; size = n }

-- n more headers of pattern p: added to p's entry, or made an entry in its place where there is none.
abbrev pub tally : Pattern → ℕ → List Entry → List Entry
tally p n [] = entry p n ∷ []
tally p n (e ∷ L) =
    cond (before p e.pat) (entry p n ∷ e ∷ L) (cond (same p e.pat) (entry e.pat (e.size + n) ∷ L) (e ∷ tally p n L))

-- The tally of the patterns of all headers below n.
unfoldable pub tally_all : (ℕ → Pattern) → ℕ → List Entry
tally_all pattern zero = []
tally_all pattern (suc n) = tally (pattern n) 1 (tally_all pattern n)

-- The class list of the filters: the tally of all headers of w bits, each under its pattern.
abbrev pub class_list : ℕ → List Pattern → List Entry
class_list w fs = tally_all (pat_of fs) (2 ^ w)

-- A lent list after success: one figure of each entry, 0 from the class count to entry 1,023, and the entries past that as they were.
abbrev pub laid : (Entry → ℕ) → List Entry → List ℕ → List ℕ
laid figure L old = map figure L ++ replicate (1024 - length L) 0 ++ drop 1024 old

-- The three figures of an entry.
abbrev pub care_at : Entry → ℕ
care_at e = e.pat.care

abbrev pub value_at : Entry → ℕ
value_at e = e.pat.value

abbrev pub size_of : Entry → ℕ
size_of e = e.size

-- p is one of the patterns.
abbrev pub among : Pattern → List Pattern → Bool
among p [] = false
among p (q ∷ qs) = same p q || among p qs
