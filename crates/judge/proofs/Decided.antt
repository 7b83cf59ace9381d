-- The verdict from the class list: no class's pattern goes round and no header does; or the least header of those that do.
use mathlib.Core.Path.{◌≡◌, refl, sym, ◌∙◌, ap, ap₂, subst}
use mathlib.Core.Bool.{Bool, true, false}
use mathlib.Core.List.{List, [], ◌∷◌, map, append-nil}
use Prim.Native.Nat.{ℕ, zero, suc, ◌+◌, ◌^◌, ◌≤◌, ◌<◌, zero-le}
use native.Mathlib.Nat.{add-zero, le_of_eq}
use native.Mathlib.Omega.{arith}
use lib.Dec.{T}
use lib.ListN.{length, get_or, length-map}
use Rattle.std.specs.List.{list_any}
use Rattle.pattern.specs.declared.Pattern.{Pattern}
use Rattle.pattern.specs.Filters.{WellFormed}
use Rattle.reading.specs.Network.{Network, filters}
use Rattle.classes.specs.Classes.{Entry, pat_of, care_at, value_at}
use Rattle.classes.specs.Given.{pattern_at, patterns_from, AllWellFormed}
use Rattle.classes.proofs.Tally.{pats, list_has}
use Rattle.classes.proofs.Listed.{listed_of}
use Rattle.classes.proofs.Number.{pats-length}
use Rattle.least.specs.declared.Patterns.{Patterns}
use Rattle.least.specs.Counting.{recount, Enough}
use Rattle.least.specs.Steps.{patterns_of, some_of, search}
use Rattle.least.proofs.Marked.{Marked, any_found, any_there}
use Rattle.least.proofs.LeastHeader.{least_is, class_enough, marks_are, patterns_stand}
use Rattle.judge.specs.declared.Verdict.TheVariants.{Free, Loop}
use Rattle.judge.specs.Forwarding.{query_of}
use Rattle.judge.specs.Verdicts.{loops, verdict_of}
use Rattle.judge.specs.Judging.{classes_of}
use Rattle.judge.specs.Steps.{Listed}
use Rattle.judge.proofs.First.{first_is}
use Rattle.judge.proofs.Alike.{loops-alike}

module _ (net : Network) (good : AllWellFormed net.width (filters net)) where
  -- a header goes round exactly when its class's pattern does
  to_header : (h : ℕ) → h < 2 ^ net.width → T (loops net (pat_of (filters net) h)) → T (loops net (query_of net h))
  to_header h l t = subst T (loops-alike net good h l) t

  to-class : (h : ℕ) → h < 2 ^ net.width → T (loops net (query_of net h)) → T (loops net (pat_of (filters net) h))
  to-class h l t = subst T (sym (loops-alike net good h l)) t

  module _ (marks : List Bool) (marked : Marked (loops net) marks (pats (classes_of net))) where
    -- the header that the code finds by the counts
    abbrev pub found : ℕ
    found = search (λ P. some_of marks (recount net.width P (pats (classes_of net)))) net.width net.width 0

    -- no class is marked, and each header is in one
    pub says_free : list_any (λ m. m) marks ≡ false → verdict_of net ≡ Free
    unfolding verdict_of
    says_free e =
        first_is (λ h. loops net (query_of net h)) (2 ^ net.width) Free
        (λ h _ l t. subst T e (any_there (loops net) marks (pats (classes_of net)) marked (pat_of (filters net) h) (list_has net.width (filters net) h l) (to-class h l t)))

    -- some class is marked, and none is empty; the header found is the least
    pub says_loop : length marks ≤ length (pats (classes_of net)) → list_any (λ m. m) marks ≡ true → verdict_of net ≡ Loop found
    unfolding verdict_of
    says_loop few e =
        first_is (λ h. loops net (query_of net h)) (2 ^ net.width) (Loop found)
        (zero-le, least.0, to_header found least.0 least.1, λ h _ lt t. omega (arith, least.2 h (omega (arith, lt, least.0)) (to-class h (omega (arith, lt, least.0)) t)))
      where
        some : (h : ℕ) × (h < 2 ^ net.width) × T (loops net (pat_of (filters net) h))
        some =
            let p = any_found (loops net) marks (pats (classes_of net)) marked few (subst T (sym e) tt) in
            let h = listed_of net.width (filters net) p.0 p.1 in
            (h.0, h.1, subst (λ (q : Pattern). T (loops net q)) (sym h.2) p.2)

        least : (found < 2 ^ net.width) × T (loops net (pat_of (filters net) found)) × ((g : ℕ) → g < 2 ^ net.width → T (loops net (pat_of (filters net) g)) → found ≤ g)
        least = least_is net.width (filters net) good (loops net) marks marked some.0 some.1 some.2

-- ---- the same of the lists that the code holds: the class list's care masks and values, and the marks

-- the patterns whose figures a list of entries has
figures : (f : Pattern → ℕ) (L : List Entry) → map (λ e. f e.pat) L ≡ map f (pats L)
figures f [] = refl
figures f (e ∷ L) = ap (λ (l : List ℕ). f e.pat ∷ l) (figures f L)

standing : (L : List Entry) → patterns_from (map care_at L) (map value_at L) 0 (length (map care_at L)) ≡ pats L
standing L =
    ap (patterns_from (map care_at L) (map value_at L) 0) (length-map L care_at ∙ sym (pats-length L))
    ∙ patterns_stand (pats L) (map care_at L) (map value_at L) [] [] 0
    (figures (λ p. p.care) L ∙ sym (append-nil _)) (figures (λ p. p.value) L ∙ sym (append-nil _))

module _ (net : Network) (listed : Patterns) (l : Listed net listed) where
  -- the patterns that stand in the lists are the classes'
  patterns : patterns_of listed ≡ pats (classes_of net)
  patterns = ap₂ (λ (c v : List ℕ). patterns_from c v 0 (length c)) l.cares l.values ∙ standing (classes_of net)

  pub lists_enough : (w : ℕ) → net.width ≡ w → (P : Pattern) → WellFormed w P → Enough w P (patterns_of listed)
  lists_enough w e P f =
      subst (Enough w P) (sym patterns)
      (subst (λ (k : ℕ). WellFormed k P → Enough k P (pats (classes_of net))) e (class_enough net.width (filters net) l.formed P) f)

  module _ (marks : List Bool) (m : marks ≡ map (loops net) (patterns_of listed)) where
    marks_of : marks ≡ map (loops net) (pats (classes_of net))
    marks_of = m ∙ ap (map (loops net)) patterns

    marked : Marked (loops net) marks (pats (classes_of net))
    marked = marks_are (loops net) (pats (classes_of net)) marks [] (marks_of ∙ sym (append-nil _))

    few : length marks ≤ length (pats (classes_of net))
    few = le_of_eq (ap length marks_of ∙ length-map (pats (classes_of net)) (loops net))

    pub lists_free : list_any (λ m. m) marks ≡ false → verdict_of net ≡ Free
    lists_free = says_free net l.formed marks marked

    pub lists_loop : (w : ℕ) → net.width ≡ w → list_any (λ m. m) marks ≡ true → verdict_of net ≡ Loop (search (λ P. some_of marks (recount w P (patterns_of listed))) w w 0)
    lists_loop w width e =
        says_loop net l.formed marks marked few e
        ∙ ap Loop (ap₂ (λ (K : List Pattern) (k : ℕ). search (λ P. some_of marks (recount k P K)) k k 0) (sym patterns) width)

-- marks, each of which is that of the pattern at its place
pub all_marked : (goes : Pattern → Bool) (cs vs : List ℕ) (marks : List Bool) (n j : ℕ) → length marks ≡ n
    → ((k : ℕ) → k < n → get_or marks k false ≡ goes (pattern_at cs vs (j + k))) → marks ≡ map goes (patterns_from cs vs j n)
unfolding patterns_from
all_marked goes cs vs [] zero j e h = refl
all_marked goes cs vs [] (suc n) j e h = absurd (omega (arith, e))
all_marked goes cs vs (m ∷ marks) zero j e h = absurd (omega (arith, e))
all_marked goes cs vs (m ∷ marks) (suc n) j e h =
    ap₂ (λ (b : Bool) (l : List Bool). b ∷ l)
    (h zero (omega arith) ∙ ap (λ (i : ℕ). goes (pattern_at cs vs i)) (add-zero j))
    (all_marked goes cs vs marks n (suc j) (omega (arith, e)) (λ k l. h (suc k) (omega (arith, l)) ∙ ap (λ (i : ℕ). goes (pattern_at cs vs i)) (on k)))
  where
    on : (k : ℕ) → j + suc k ≡ suc j + k
    on k = omega arith
