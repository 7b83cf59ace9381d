-- Demand 3 of the lent lists: of a judged file, with c classes, the first c entries of the three lists at exit are the class list, which
-- the theorems of the crate classes (proofs/Demand3) are about.
use mathlib.Core.Path.{◌≡◌, refl, sym, ◌∙◌, ap}
use mathlib.Core.List.{List, [], ◌∷◌, ◌++◌, map}
use Prim.Native.Nat.{ℕ, zero, suc}
use lib.ListN.{length}
use Rattle.std.specs.Prelude.{Ok}
use Rattle.reading.specs.Network.{Network, filters}
use Rattle.reading.specs.File.{accepted, parse}
use Rattle.classes.specs.Classes.{Entry, class_list, laid, care_at, value_at, size_of}
use Rattle.classes.specs.Steps.{row, rows}
use Rattle.classes.proofs.Laid.{after, laid_split}
use Rattle.judge.specs.declared.Judged.{Judged}
use Rattle.judge.specs.Judging.{Lent, Judgement, classes_of, said_of, judge_of}
use Rattle.judge.proofs.JudgeLaws.{fine, judged_is}

-- ---- entries whose figures stand in front of three lists

rows_behind : (c v n : ℕ) (cs vs ns : List ℕ) (j m : ℕ) → rows (c ∷ cs) (v ∷ vs) (n ∷ ns) (suc j) m ≡ rows cs vs ns j m
unfolding rows
rows_behind c v n cs vs ns j zero = refl
rows_behind c v n cs vs ns j (suc m) = ap (λ (L : List Entry). row cs vs ns j ∷ L) (rows_behind c v n cs vs ns (suc j) m)

front-rows : (L : List Entry) (cs vs ns : List ℕ) → rows (map care_at L ++ cs) (map value_at L ++ vs) (map size_of L ++ ns) 0 (length L) ≡ L
unfolding rows
front-rows [] cs vs ns = refl
front-rows (e ∷ L) cs vs ns =
    ap (λ (M : List Entry). e ∷ M)
    (rows_behind (care_at e) (value_at e) (size_of e) (map care_at L ++ cs) (map value_at L ++ vs) (map size_of L ++ ns) 0 (length L) ∙ front-rows L cs vs ns)

laid-rows : (L : List Entry) (cs vs ns : List ℕ) → rows (laid care_at L cs) (laid value_at L vs) (laid size_of L ns) 0 (length L) ≡ L
laid-rows L cs vs ns =
    (λ i. rows (laid_split care_at L cs i) (laid_split value_at L vs i) (laid_split size_of L ns i) 0 (length L))
    ∙ front-rows L (after L cs) (after L vs) (after L ns)

-- ---- Judge

pub demand3_lists : (file : List ℕ) (old : Lent) (j : Judged) (net : Network) → (judge_of file old).answer ≡ Ok j → parse file ≡ accepted net
    → rows (judge_of file old).lent.cares (judge_of file old).lent.values (judge_of file old).lent.sizes 0 j.classes ≡ class_list net.width (filters net)
demand3_lists file old j net e read =
    ap (λ (k : Judgement). rows k.lent.cares k.lent.values k.lent.sizes 0 j.classes) is
    ∙ ap (rows (fine net old).lent.cares (fine net old).lent.values (fine net old).lent.sizes 0) (sym many)
    ∙ laid-rows (classes_of net) old.cares old.values old.sizes
  where
    is : judge_of file old ≡ fine net old
    is = judged_is file old j net e read

    many : length (classes_of net) ≡ j.classes
    many = let same : Ok (said_of net) ≡ Ok j = sym (ap (λ (k : Judgement). k.answer) is) ∙ e in ap (λ (k : Judged). k.classes) {x = said_of net} {y = j} (cc)
