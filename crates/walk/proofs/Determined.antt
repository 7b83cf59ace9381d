-- Two answers that Walk's contract allows are equal, and none depends on bytes past the first 4,096.
use mathlib.Core.Path.{◌≡◌, sym, ◌∙◌, ap}
use mathlib.Core.List.{List}
use Prim.Native.Nat.{ℕ}
use lib.ListN.{take}
use Rattle.std.specs.Prelude.{Result}
use Rattle.reading.specs.File.{Parsed}
use Rattle.reading.specs.declared.refusals.Refusal.{Refusal}
use Rattle.reading.proofs.Prefix.{parse-prefix}
use Rattle.walk.specs.declared.Outcome.{Outcome}
use Rattle.walk.specs.Walking.{walk_read, walk_of}

module _ (file : List ℕ) (header start : ℕ) where
  pub walk_answer : (r s : Result Outcome Refusal) → r ≡ walk_of file header start → s ≡ walk_of file header start → r ≡ s
  walk_answer r s a b = a ∙ sym b

  pub walk_first_4096 : walk_of (take 4096 file) header start ≡ walk_of file header start
  unfolding walk_of
  walk_first_4096 = ap (λ (p : Parsed). walk_read p header start) (parse-prefix file)
