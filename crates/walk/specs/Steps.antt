-- What the code's steps are; serves the proofs: the working arrays, as the walk goes through them.
use Rattle.std.specs.Prelude.{cond, true, ◌≡◌, ℕ, zero, suc, ◌+◌, ◌-◌, ◌≤◌, ◌<◌, get_or}
use Rattle.pattern.specs.Filters.{hits, all_free}
use Rattle.reading.specs.declared.Action.{Action}
use Rattle.reading.specs.declared.Action.TheVariants.{Forward, Drop}
use Rattle.reading.specs.declared.Rule.{Rule}
use Rattle.reading.specs.declared.Arrays.{Arrays}
use Rattle.reading.specs.Arrays.{rule_in}
use Rattle.reading.specs.Code.{leads_in}

-- Rule i of the arrays.
abbrev pub rule_at : Arrays → ℕ → Rule
rule_at a i = record { pattern = get_or a.patterns i all_free; action = get_or a.actions i (Forward 0) }

-- The first of the k rules from number i on that header h matches acts; no match means dropped.
unfoldable pub first_in : Arrays → ℕ → ℕ → ℕ → Action
first_in a h i zero = Drop
first_in a h i (suc k) = cond (hits (rule_at a i).pattern h) (rule_at a i).action (first_in a h (suc i) k)

-- What node v does with header h: its table are the rules from its first to the next node's first.
unfoldable pub acts_in : Arrays → ℕ → ℕ → Action
unfolding first_in
acts_in a h v = first_in a h (rule_in a.marks v) (rule_in a.marks (v + 1) - rule_in a.marks v)

-- The tables of n nodes stand in the arrays, and each of their rules that forwards leads to one of the nodes.
pub record TablesIn (a : Arrays) (n : ℕ) : Type 0 where
  pub few : n ≤ 64
  pub upto : (v : ℕ) → v < n → rule_in a.marks (v + 1) ≤ 256
  pub leads : (v : ℕ) → v < n → (i : ℕ) → i < rule_in a.marks (v + 1) → leads_in n (rule_at a i).action ≡ true
