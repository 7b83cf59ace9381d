-- What the code's steps are; serves the proofs: the function on nodes that a row of next nodes holds.
use Rattle.std.specs.Prelude.{cond, List, ℕ, get_or, ltb, Option, None}
use Rattle.std.specs.Option.{unwrap_or}

-- The node after v: what the row has at v, or n for none, where v is a node; an end stays where it is. n or more is an end.
unfoldable pub next_of : List (Option ℕ) → ℕ → ℕ → ℕ
next_of row n v = cond (ltb v n) (unwrap_or (get_or row v None) n) v
