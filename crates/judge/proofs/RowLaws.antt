-- A row that holds each node's next is the function on nodes that the network is for the query.
use mathlib.Core.Path.{◌≡◌, refl, sym, ◌∙◌, ap, fun_ext}
use mathlib.Core.Bool.{Bool, true, false, cond}
use mathlib.Core.List.{List, []}
use Prim.Native.Nat.{ℕ, ◌<◌}
use lib.Dec.{ltb}
use lib.ListN.{length, get_or, replicate}
use borrow.Author.Tests.{ltb-true}
use Rattle.std.specs.Prelude.{Option, None}
use Rattle.std.specs.Option.{unwrap_or}
use Rattle.pattern.specs.declared.Pattern.{Pattern}
use Rattle.reading.specs.declared.Action.{Action}
use Rattle.reading.specs.declared.Action.TheVariants.{Forward, Drop, Deliver}
use Rattle.reading.specs.Network.{Network, next_by}
use Rattle.rounds.specs.Rounds.{cycle_bytes}
use Rattle.rounds.specs.Rows.{next_of}
use Rattle.rounds.proofs.Written.{on_cleared}
use Rattle.judge.specs.declared.Verdict.TheVariants.{Free}
use Rattle.judge.specs.Forwarding.{nodes_of, act_at, leads_to, hop}
use Rattle.judge.specs.Verdicts.{cycle_in}

-- no next node is an end, which is n
next_leads : (n : ℕ) (a : Action) → unwrap_or (next_by a) n ≡ leads_to n a
next_leads n (Forward next) = refl
next_leads n Drop = refl
next_leads n Deliver = refl

-- a row that has each node's next is the network's hop
pub row_is_hop : (net : Network) (query : Pattern) (row : List (Option ℕ)) (n : ℕ) → nodes_of net ≡ n
    → ((v : ℕ) → v < n → get_or row v None ≡ next_by (act_at net query v)) → next_of row n ≡ hop net query
unfolding next_of hop
row_is_hop net query row n e h = fun_ext (λ v. go v (ltb v n) refl ∙ ap (λ m. cond (ltb v m) (leads_to m (act_at net query v)) v) (sym e))
  where
    go : (v : ℕ) (b : Bool) → ltb v n ≡ b → cond b (unwrap_or (get_or row v None) n) v ≡ cond b (leads_to n (act_at net query v)) v
    go v true t = ap (λ o. unwrap_or o n) (h v (ltb-true v n t)) ∙ next_leads n (act_at net query v)
    go v false t = refl

-- the bytes where there is no cycle
pub free_bytes : (net : Network) (old : List ℕ) → length old ≡ 64 → replicate 64 255 ≡ cycle_bytes (cycle_in net Free) old
unfolding cycle_in
free_bytes net old e = on_cleared [] old e
