-- `rounds::Row::write_lowest` meets its contract, from its callees' contracts.
use mathlib.Core.Path.{◌≡◌, sym, ap, ◌∙◌}
use mathlib.Core.List.{[], ◌++◌}
use lib.ListN.{length, drop, replicate}
use Rattle.std.proofs.Common.{rules}
use Rattle.rounds.specs.Rounds.{cycle_for, cycle_of}
use Rattle.rounds.specs.Rows.{next_of}
use Rattle.rounds.proofs.Low.{node_means}
use Rattle.rounds.proofs.Written.{on_cleared}
use Rattle.rounds.proofs.Row.write_lowest.Goals as goal

pub returns-in_err-low-clause-written : goal.returns-in_err-low-clause-written
unfolding cycle_for
returns-in_err-low-clause-written c =
    let long : length c.args.out.now ≡ 64 = c.told-out in
    let all : c.fill.new.self ≡ replicate 64 255 = search rules in
    rw c.from_residual.ensures (all ∙ on_cleared [] c.args.out.now long)

pub write_cycle-requires : goal.write_cycle-requires
write_cycle-requires c = node_means _ _ _ (sym c.lowest_on_cycle.ensures ∙ c.in_ok-low.was)

pub returns-clause-written : goal.returns-clause-written
unfolding cycle_for
returns-clause-written c =
    let long : length c.args.out.now ≡ 64 = c.told-out in
    let all : c.fill.new.self ≡ replicate 64 255 = search rules in
    let cyc = cycle_of (next_of c.args.self.now.next c.args.self.now.nodes) c.args.self.now.nodes c.in_ok-low.low in
    c.write_cycle.ensures ∙ ap (λ l. cyc ++ drop (length cyc) l) all ∙ on_cleared cyc c.args.out.now long
