-- `rounds::Row::lowest_on_cycle` meets its contract: the first node that is found to be met again.
use mathlib.Core.Path.{refl, sym, ◌∙◌}
use native.Mathlib.Nat.{sub-zero}
use Rattle.std.proofs.Common.{rules, tests}
use Rattle.std.proofs.lemmas.Iterator.{YieldsList-from_range}
use Rattle.std.proofs.lemmas.Iterator.Adapters.{option_map_id}
use Rattle.std.proofs.lemmas.Iterator.Search.{find_from_yields_List}
use Rattle.rounds.specs.Rounds.{returns_to}
use Rattle.rounds.specs.Rows.{next_of}
use Rattle.rounds.proofs.Low.{lowest_find}
use Rattle.rounds.proofs.Row.lowest_on_cycle.Goals as goal

pub returns : goal.returns
returns c =
    let n = c.args.self.now.nodes in
    let f = next_of c.args.self.now.next n in
    sym (option_map_id c.find.result)
    ∙ find_from_yields_List (returns_to f n) _ _ c.find.result c.find.ensures.ran (YieldsList-from_range 0 n n refl (sub-zero n)) (λ x b q k. search (rules, tests))
    ∙ sym (lowest_find f n)
