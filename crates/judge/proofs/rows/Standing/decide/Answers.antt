-- The verdict from the marks, the search and the theorem that it finds the least header.
use mathlib.Core.Path.{◌≡◌, sym, ap, ◌∙◌}
use Rattle.std.proofs.Common.{rules}
use Rattle.rounds.specs.Rounds.{cycle_bytes}
use Rattle.judge.specs.declared.Verdict.{Verdict}
use Rattle.judge.specs.declared.Verdict.TheVariants.{Loop}
use Rattle.judge.specs.Verdicts.{verdict_of, cycle_in}
use Rattle.judge.specs.Steps.{network_of}
use Rattle.judge.proofs.RowLaws.{free_bytes}
use Rattle.judge.proofs.Decided.{lists_enough, lists_free, lists_loop}
use Rattle.judge.proofs.rows.Standing.decide.Goals as goal

pub invariant_of-classes-clause-enough : goal.invariant_of-classes-clause-enough
invariant_of-classes-clause-enough c = lists_enough (network_of c.args.self.file.now) c.args.listed c.requires.listed c.args.self.width.bits c.args.self.stands.width

pub returns-then-not-any_marked : goal.returns-then-not-any_marked
returns-then-not-any_marked c =
    let net = network_of c.args.self.file.now in
    let v = lists_free net c.args.listed c.requires.listed c.mark_all.new.marks c.mark_all.ensures (sym c.any_marked.ensures ∙ c.if-not-any_marked.true) in
    record {
      verdict = sym v;
      cycle = (search rules) ∙ free_bytes net c.args.cycle.now c.told-cycle ∙ ap (λ (u : Verdict). cycle_bytes (cycle_in net u) c.args.cycle.now) (sym v);
    }

pub returns : goal.returns
returns c =
    let net = network_of c.args.self.file.now in
    let v = lists_loop net c.args.listed c.requires.listed c.mark_all.new.marks c.mark_all.ensures c.args.self.width.bits c.args.self.stands.width
    (sym c.any_marked.ensures ∙ c.if-not-any_marked.false) in
    let r : Loop c.least-header.result ≡ verdict_of net = ap Loop c.least-header.ensures ∙ sym v in
    record {
      verdict = r;
      cycle = c.write_loop.ensures ∙ ap (λ (u : Verdict). cycle_bytes (cycle_in net u) c.args.cycle.now) r;
    }
