-- `least::Under::some` meets its contract: a marked class with a header counted, of the counts that stand there.
use mathlib.Core.Path.{ap, ◌∙◌}
use native.Mathlib.Omega.{arith}
use Rattle.classes.specs.Steps.{rows}
use Rattle.least.specs.Steps.{some_of}
use Rattle.least.proofs.Turns.{some_rows}
use Rattle.least.proofs.Under.some.Goals as goal

pub returns : goal.returns
returns c =
    let cs = c.args.self.classes.listed.cares.now in
    let vs = c.args.self.classes.listed.values.now in
    let marks = c.args.self.classes.marks.now in
    c.some_marked.ensures
    ∙ some_rows cs vs c.count.new.counts marks 0 (omega arith)
    ∙ ap (λ n. some_of marks (rows cs vs c.count.new.counts 0 n)) c.args.self.classes.paired
    ∙ ap (some_of marks) c.count.ensures
