-- Each return is one line of the answer, by its number.
use mathlib.Core.Path.{◌∙◌}
use native.Mathlib.Omega.{arith}
use Rattle.printing.proofs.ByNumber.{judged_length, class-at, verdict_at}
use Rattle.printing.specs.Left.{lent_in}
use Rattle.printing.proofs.Printed.put_line.Goals as goal

pub returns-in_default : goal.returns-in_default
returns-in_default c = rw (c.in-Ok.is) (c.put_class_at.ensures ∙ class-at c.in-Ok.judged (lent_in c.args.self) c.args.k (omega arith) (omega arith))

pub returns-in_default-2 : goal.returns-in_default-2
returns-in_default-2 c =
    let few = rw (c.in-Ok.is, judged_length c.in-Ok.judged (lent_in c.args.self)) at c.requires in
    rw (c.in-Ok.is) (c.put_verdict.ensures ∙ verdict_at c.in-Ok.judged (lent_in c.args.self) c.args.k (omega (arith, few)))
