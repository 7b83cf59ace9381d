-- The working arrays are filled. Between two records each holds its notes of the records taken in (`Filling`).
use mathlib.Core.Path.{sym, ap, ◌∙◌}
use Rattle.std.specs.Prelude.{Ok}
use Rattle.std.proofs.Common.{rules}
use Rattle.std.proofs.lemmas.Result.{err_from_is_err_and}
use Rattle.reading.proofs.Progress.{known_refused, known_ended, less_opened, less_begun, less_ruled}
use Rattle.reading.proofs.Filling.{filling_starts, filling_opened, filling_begun, filling_ruled, filled_refused, filled_ended, rule_place}
use Rattle.reading.proofs.fill.Goals as goal

pub loop-next-init : goal.loop-next-init
loop-next-init c = filling_starts _ _ (record { patterns = search rules; actions = search rules; marks = search rules })

pub returns-in_err-next : goal.returns-in_err-next
returns-in_err-next c =
    let e = sym c.in_err-next.was ∙ c.step_at.ensures in
    let p = err_from_is_err_and c.from_residual.result c.from_residual.ensures.1 in
    let k = filled_refused _ _ _ _ c.loop-next.invariant e in
    record {
      answer = rw (p.1, p.2) (known_refused _ _ _ c.loop-next.invariant.known e);
      patterns = k.patterns;
      actions = k.actions;
      marks = k.marks;
    }

pub loop-next-smaller-in-Opened : goal.loop-next-smaller-in-Opened
loop-next-smaller-in-Opened c =
    less_opened _ _ _ c.loop-next.invariant.known (ap Ok (sym c.in-Opened.is) ∙ sym c.in_ok-next.was ∙ c.step_at.ensures)

pub loop-next-preserved-in-Opened : goal.loop-next-preserved-in-Opened
loop-next-preserved-in-Opened c =
    filling_opened _ _ _ _ c.loop-next.invariant (ap Ok (sym c.in-Opened.is) ∙ sym c.in_ok-next.was ∙ c.step_at.ensures)

pub loop-next-smaller-in-Begun : goal.loop-next-smaller-in-Begun
loop-next-smaller-in-Begun c =
    less_begun _ _ _ c.loop-next.invariant.known (ap Ok (sym c.in-Begun.is) ∙ sym c.in_ok-next.was ∙ c.step_at.ensures)

pub loop-next-preserved-in-Begun : goal.loop-next-preserved-in-Begun
loop-next-preserved-in-Begun c =
    rw (c.from.ensures, c.mark.ensures)
    (filling_begun _ _ _ _ c.loop-next.invariant (ap Ok (sym c.in-Begun.is) ∙ sym c.in_ok-next.was ∙ c.step_at.ensures))

pub bounds-arrays-st : goal.bounds-arrays-st
bounds-arrays-st c = rule_place _ _ _ _ c.loop-next.invariant (ap Ok (sym c.in-Ruled.is) ∙ sym c.in_ok-next.was ∙ c.step_at.ensures)

pub bounds-arrays-st-in-Ruled : goal.bounds-arrays-st-in-Ruled
bounds-arrays-st-in-Ruled c = rule_place _ _ _ _ c.loop-next.invariant (ap Ok (sym c.in-Ruled.is) ∙ sym c.in_ok-next.was ∙ c.step_at.ensures)

pub loop-next-smaller : goal.loop-next-smaller
loop-next-smaller c =
    less_ruled _ _ _ c.loop-next.invariant.known (ap Ok (sym c.in-Ruled.is) ∙ sym c.in_ok-next.was ∙ c.step_at.ensures)

pub loop-next-preserved : goal.loop-next-preserved
loop-next-preserved c =
    filling_ruled _ _ _ _ c.loop-next.invariant (ap Ok (sym c.in-Ruled.is) ∙ sym c.in_ok-next.was ∙ c.step_at.ensures)

pub returns-in-Ended : goal.returns-in-Ended
returns-in-Ended c =
    let e = ap Ok (sym c.in-Ended.is) ∙ sym c.in_ok-next.was ∙ c.step_at.ensures in
    let k = filled_ended _ _ _ _ c.loop-next.invariant e in
    record {
      answer = ap Ok c.figures.ensures ∙ known_ended _ _ _ c.loop-next.invariant.known e;
      patterns = k.patterns;
      actions = k.actions;
      marks = rw (c.from-in-Ended.ensures, c.mark-in-Ended.ensures) k.marks;
    }
