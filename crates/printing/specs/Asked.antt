-- What a printed answer and its lists have to be. Serves the proofs.
use Rattle.std.specs.Prelude.{◌≤◌, ◌≡◌, Result, length}
use Rattle.std.specs.Result.{ForOk}
use Rattle.reading.specs.declared.refusals.Refusal.{Refusal}
use Rattle.judge.specs.declared.Judged.{Judged}
use Rattle.judge.specs.Judging.{Lent}

-- Paper 01's table of quantities: a width of at most 32, and at most 512 classes.
abbrev pub Bounded : Result Judged Refusal → Type 0
Bounded answer = ForOk answer (λ judged. (judged.figures.width ≤ 32) × (judged.classes ≤ 512))

-- Lists as long as Judge asks, and 64 bytes for the cycle.
abbrev pub Lengths : Lent → Type 0
Lengths l = (1024 ≤ length l.cares) × (1024 ≤ length l.values) × (1024 ≤ length l.sizes) × (length l.cycle ≡ 64)
