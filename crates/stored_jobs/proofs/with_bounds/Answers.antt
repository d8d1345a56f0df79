-- `stored_jobs::with_bounds` meets its contract. Assumes nothing.
use mathlib.Core.Path.{◌≡◌, sym, ◌∙◌}
use mathlib.Core.Bool.{true}
use native.Mathlib.Omega.{arith}
use lib.Seq.{length-take-le}
use Rattle.text.proofs.Writing.{then}
use Rattle.stored_jobs.specs.Kept.{relies, kept_of}
use Rattle.stored_jobs.proofs.Kept.{four_bytes}
use Rattle.stored_jobs.proofs.with_bounds.Goals as goal

pub slice_bounds-word-end : goal.slice_bounds-word-end
slice_bounds-word-end c =
    let s = c.args.job.now in
    let relied : relies s ≡ true = sym c.relies.ensures ∙ c.if-relies.true in
    sym (length-take-le _ s (omega (arith, four_bytes s relied)))

pub returns-then-relies : goal.returns-then-relies
unfolding kept_of
returns-then-relies c =
    let relied : relies c.args.job.now ≡ true = sym c.relies.ensures ∙ c.if-relies.true in
    let front = then _ _ c.word.ensures c.word-then-relies.ensures in
    rw (relied, ← c.from.ensures) (then _ _ front c.word-then-relies-2.ensures)

pub returns-else-relies : goal.returns-else-relies
unfolding kept_of
returns-else-relies c = rw (← c.relies.ensures, c.if-relies.false) c.word-else-relies.ensures
