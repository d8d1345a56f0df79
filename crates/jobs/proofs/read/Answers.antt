-- `jobs::read` meets its contract. Assumes nothing.
use mathlib.Core.Path.{◌≡◌}
use Rattle.std.proofs.Common.{rules}
use Rattle.std.specs.Prelude.{None, Some, Err}
use Rattle.jobs.specs.Reader.{found}
use Rattle.jobs.proofs.InOrder.{no-curve, whole}
use Rattle.jobs.proofs.read.Goals as goal

pub returns-in_err-curve : goal.returns-in_err-curve
returns-in_err-curve c =
    let none : None ≡ found 1 1 c.args.job.now = search rules in
    let err : c.from_residual.result ≡ Err c.in_err-curve.field-0.0 = search rules in
    rw err (no-curve c.args.job.now none)

pub returns : goal.returns
returns c =
    let there : Some c.in_ok-curve.curve.now ≡ found 1 1 c.args.job.now = search rules in
    whole _ _ _ _ _ _ _ _ there c.field.ensures.rest c.field-2.ensures.rest c.field-3.ensures.rest
    c.field-4.ensures.rest c.field-5.ensures.rest c.field-6.ensures.rest (search rules) _ (search rules) _
    (search rules)
