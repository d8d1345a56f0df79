-- `jobs::begun_by` meets its contract. Assumes nothing.
use mathlib.Core.Path.{◌∙◌, sym, ap}
use Rattle.refusals.specs.Refusals.{by_number}
use Rattle.jobs.proofs.Refusals.{found-curve}
use Rattle.jobs.proofs.begun_by.Goals as goal

pub returns : goal.returns
returns c =
    let fine = sym c.options_finite.ensures ∙ c.if-not-options_finite.false in
    let known = ap by_number (sym c.in_ok-c.was) ∙ c.numbered.ensures in
    c.over_curve.ensures ∙ found-curve c.args.j fine _ known
