-- `curves::numbered` meets its contract: the code's rows are the table. Assumes nothing.
use Rattle.std.proofs.Common.{[], ◌-◌, ◌≤◌, refl, ap, ◌∙◌, arith}
use borrow.Author.Tests.{le-leb}
use Rattle.refusals.specs.Results.{value}
use Rattle.curves.specs.declared.TheConstants.{TABLE}
use Rattle.curves.proofs.Table.{curve-of-row, code-rows}
use Rattle.curves.proofs.numbered.Goals as goal

pub returns-in-1-to-8 : goal.returns-in-1-to-8
returns-in-1-to-8 c =
    let n = c.args.n in
    let low : 1 ≤ n = omega arith in
    let high : n ≤ 8 = omega arith in
    rw (le-leb _ _ low, le-leb _ _ high)
    (ap value (c.from.ensures ∙ curve-of-row TABLE (n - 1) [] code-rows refl (omega arith)))
