-- `fields::head` meets its contract. Assumes nothing.
use mathlib.Core.Path.{◌∙◌}
use Rattle.fields.proofs.Heads.{short_cut, tagged}
use Rattle.fields.proofs.head.Goals as goal

pub returns-in_err-front-clause-value : goal.returns-in_err-front-clause-value
returns-in_err-front-clause-value c = c.from_residual.ensures ∙ short_cut _ c.in_err-front.ensures.cases

pub returns-clause-value : goal.returns-clause-value
returns-clause-value c =
    let (front, rest, long) = c.in_ok-front.ensures.cases in
    c.then_some.ensures ∙ tagged _ _ _ _ front rest long c.pair-size.ensures.value
