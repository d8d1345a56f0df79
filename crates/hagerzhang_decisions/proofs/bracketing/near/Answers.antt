-- `hagerzhang_decisions::bracketing::near` meets its contract. Assumes nothing.
use mathlib.Core.Path.{refl, ap}
use lib.Ieee.{ne}
use Rattle.std.specs.Prelude.{Some}
use Rattle.floats.proofs.Branches.{if_yes, if_no, and-by-call}
use Rattle.hagerzhang_decisions.proofs.bracketing.near.Goals as goal

pub returns-then-is_near-before : goal.returns-then-is_near-before
unfolding ne
returns-then-is_near-before c =
    if_yes _ _ _ _ (and-by-call _ _ _ _ c.is_near.ensures c.if-is_near-before.true) (ap Some c.secant.ensures)

pub returns : goal.returns
unfolding ne
returns c = if_no _ _ _ _ (and-by-call _ _ _ _ c.is_near.ensures c.if-is_near-before.false) refl
