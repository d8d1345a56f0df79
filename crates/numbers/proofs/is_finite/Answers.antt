-- `numbers::is_finite` meets its contract: what equals itself is read back from its bits, and a NaN is not finite.
-- Assumes nothing.
use mathlib.Core.Path.{sym, ap, ◌∙◌, subst}
use lib.Dec.{T}
use lib.Ieee.{binary64}
use lib.Ieee.Bits.{of_bits-to_bits}
use lib.Ieee.Scale.{finite}
use Rattle.numbers.proofs.Bits.{unlike-itself}
use Rattle.numbers.proofs.is_finite.Goals as goal

pub returns-then-x : goal.returns-then-x
returns-then-x c =
    c.finite_bits.ensures
    ∙ ap finite (of_bits-to_bits binary64 c.args.x (subst T (sym c.well_formed.0.1) tt))

pub returns-else-x : goal.returns-else-x
returns-else-x c =
    let e = unlike-itself c.args.x c.if-x.false in
    rw c.if-x.false (sym (ap finite e))
