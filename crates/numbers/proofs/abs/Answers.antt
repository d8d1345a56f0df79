-- `numbers::abs` meets its contract: a value that is no NaN is read back from its bits, and a NaN stays. Assumes
-- nothing.
use mathlib.Core.Path.{sym, ap, ◌∙◌, subst}
use lib.Dec.{T}
use lib.Ieee.{binary64, to_bits}
use lib.Ieee.Bits.{of_bits-to_bits, nan_bits_is}
use Rattle.numbers.specs.Numbers.{abs_of}
use Rattle.numbers.proofs.Bits.{equals_itself, unlike-itself, abs-clears, abs-no-nan}
use Rattle.numbers.proofs.abs.Goals as goal

pub returns-then-x : goal.returns-then-x
returns-then-x c =
    let x = c.args.x in
    abs-clears (to_bits binary64 x) ∙ ap abs_of (of_bits-to_bits binary64 x (subst T (sym c.well_formed.0.1) tt))

pub float_from_bits-result : goal.float_from_bits-result
float_from_bits-result c =
    let x = c.args.x in
    rw (nan_bits_is, returns-then-x c) (abs-no-nan x (equals_itself x c.if-x.true))

pub returns-else-x : goal.returns-else-x
returns-else-x c =
    let e = unlike-itself c.args.x c.if-x.false in
    e ∙ sym (ap abs_of e)
