-- `numbers::finite_bits` meets its contract: it tests the exponent bits. Assumes nothing.
use mathlib.Core.Path.{sym}
use Rattle.numbers.proofs.Bits.{by-exponent-bits}
use Rattle.numbers.proofs.finite_bits.Goals as goal

pub returns : goal.returns
returns c = sym (by-exponent-bits c.args.w)
