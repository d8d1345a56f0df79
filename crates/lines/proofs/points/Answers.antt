-- `lines::points` meets its contract. Assumes nothing.
use Rattle.text.proofs.Writing.{then}
use Rattle.lines.proofs.points.Goals as goal

pub returns : goal.returns
returns c = then _ _ c.floats_line.ensures c.floats_line-2.ensures
