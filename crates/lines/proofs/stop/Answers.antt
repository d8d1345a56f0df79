-- `lines::stop` meets its contract. Assumes nothing.
use Rattle.text.proofs.Writing.{then}
use Rattle.lines.proofs.stop.Goals as goal

pub returns : goal.returns
returns c = then _ _ (then _ _ c.verdict.ensures c.float.ensures) c.counts.ensures
