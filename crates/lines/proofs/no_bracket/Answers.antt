-- `lines::no_bracket` meets its contract. Assumes nothing.
use Rattle.text.proofs.Writing.{then}
use Rattle.lines.proofs.no_bracket.Goals as goal

pub returns : goal.returns
returns c = then _ _ c.word.ensures c.counts.ensures
