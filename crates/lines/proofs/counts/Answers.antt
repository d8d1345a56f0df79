-- `lines::counts` meets its contract. Assumes nothing.
use mathlib.Core.List.{append_assoc}
use Rattle.text.proofs.Writing.{then}
use Rattle.lines.proofs.counts.Goals as goal

pub returns : goal.returns
returns c =
    let first = rw c.from.ensures at c.decimal.ensures in
    let second = rw c.from-2.ensures at c.number_line.ensures in
    rw (append_assoc, append_assoc) (then _ _ (then _ _ c.word.ensures first) second)
