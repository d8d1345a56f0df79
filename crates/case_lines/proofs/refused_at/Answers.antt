-- `case_lines::refused_at` meets its contract. Assumes nothing.
use mathlib.Core.List.{append_assoc}
use Rattle.text.proofs.Writing.{then}
use Rattle.case_lines.proofs.refused_at.Goals as goal

pub returns : goal.returns
returns c =
    rw (append_assoc, ← c.from.ensures) (then _ _ (then _ _ c.word.ensures c.decimal.ensures) c.number_line.ensures)
