-- `text::Cursor::floats_line` meets its contract. Assumes nothing.
use Rattle.text.proofs.Writing.{then}
use Rattle.text.proofs.Cursor.floats_line.Goals as goal

pub returns : goal.returns
returns c = then _ _ (then _ _ c.word.ensures c.floats.ensures) c.byte.ensures
