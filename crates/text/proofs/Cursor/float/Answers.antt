-- `text::Cursor::float` meets its contract. Assumes nothing.
use Rattle.text.proofs.Writing.{then}
use Rattle.text.proofs.Cursor.float.Goals as goal

pub returns : goal.returns
returns c = then _ _ c.byte.ensures (rw c.bits_of.ensures at c.hex.ensures)
