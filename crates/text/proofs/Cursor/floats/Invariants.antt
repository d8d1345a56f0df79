-- `text::Cursor::floats`: what is written is the first floats.
use Rattle.std.proofs.Common.{take}
use Rattle.text.specs.Text.{Writes}
use Rattle.text.specs.Figures.{floats_text}
use Rattle.text.proofs.Cursor.floats.Given as goal

abbrev pub invariant-loop-x : goal.invariant-loop-x
invariant-loop-x l = Writes l.initial.self (floats_text (take l.x-index l.xs)) l.self
