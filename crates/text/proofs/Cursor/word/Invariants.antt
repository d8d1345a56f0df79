-- `text::Cursor::word`: what is written is the first bytes of the word.
use Rattle.std.proofs.Common.{take}
use Rattle.text.specs.Text.{Writes}
use Rattle.text.proofs.Cursor.word.Given as goal

abbrev pub invariant-loop-b : goal.invariant-loop-b
invariant-loop-b l = Writes l.initial.self (take l.b-index l.w) l.self
