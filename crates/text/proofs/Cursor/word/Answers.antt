-- `text::Cursor::word` meets its contract. Assumes nothing.
use Rattle.std.proofs.Common.{rules, refl, arith}
use Rattle.text.proofs.Writing.{nothing, then-byte, copied}
use Rattle.text.proofs.Cursor.word.Goals as goal

pub loop-b-init : goal.loop-b-init
loop-b-init c = nothing _

pub loop-b-preserved : goal.loop-b-preserved
loop-b-preserved c =
    then-byte c.args.w.now c.loop-b.b-index (search rules) c.loop-b.invariant c.byte.ensures

pub returns-then-n-self : goal.returns-then-n-self
returns-then-n-self c = record {
  same_buffer = refl;
  written = copied _ _ c.copy_from_slice.ensures.after (omega arith) (omega arith);
}
