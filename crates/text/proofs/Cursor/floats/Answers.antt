-- `text::Cursor::floats` meets its contract. Assumes nothing.
use Rattle.std.proofs.Common.{rules}
use Rattle.text.proofs.Writing.{nothing}
use Rattle.text.proofs.Runs.{then-float}
use Rattle.text.proofs.Cursor.floats.Goals as goal

pub loop-x-init : goal.loop-x-init
loop-x-init c = nothing _

pub loop-x-preserved : goal.loop-x-preserved
loop-x-preserved c =
    then-float c.args.xs.now c.loop-x.x-index (search rules) c.loop-x.invariant c.float.ensures
