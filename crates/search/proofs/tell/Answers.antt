-- `search::tell` meets its contract. Assumes nothing.
use Rattle.std.proofs.Common.{arith}
use Rattle.play.proofs.Ending.{plays-on, less-to-tell}
use Rattle.search.proofs.tell.Goals as goal

pub loop-left-smaller : goal.loop-left-smaller
loop-left-smaller g c =
    less-to-tell c.args.c 512 _ _ _ c.loop-left.invariant c.in-Some.is c.play-left.ensures.left (omega arith)

pub loop-left-preserved : goal.loop-left-preserved
loop-left-preserved g c =
    plays-on c.args.c 512 _ _ _ c.loop-left.invariant c.in-Some.is c.play-left.ensures.left
