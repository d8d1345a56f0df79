-- `bodies::floats` meets its contract: what was read, and the floats of the rest, are all of them. Assumes nothing.
use borrow.Author.Rules.{rules}
use Rattle.bodies.proofs.Runs.{one_more}
use Rattle.bodies.proofs.floats.Goals as goal

pub loop-x-preserved : goal.loop-x-preserved
loop-x-preserved c =
    let l = c.loop-x in
    let next = c.from-rest-in-loop-x.ensures in
    one_more _ l.v l.x-index _ _ _ _ c.float.ensures next (search rules) (search rules) l.invariant
