-- `search::tell` ends: the rules match what is left of the play, and each turn leaves less to tell.
use Rattle.play.proofs.Ending.{to_tell, Playable}
use Rattle.search.proofs.tell.Given as goal

abbrev pub invariant-loop-left : goal.invariant-loop-left
invariant-loop-left g l = Playable l.c l.left

abbrev pub decreases-loop-left : goal.decreases-loop-left
decreases-loop-left g l = to_tell l.c l.left
