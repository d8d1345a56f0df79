-- `streams::write_out`: what is left to write only gets less, and each write that takes bytes leaves fewer.
use Rattle.std.proofs.Common.{◌≤◌, length}
use Rattle.streams.proofs.write_out.Given as goal

abbrev pub invariant-loop-k : goal.invariant-loop-k
invariant-loop-k g l = length l.rest.now ≤ length l.initial.rest.now

abbrev pub decreases-loop-k : goal.decreases-loop-k
decreases-loop-k g l = length l.rest.now
