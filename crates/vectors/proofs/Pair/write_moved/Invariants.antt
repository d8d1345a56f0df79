-- The loop of `vectors::Pair::write_moved`: the first i elements are the point's, and the others are what the buffer
-- held.
use Rattle.std.proofs.Common.{◌≡◌, ◌++◌, take, drop}
use Rattle.vectors.specs.Vectors.{moved}
use Rattle.vectors.proofs.Pair.write_moved.Given as goal

abbrev pub invariant-loop-i : goal.invariant-loop-i
invariant-loop-i l = l.out ≡ take l.i (moved l.self.xs.now l.alpha l.self.ys.now) ++ drop l.i l.initial.out
