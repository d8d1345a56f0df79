-- What was read, and the floats of the rest, are all of them.
use mathlib.Core.Path.{◌≡◌}
use mathlib.Core.List.{◌++◌}
use Prim.Native.Nat.{◌-◌}
use lib.ListN.{length, take, drop}
use Rattle.bodies.specs.Bodies.{floats_of}
use Rattle.bodies.proofs.floats.Given as goal

abbrev pub invariant-loop-x : goal.invariant-loop-x
invariant-loop-x l =
    let n = length l.initial.v in
    floats_of n (drop l.at l.body) ≡ take l.x-index l.v ++ floats_of (n - l.x-index) l.rest
