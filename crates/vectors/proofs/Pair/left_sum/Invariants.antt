-- The loop of `vectors::Pair::left_sum`: the sum so far, with the products from i on still to add.
use Rattle.std.proofs.Common.{◌≡◌, drop}
use mathlib.Core.List.{foldl}
use Rattle.floats.specs.Arithmetic.{◌⊕◌}
use Rattle.vectors.specs.Vectors.{products, left_sum}
use Rattle.vectors.proofs.Pair.left_sum.Given as goal

abbrev pub invariant-loop-i : goal.invariant-loop-i
invariant-loop-i l = left_sum (products l.xs l.ys) ≡ foldl ◌⊕◌ l.s (drop l.i (products l.xs l.ys))
