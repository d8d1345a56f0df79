-- The loop of `vectors::Pair::first_overflow`: the sum is that of the first i products, and those of fewer are finite.
use Rattle.std.proofs.Common.{◌≡◌, ℕ, ◌<◌, true, take}
use lib.Ieee.Scale.{finite}
use Rattle.vectors.specs.Vectors.{products, left_sum}
use Rattle.vectors.proofs.Pair.first_overflow.Given as goal

abbrev pub invariant-loop-i : goal.invariant-loop-i
invariant-loop-i l =
    (l.sum ≡ left_sum (take l.i (products l.xs l.ys)))
    × ((k : ℕ) → k < l.i → 0 < k → finite (left_sum (take k (products l.xs l.ys))) ≡ true)
