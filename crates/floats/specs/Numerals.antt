-- Small numbers as 01's sums write them: whole numbers, and quarters of them.
use Rattle.std.specs.Prelude.{ℕ, pos, Float}
use Rattle.std.specs.Float.{binary64}
use Rattle.std.specs.Float.Ieee.{of_int, neg, div}

abbrev pub whole : ℕ → Float
whole n = of_int binary64 (pos n)

abbrev pub quarters : ℕ → Float
quarters n = div binary64 (whole n) (whole 4)

abbrev pub minus : Float → Float
minus x = neg x
