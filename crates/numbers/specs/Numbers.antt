-- 01, "finite test, absolute value" (the first row of its modules; "Number rules"). A finite number is neither a NaN
-- nor an infinity: `finite` of lib.Ieee.Scale, which is false at `nan` and `inf` and true at every other float.
use Rattle.std.specs.Prelude.{◌≡◌, ℕ, ◌/◌, ◌%◌, ◌^◌, Bool, false, ◌&&◌, ltb}
use lib.Ieee.{Float, nan, inf, fin, binary64, of_bits}
use Rattle.std.specs.Float.Ieee.Scale.{finite}

abbrev pub both_finite : Float → Float → Bool
both_finite x y = finite x && finite y

-- 02, request 5: "It shall look at the exponent bits and do no float operation." Of 64 bits they are the eleven next
-- below the sign bit. Which operations a body does, no promise can say: tests/finite.py looks at its machine code.
abbrev pub exponent_bits : ℕ → ℕ
exponent_bits w = w % 2 ^ 63 / 2 ^ 52

-- "No answer changes": the promises say `finite`, as they did. This is why the bits are enough: the float that 64 bits
-- give is finite exactly where its exponent bits are below 2047, which is 7FF, eleven ones.
abbrev pub ByExponentBits : Type 0
ByExponentBits = (w : ℕ) → finite (of_bits binary64 w) ≡ ltb (exponent_bits w) 2047

-- 01: "Absolute value clears the sign bit." A NaN stays a NaN, and -0.0 gives +0.0.
abbrev pub abs_of : Float → Float
abs_of nan = nan
abs_of (inf s) = inf false
abs_of (fin s m e) = fin false m e
