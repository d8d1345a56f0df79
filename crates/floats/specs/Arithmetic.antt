-- f64's operators as 01 writes its formulas: "every operation rounded once, grouped as written here". Each is the
-- language's own operator at binary64, rounded to the nearest float, ties to even, under a sign that reads like
-- arithmetic. A comparison is a test: where a NaN stands it is false, and -0.0 and +0.0 are equal to it. `finite` is
-- the library's (lib.Ieee.Scale): false at a NaN and at both infinities, true at every other value.
use Rattle.std.specs.Prelude.{Bool}
use lib.Ieee.{Float, binary64, of_bits, add, sub, mul, div, lt, le, eq}

infixl 70 ◌⊗◌ ◌⊘◌
infixl 60 ◌⊕◌ ◌⊖◌
infix 40 ◌<ᶠ◌ ◌≤ᶠ◌ ◌>ᶠ◌ ◌≥ᶠ◌ ◌=ᶠ◌
abbrev pub ◌⊕◌ : Float → Float → Float
x ⊕ y = add binary64 x y

abbrev pub ◌⊖◌ : Float → Float → Float
x ⊖ y = sub binary64 x y

abbrev pub ◌⊗◌ : Float → Float → Float
x ⊗ y = mul binary64 x y

abbrev pub ◌⊘◌ : Float → Float → Float
x ⊘ y = div binary64 x y

abbrev pub ◌<ᶠ◌ : Float → Float → Bool
x <ᶠ y = lt x y

abbrev pub ◌≤ᶠ◌ : Float → Float → Bool
x ≤ᶠ y = le x y

abbrev pub ◌>ᶠ◌ : Float → Float → Bool
x >ᶠ y = lt y x

abbrev pub ◌≥ᶠ◌ : Float → Float → Bool
x ≥ᶠ y = le y x

abbrev pub ◌=ᶠ◌ : Float → Float → Bool
x =ᶠ y = eq x y

-- the literals of 01's rules: 0.0, which is +0, and 0.5, 1.0 and 2.0; and 5.0, of 02's request 3
abbrev pub 0ᶠ : Float
0ᶠ = of_bits binary64 0

abbrev pub ½ᶠ : Float
½ᶠ = of_bits binary64 0x3fe0_0000_0000_0000

abbrev pub 1ᶠ : Float
1ᶠ = of_bits binary64 0x3ff0_0000_0000_0000

abbrev pub 2ᶠ : Float
2ᶠ = of_bits binary64 0x4000_0000_0000_0000

abbrev pub 5ᶠ : Float
5ᶠ = of_bits binary64 0x4014_0000_0000_0000
