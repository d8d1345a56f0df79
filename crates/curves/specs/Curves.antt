-- 01, "Sample curves and jobs": the eight curves.
use Rattle.std.specs.Prelude.{ℕ, ◌+◌, ◌-◌, ◌*◌, Bool, not, ◌&&◌, List, [], ◌∷◌, leb, ℤ, pos, negsuc, get_or, Float}
use Rattle.std.specs.Float.{binary64}
use Rattle.std.specs.Float.Ieee.{of_bits, of_int}
use Rattle.floats.specs.Arithmetic.{◌⊕◌, ◌⊗◌, 2ᶠ}
use Rattle.refusals.specs.Results.{Result, Row, refuse◌else◌}
use Rattle.curves.specs.declared.Curve.{Curve}

-- -1, -2, -3, ..
abbrev -1 : ℤ
-1 = negsuc 0

abbrev -2 : ℤ
-2 = negsuc 1

abbrev -3 : ℤ
-3 = negsuc 2

abbrev -4 : ℤ
-4 = negsuc 3

abbrev -6 : ℤ
-6 = negsuc 5

abbrev -8 : ℤ
-8 = negsuc 7

-- "1: 1,-2,1,0,0. 2: 9,-6,1,0,0. 3: 0,-1,0,0,0. 4: 0,0,0,0,0.
-- 5: 0,-8,0,0,1. 6: 2,-3,0,1,0. 7: 5,-4,-2,0,1. 8: 0,1,-1,0,0."
unfoldable pub table : List ℤ
table =
    pos 1 ∷ -2 ∷ pos 1 ∷ pos 0 ∷ pos 0 ∷
    pos 9 ∷ -6 ∷ pos 1 ∷ pos 0 ∷ pos 0 ∷
    pos 0 ∷ -1 ∷ pos 0 ∷ pos 0 ∷ pos 0 ∷
    pos 0 ∷ pos 0 ∷ pos 0 ∷ pos 0 ∷ pos 0 ∷
    pos 0 ∷ -8 ∷ pos 0 ∷ pos 0 ∷ pos 1 ∷
    pos 2 ∷ -3 ∷ pos 0 ∷ pos 1 ∷ pos 0 ∷
    pos 5 ∷ -4 ∷ -2 ∷ pos 0 ∷ pos 1 ∷
    pos 0 ∷ pos 1 ∷ -1 ∷ pos 0 ∷ pos 0 ∷ []

abbrev pub entry_of : ℕ → Float
entry_of i = of_int binary64 (get_or table i (pos 0))

-- a row of five is a curve
abbrev pub curve_of_row : List ℤ → Curve
curve_of_row r = record {
  c0 = of_int binary64 (get_or r 0 (pos 0));
  c1 = of_int binary64 (get_or r 1 (pos 0));
  c2 = of_int binary64 (get_or r 2 (pos 0));
  c3 = of_int binary64 (get_or r 3 (pos 0));
  c4 = of_int binary64 (get_or r 4 (pos 0));
}

-- the curve whose c0 is the table's entry i
abbrev pub curve_at : ℕ → Curve
curve_at i = record {
  c0 = entry_of i;
  c1 = entry_of (i + 1);
  c2 = entry_of (i + 2);
  c3 = entry_of (i + 3);
  c4 = entry_of (i + 4);
}

-- "Coefficients c0..c4 of eight curves, a fixed table"
abbrev pub count : ℕ
count = 8

abbrev pub has_number : ℕ → Bool
has_number n = leb 1 n && leb n count

-- the curve with the number n: each has five coefficients in the table, in the numbers' order
abbrev pub numbered_at : ℕ → Curve
numbered_at n = curve_at ((n - 1) * 5)

-- 01, the table, of a curve number. 3: "a parameter, B, N or curve number is outside its range"
abbrev pub curve_rows : ℕ → List Row
curve_rows n = (3, not (has_number n)) ∷ []

abbrev pub numbered_of : ℕ → Result Curve
numbered_of n = refuse (curve_rows n) else numbered_at n

-- "Value: (((c4*x+c3)*x+c2)*x+c1)*x+c0."
abbrev pub value_of : Curve → Float → Float
value_of c x = (((c.c4 ⊗ x ⊕ c.c3) ⊗ x ⊕ c.c2) ⊗ x ⊕ c.c1) ⊗ x ⊕ c.c0

-- the literals 3.0 and 4.0
abbrev pub 3ᶠ : Float
3ᶠ = of_bits binary64 0x4008_0000_0000_0000

abbrev pub 4ᶠ : Float
4ᶠ = of_bits binary64 0x4010_0000_0000_0000

-- "Slope: ((4c4*x+3c3)*x+2c2)*x+c1."
abbrev pub slope_of : Curve → Float → Float
slope_of c x = ((4ᶠ ⊗ c.c4 ⊗ x ⊕ 3ᶠ ⊗ c.c3) ⊗ x ⊕ 2ᶠ ⊗ c.c2) ⊗ x ⊕ c.c1
