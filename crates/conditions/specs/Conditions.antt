-- 01, "Conditions", and of "Parameters" the conditions' constants. f0 and s0 are cost and slope at the start; f and s
-- at the step t.
use Rattle.std.specs.Prelude.{Bool, true, false, cond, not, ◌&&◌, List, [], ◌∷◌, Float}
use Rattle.std.specs.Float.Ieee.Scale.{finite}
use Rattle.floats.specs.Arithmetic.{◌⊕◌, ◌⊖◌, ◌⊗◌, ◌<ᶠ◌, ◌≤ᶠ◌, ◌≥ᶠ◌, 0ᶠ, ½ᶠ, 1ᶠ}
use Rattle.refusals.specs.Results.{Result, Row, refuse◌else◌}
use Rattle.numbers.specs.Numbers.{both_finite, abs_of}
use Rattle.conditions.specs.declared.Condition.{Condition}
use Rattle.conditions.specs.declared.Condition.TheVariants.{Armijo, Goldstein, Wolfe, StrongWolfe}

-- ---- 01, "Parameters"

-- "The Rust lets NaN through all of these tests; we refuse it (2)."
abbrev pub constants_finite : Condition → Bool
constants_finite (Armijo c) = finite c
constants_finite (Goldstein c) = finite c
constants_finite (Wolfe c1 c2) = both_finite c1 c2
constants_finite (StrongWolfe c1 c2) = both_finite c1 c2

-- "Armijo c in (0, 1); Goldstein c in (0, 0.5); Wolfe and strong Wolfe 0 < c1 < c2 < 1."
abbrev pub in_range : Condition → Bool
in_range (Armijo c) = 0ᶠ <ᶠ c && c <ᶠ 1ᶠ
in_range (Goldstein c) = 0ᶠ <ᶠ c && c <ᶠ ½ᶠ
in_range (Wolfe c1 c2) = 0ᶠ <ᶠ c1 && c1 <ᶠ c2 && c2 <ᶠ 1ᶠ
in_range (StrongWolfe c1 c2) = 0ᶠ <ᶠ c1 && c1 <ᶠ c2 && c2 <ᶠ 1ᶠ

-- 01, the table, of a condition by itself. 2: "a supplied number is NaN or infinite"; 3: "a parameter .. is outside its
-- range". (A search's start looks at all its numbers first, and then at all ranges.)
abbrev pub condition_rows : Condition → List Row
condition_rows C = (2, not (constants_finite C)) ∷ (3, not (in_range C)) ∷ []

abbrev pub checked_of : Condition → Result Condition
checked_of C = refuse (condition_rows C) else C

-- ---- 01, "Conditions"

abbrev pub holds_of : Condition → Float → Float → Float → Float → Float → Bool
holds_of (Armijo c) f0 s0 t f s = f ≤ᶠ f0 ⊕ (c ⊗ t) ⊗ s0
holds_of (Wolfe c1 c2) f0 s0 t f s = (f ≤ᶠ f0 ⊕ (c1 ⊗ t) ⊗ s0) && (s ≥ᶠ c2 ⊗ s0)
holds_of (StrongWolfe c1 c2) f0 s0 t f s = (f ≤ᶠ f0 ⊕ (c1 ⊗ t) ⊗ s0) && (abs_of s ≤ᶠ c2 ⊗ abs_of s0)
holds_of (Goldstein c) f0 s0 t f s =
    let m = t ⊗ s0 in
    (f0 ⊕ (1ᶠ ⊖ c) ⊗ m ≤ᶠ f) && (f ≤ᶠ f0 ⊕ c ⊗ m)

-- "Only the Wolfe pair needs a slope at t."
abbrev pub needs_slope : Condition → Bool
needs_slope (Armijo c) = false
needs_slope (Goldstein c) = false
needs_slope (Wolfe c1 c2) = true
needs_slope (StrongWolfe c1 c2) = true

-- "For the other two the slope supplied is ignored, NaN included .. An answer counts as finite when the numbers its
-- condition needs are finite."
abbrev pub answer_finite : Condition → Float → Float → Bool
answer_finite C f s = cond (needs_slope C) (both_finite f s) (finite f)
