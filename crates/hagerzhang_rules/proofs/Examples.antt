-- The words `standing` and `had` at the numbers of M6 and M7: on (a, b) the trial c = (2, 3, -1) leads to U3 between a
-- and 2, and its answers (0.5, -1) at 1 and (1.5, -1) at 1.5 move first the low end and then the high one (`in-U3`).
-- And in a start that grows, from the same cost and slope at 0: a trial (1, 0.5, -1) is too short, behind it (5, 3, 1)
-- comes to the bracket from 1 to 5, and (5, 3, -1) leads to U3 from 0 to 5 (`in_start`). Assumes nothing.
use mathlib.Core.Path.{◌≡◌, refl}
use mathlib.Core.List.{[], ◌∷◌}
use Rattle.std.specs.Prelude.{Some, None}
use lib.Ieee.{add, sub, mul, le, lt, eq, of_bits, of_int, neg, div}
use Rattle.floats.specs.Numerals.{whole, quarters, minus}
use Rattle.hagerzhang_rules.specs.declared.Point.{Point}
use Rattle.hagerzhang_rules.specs.declared.Way.TheVariants.{Growing}
use Rattle.hagerzhang_rules.specs.declared.Setup.{Setup}
use Rattle.hagerzhang_rules.specs.declared.Came.TheVariants.{To, On}
use Rattle.hagerzhang_rules.specs.Parameters.{default_options, options_with}
use Rattle.hagerzhang_rules.specs.Rules.{point, bracket, update_of, narrowed_of, zero_of, grown_of, Report, nothing_yet}
use Rattle.hagerzhang_rules.specs.Rules.{last}
use Rattle.hagerzhang_rules.specs.Iterations.{standing, had}
use Rattle.hagerzhang_rules.specs.MarkedSums.{setup, a, ab, ½, steep}

abbrev first : Point
first = point (whole 1) ½ (minus (whole 1))

abbrev second : Point
second = point (quarters 6) (quarters 6) (minus (whole 1))

-- (a, b) is reported
abbrev on-ab : Report
on-ab = last (record { bracket = ab; best = a; iterations = 0 })

-- newest first
pub record InU3 : Type 0 where
  pub began : standing (setup 2) on-ab (steep ∷ []) ≡ Some (On a (whole 2))
  pub low-moved : standing (setup 2) on-ab (first ∷ steep ∷ []) ≡ Some (On first (whole 2))
  pub high-moved : standing (setup 2) on-ab (second ∷ first ∷ steep ∷ []) ≡ Some (On first (quarters 6))
  pub counted : had (setup 2) on-ab (second ∷ first ∷ steep ∷ []) ≡ 2

pub in-U3 : InU3
unfolding standing had update_of narrowed_of add sub mul div neg le lt eq of_bits of_int
in-U3 = record { began = refl; low-moved = refl; high-moved = refl; counted = refl }

-- ---- a start that grows
abbrev growing : Setup
growing = record {
  options = options_with default_options (whole 0) (Growing 2) (whole 1) 2 100;
  f0 = whole 1;
  s0 = minus (whole 2);
  level = whole 1;
}

abbrev short : Point
short = point (whole 1) ½ (minus (whole 1))

abbrev up : Point
up = point (whole 5) (whole 3) (whole 1)

abbrev down : Point
down = point (whole 5) (whole 3) (minus (whole 1))

pub record InStart : Type 0 where
  pub too_short : standing growing nothing_yet (short ∷ []) ≡ None
  pub bracketed : standing growing nothing_yet (up ∷ short ∷ []) ≡ Some (To (bracket short up))
  pub steep-from-zero : standing growing nothing_yet (down ∷ short ∷ []) ≡ Some (On (zero_of growing) (whole 5))
  pub counted : had growing nothing_yet (first ∷ down ∷ short ∷ []) ≡ 1

pub in_start : InStart
unfolding standing had grown_of narrowed_of add sub mul le lt eq of_bits of_int neg div
in_start = record { too_short = refl; bracketed = refl; steep-from-zero = refl; counted = refl }
