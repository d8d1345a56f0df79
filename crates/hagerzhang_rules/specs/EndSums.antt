-- 02, request 4, in numbers: sums of an iteration one of whose ends is S1's own step, or within EPS of it, worked out
-- by hand from the request's words, as 01 has its marked sums. A sum tells S1's step, what the update with its answer
-- comes to, what S4 is given, and L2's step where it follows. The last one is M8 by the former text. Proved as a single
-- claim, `end-sums` (proofs/EndSums.antt).
use Rattle.std.specs.Prelude.{◌≡◌, true, [], ◌∷◌, Float, Option, None, Some}
use Rattle.std.specs.Float.{binary64, nan}
use Rattle.std.specs.Float.Ieee.{of_bits}
use Rattle.floats.specs.Numerals.{whole, quarters, minus}
use Rattle.hagerzhang_rules.specs.declared.Point.{Point}
use Rattle.hagerzhang_rules.specs.declared.Bracket.{Bracket}
use Rattle.hagerzhang_rules.specs.declared.Came.TheVariants.{To}
use Rattle.hagerzhang_rules.specs.Rules.{point, bracket, answer_finite, update_of, secant_of, equal_steps, S4, L2}
use Rattle.hagerzhang_rules.specs.Rules.{iteration_by}
use Rattle.hagerzhang_rules.specs.MarkedSums.{setup, a, Asks, refused, by_number, becomes, left, at-minimum}
use Rattle.hagerzhang_rules.specs.ZeroSlope.{former_s4}

-- L = 1 and gamma = 0.66, as in 01's sums
abbrev pub updated : Bracket → Point → Bracket → Type 0
updated w c u = update_of (whole 1) w c ≡ Some (To u)

abbrev pub asked-by-L2 : Bracket → Bracket → Option Float
asked-by-L2 w u = L2 (setup 100).options.params.gamma w u

-- t = 2^-60, so that 4t < EPS
abbrev pub t/2 : Float
t/2 = of_bits binary64 0x3c20_0000_0000_0000

abbrev pub t : Float
t = of_bits binary64 0x3c30_0000_0000_0000

abbrev pub 2t : Float
2t = of_bits binary64 0x3c40_0000_0000_0000

abbrev pub 4t : Float
4t = of_bits binary64 0x3c50_0000_0000_0000

abbrev pub tiny : Float
tiny = of_bits binary64 1

-- the exact minimum at the low end
abbrev pub low-flat : Bracket
low-flat = bracket (point (whole 1) (whole 0) (whole 0)) (point (whole 2) (whole 9) (whole 6))

-- both ends near to S1's step
abbrev pub narrow : Bracket
narrow = bracket a (point 4t (whole 9) (whole 6))

abbrev pub steep : Bracket
steep = bracket a (point t (whole 1) (minus (whole 1)))

-- S2's secant is of two points with slope 0
abbrev pub flat : Bracket
flat = bracket (point (whole 0) (whole 1) (minus tiny)) (point (quarters 5) (whole 9) (whole 0))

unfoldable pub former-M8 : Asks
former-M8 = iteration_by (setup 100) by_number tt former_s4 at-minimum (λ u. becomes)

pub record EndSums : Type 0 where
  -- a = (1,0,0), b = (2,9,6): S1 asks 1, unchanged; A's step is a's, no e; L2 asks 1.5
  pub low_end :
      (secant_of low-flat.a low-flat.b ≡ whole 1)
      × ((f g : Float) → updated low-flat (point (whole 1) f g) low-flat)
      × (S4 low-flat (whole 1) low-flat ≡ None)
      × (asked-by-L2 low-flat low-flat ≡ Some (quarters 6))
  -- a = (0,1,-2), b = (t,1,-1): S1 asks 2t, unchanged; near to both ends, and both have the former steps, no e; L2 asks
  -- t/2
  pub both_ends :
      (secant_of steep.a steep.b ≡ 2t)
      × ((f g : Float) → updated steep (point 2t f g) steep)
      × (S4 steep 2t steep ≡ None)
      × (asked-by-L2 steep steep ≡ Some t/2)
  -- a = (0,1,-2), b = (4t,9,6): S1 asks t. Answer (0,2): (a, c). S3 is near to a and gives none; S2's secant(b, c),
  -- which is -t/2, stays
  pub S2-given :
      let c = point t (whole 0) (whole 2) in
      (secant_of narrow.a narrow.b ≡ t)
      × updated narrow c (bracket a c)
      × (S4 narrow t (bracket a c) ≡ Some (minus t/2))
  -- the same with answer (1,-1): (c, b). S2 is near to b and gives none; S3 gives secant(a, c), which is 2t
  pub S3-given :
      let c = point t (whole 1) (minus (whole 1)) in
      updated narrow c (bracket c narrow.b) × (S4 narrow t (bracket c narrow.b) ≡ Some 2t)
  -- a = (0,1,-2^-1074), b = (1.25,9,0): S1 asks 1. Answer (0,0): (a, c). b and c have other steps and equal slopes: S2
  -- gives 0/0, which refusal 5 meets
  pub steps-alone :
      let c = point (whole 1) (whole 0) (whole 0) in
      (secant_of flat.a flat.b ≡ whole 1)
      × updated flat c (bracket flat.a c)
      × (S4 flat (whole 1) (bracket flat.a c) ≡ Some nan)
  -- equal as numbers: both zeros are equal, whatever the costs and slopes
  pub zeros : (f g f' g' : Float) → equal_steps (point (whole 0) f g) (point (minus (whole 0)) f' g') ≡ true
  -- 01's M8: "S2 gives 0/0, refusal 5"
  pub formerly :
      (former_s4 at-minimum (whole 1) at-minimum ≡ Some nan)
      × ((f g : Float) → answer_finite f g ≡ true → left former-M8 ((f, g) ∷ []) ≡ refused 5)
