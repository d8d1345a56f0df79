-- 02, request 3, in numbers: sums of a start that grows, worked out by hand from the request's words, as 01 has its
-- marked sums. They tell apart what no theorem does: U3 "from 0 to it" and from the last trial, a bracket "from the
-- last earlier trial" and from 0, "the first trial" as c and a later one. Proved as a single claim, `start-sums`
-- (proofs/StartSums.antt).
use Rattle.std.specs.Prelude.{◌≡◌, ◌⊎◌, [], ◌∷◌, ℕ, Float}
use Rattle.std.proofs.Common.{inl, inr}
use Rattle.std.specs.Float.{binary64}
use Rattle.std.specs.Float.Ieee.{of_bits}
use Rattle.floats.specs.Numerals.{whole, quarters, minus}
use Rattle.refusals.specs.Results.{Result, refused, refuse◌else◌}
use Rattle.runs.specs.Outcomes.{Why, number_for}
use Rattle.runs.specs.Asking.{Run, end, Reply}
use Rattle.hagerzhang_rules.specs.declared.Point.{Point}
use Rattle.hagerzhang_rules.specs.declared.Bracket.{Bracket}
use Rattle.hagerzhang_rules.specs.declared.Way.TheVariants.{Growing}
use Rattle.hagerzhang_rules.specs.declared.Options.{Options}
use Rattle.hagerzhang_rules.specs.declared.Setup.{Setup}
use Rattle.hagerzhang_rules.specs.Parameters.{default_options, options_with, start_rows}
use Rattle.hagerzhang_rules.specs.Rules.{point, bracket, starting}
use Rattle.hagerzhang_rules.specs.MarkedSums.{left, steps}

-- epsilon = 0, theta = 0.5, f0 = 1, s0 = -2, so that L = 1; the step x and K are chosen
abbrev pub options : Float → ℕ → Options
options x K = options_with default_options (whole 0) (Growing K) x 100 100

abbrev pub setup : Float → ℕ → Setup
setup x K = record { options = options x K; f0 = whole 1; s0 = minus (whole 2); level = whole 1 }

-- the start by itself comes to a refusal's number, or to c and a bracket
abbrev pub Starts : Type 0
Starts = Run (Unit {0}) (ℕ ⊎ (Point × Bracket))

abbrev pub by_number : Why → ℕ ⊎ (Point × Bracket)
by_number why = inl (number_for why)

unfoldable pub start : Float → ℕ → Starts
start x K = starting (setup x K) by_number tt (Growing K) (λ c w. end (inr (c, w)))

abbrev pub becomes : Point → Bracket → Starts
becomes c w = end (inr (c, w))

abbrev pub is-refused : ℕ → Starts
is-refused n = end (inl n)

-- "step 0 with f0 and s0"
abbrev pub zero : Point
zero = point (whole 0) (whole 1) (minus (whole 2))

-- downhill at a cost equal to L, and above it
abbrev pub short : Reply
short = (whole 1, minus (whole 1))

abbrev pub above : Reply
above = (whole 2, minus (whole 1))

-- the first trial, answered so
abbrev pub first : Point
first = point (whole 1) (whole 1) (minus (whole 1))

-- 2^1021: 5 times it is finite, and 25 times it is not
abbrev pub huge : Float
huge = of_bits binary64 0x7fc0_0000_0000_0000

abbrev pub flat : Result Setup
flat = refuse (start_rows (options (whole 1) 1) (whole 1) (minus (whole 0))) else setup (whole 1) 1

pub record StartSums : Type 0 where
  -- the first trial's slope is -0.0: "the bracket runs from .. 0 to it"
  pub at_once :
      let t = point (whole 1) (whole 0) (minus (whole 0)) in
      left (start (whole 1) 1) ((whole 0, minus (whole 0)) ∷ []) ≡ becomes t (bracket zero t)
  -- "multiply the step by 5"; "from the last earlier trial"
  pub second :
      let ys = short ∷ (whole 0, whole 2) ∷ [] in
      (steps (start (whole 1) 1) ys ≡ whole 1 ∷ whole 5 ∷ [])
      × (left (start (whole 1) 1) ys ≡ becomes first (bracket first (point (whole 5) (whole 0) (whole 2))))
  -- "run U3 from 0 to it": between 0 and 5
  pub steep :
      let ys = short ∷ above ∷ (whole 0, whole 1) ∷ [] in
      (steps (start (whole 1) 1) ys ≡ whole 1 ∷ whole 5 ∷ quarters 10 ∷ [])
      × (left (start (whole 1) 1) ys ≡ becomes first (bracket zero (point (quarters 10) (whole 0) (whole 1))))
  -- the third trial is 5 times the second, and not of the first
  pub third : steps (start (whole 1) 2) (short ∷ short ∷ []) ≡ whole 1 ∷ whole 5 ∷ whole 25 ∷ []
  -- "at most K times": with K = 1 there are two trials; 11
  pub eleven : left (start (whole 1) 1) (short ∷ short ∷ []) ≡ is-refused 11
  -- 5, where the longer step is not finite; "11, before 5, if K growths are used up"
  pub five : left (start huge 2) (short ∷ short ∷ []) ≡ is-refused 5
  pub eleven-first : left (start huge 1) (short ∷ short ∷ []) ≡ is-refused 11
  -- "10 .. if s0 >= 0": -0.0 too
  pub ten : flat ≡ refused 10
