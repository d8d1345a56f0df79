-- 02, request 14, in numbers: iterations worked out by hand from the rules, for each part of the request, at the edges
-- of both tests, and where rounding shows. Each is a run of the rules' iteration by itself: the points that it asks,
-- newest first, with their answers, then (A, Z) just before L2 and the new bracket (`Plays`, specs/Iterations.antt).
-- docs/CLOSING.md has four of them as a table, from runs of the program. Proved as a single claim, `how-fast-sums`
-- (proofs/HowFastSums.antt).
use Rattle.std.specs.Prelude.{◌*◌, ◌^◌, ◌≡◌, true, false, List, [], ◌∷◌, Float}
use Rattle.std.specs.Float.{binary64}
use Rattle.std.specs.Float.Ieee.{of_bits}
use Rattle.floats.specs.Units.{units}
use Rattle.floats.specs.Numerals.{whole, quarters, minus}
use Rattle.refusals.specs.Results.{Result, value, refuse◌else◌}
use Rattle.hagerzhang_rules.specs.declared.Point.{Point}
use Rattle.hagerzhang_rules.specs.declared.Bracket.{Bracket}
use Rattle.hagerzhang_rules.specs.declared.Way.TheVariants.{Bounded}
use Rattle.hagerzhang_rules.specs.declared.Options.{Options}
use Rattle.hagerzhang_rules.specs.declared.Setup.{Setup}
use Rattle.hagerzhang_rules.specs.Parameters.{bounds, default_options, start_rows, setup_of}
use Rattle.hagerzhang_rules.specs.Rules.{point, bracket, Report}
use Rattle.hagerzhang_rules.specs.MarkedSums.{b, ab, ½, ¾}
use Rattle.hagerzhang_rules.specs.Closing.{m, width, span, too_wide, m_inside, Halved}
use Rattle.hagerzhang_rules.specs.Iterations.{leaves, alone, Plays}

-- as 01's sums have it: f0 = 1, s0 = -2, epsilon = 0, L = 1, theta = 0.5; and the bounds 0 and 4
abbrev pub options : Float → Options
options gamma = record {
  params = record {
    delta = default_options.params.delta;
    sigma = default_options.params.sigma;
    epsilon = whole 0;
    theta = ½;
    gamma = gamma;
    eta = default_options.params.eta;
    start = default_options.params.start;
  };
  way = Bounded (bounds (whole 0) (whole 4));
  budget = 100;
  limit = 100;
}

abbrev pub setup : Float → Setup
setup gamma = record { options = options gamma; f0 = whole 1; s0 = minus (whole 2); level = whole 1 }

-- 01 accepts it
unfoldable pub accepts-by : Float → Result Setup
accepts-by gamma =
    refuse (start_rows (options gamma) (whole 1) (minus (whole 2)))
    else setup_of (options gamma) (whole 1) (minus (whole 2))

-- an iteration on w by gamma, whatever is reported meanwhile
abbrev pub Iterates : Float → Bracket → List Point → Bracket → Bracket → Type 0
Iterates gamma w asked u v = (k : Report) → Plays (alone (setup gamma) k w) asked (leaves u v)

-- from 1 on the floats are EPS = 2^-52 apart
abbrev pub 1+EPS : Float
1+EPS = of_bits binary64 0x3ff0_0000_0000_0001

abbrev pub 1+2EPS : Float
1+2EPS = of_bits binary64 0x3ff0_0000_0000_0002

abbrev pub 1+3EPS : Float
1+3EPS = of_bits binary64 0x3ff0_0000_0000_0003

abbrev pub 2EPS : Float
2EPS = of_bits binary64 0x3cc0_0000_0000_0000

abbrev pub 3EPS : Float
3EPS = of_bits binary64 0x3cc8_0000_0000_0000

abbrev pub neighbours : Bracket
neighbours = bracket (point (whole 1) (whole 1) (minus (whole 2))) (point 1+EPS (whole 9) (whole 0))

abbrev pub next-neighbours : Bracket
next-neighbours = bracket (point 1+EPS (whole 1) (minus (whole 2))) (point 1+2EPS (whole 9) (whole 0))

abbrev pub three-apart : Bracket
three-apart = bracket (point (whole 1) (whole 1) (minus (whole 2))) (point 1+3EPS (whole 9) (whole 0))

pub record HowFastSums : Type 0 where
  pub setup-accepted : (accepts-by ½ ≡ value (setup ½)) × (accepts-by ¾ ≡ value (setup ¾))
  -- gamma = 0.5, a = (0,1,-2), b = (4,9,6): S1 asks 1. Answer (1,-1): (c, b). S3 gives secant(a, c), which is 2. Answer
  -- (3,1): (c, d). 2 - 1 > 0.5*4 fails, so it is kept. The bracket before S4 was too wide: 4 - 1 > 0.5*4
  pub narrow :
      let c = point (whole 1) (whole 1) (minus (whole 1)) in
      let d = point (whole 2) (whole 3) (whole 1) in
      Iterates ½ ab (d ∷ c ∷ []) (bracket c d) (bracket c d)
      × (too_wide ½ ab (bracket c d) ≡ false)
      × (too_wide ½ ab (bracket c b) ≡ true)
  -- exactly gamma of the width is not too wide: S1 asks 1. Answer (1,-1): (c, b). S3 gives 2. Answer (1,-1): (d, b),
  -- and 4 - 2 > 0.5*4 fails
  pub exactly-gamma :
      let c = point (whole 1) (whole 1) (minus (whole 1)) in
      let d = point (whole 2) (whole 1) (minus (whole 1)) in
      Iterates ½ ab (d ∷ c ∷ []) (bracket d b) (bracket d b)
      × (too_wide ½ ab (bracket d b) ≡ false)
  -- gamma = 0.75. S1 asks 1. Answer (1,-1.5): (c, b). S3 gives 4, and U0 leaves (c, b). 4 - 1 > 0.75*4 fails, so it is
  -- kept
  pub by-gamma-alone :
      let c = point (whole 1) (whole 1) (minus (quarters 6)) in
      let e = point (whole 4) (whole 9) (whole 6) in
      Iterates ¾ ab (e ∷ c ∷ []) (bracket c b) (bracket c b)
      × (too_wide ¾ ab (bracket c b) ≡ false)
  -- the same with gamma = 0.5: 4 - 1 > 0.5*4, and m is 2.5, strictly inside. L2 asks it. Answer (3,1): from A.x to m.
  -- Answer (1,-1): from m to Z.x. Answer (3,-1) leads to U3 from 1 to 2.5, which asks 1.75; answer (3,1): from A.x,
  -- short of m. (A, Z) itself lies in neither part
  pub half :
      let c = point (whole 1) (whole 1) (minus (quarters 6)) in
      let e = point (whole 4) (whole 9) (whole 6) in
      let low = point (quarters 10) (whole 3) (whole 1) in
      let high = point (quarters 10) (whole 1) (minus (whole 1)) in
      let steep = point (quarters 10) (whole 3) (minus (whole 1)) in
      let d = point (quarters 7) (whole 3) (whole 1) in
      Iterates ½ ab (low ∷ e ∷ c ∷ []) (bracket c b) (bracket c low)
      × Iterates ½ ab (high ∷ e ∷ c ∷ []) (bracket c b) (bracket high b)
      × Iterates ½ ab (d ∷ steep ∷ e ∷ c ∷ []) (bracket c b) (bracket c d)
      × (too_wide ½ ab (bracket c b) ≡ true)
      × (m (bracket c b) ≡ quarters 10)
      × (m_inside (bracket c b) ≡ true)
      × (Halved ½ ab (bracket c b) (bracket c b) → ⊥)
  -- a = (1,1,-2), b the next float with (9,0): S1 asks b's step, and U0 leaves (a, b). S2 and S3 give no e by request
  -- 4; besides, a is EPS away. EPS > 0.5*EPS. m is 1, which is A.x and not strictly inside. L2 asks it, and U0 leaves
  -- (a, b)
  pub none_inside :
      let c = point 1+EPS (whole 9) (whole 0) in
      let d = point (whole 1) (whole 1) (minus (whole 2)) in
      Iterates ½ neighbours (d ∷ c ∷ []) neighbours neighbours
      × (too_wide ½ neighbours neighbours ≡ true)
      × (m neighbours ≡ whole 1)
      × (m_inside neighbours ≡ false)
  -- the same one float further: m is Z.x
  pub none-inside-above :
      let c = point 1+2EPS (whole 9) (whole 0) in
      Iterates ½ next-neighbours (c ∷ c ∷ []) next-neighbours next-neighbours
      × (too_wide ½ next-neighbours next-neighbours ≡ true)
      × (m next-neighbours ≡ 1+2EPS)
      × (m_inside next-neighbours ≡ false)
  -- a = (1,1,-2), b three floats above with (9,0): S1 to S4 as before. Half the sum is 1 + 1.5 EPS, and m, as computed,
  -- 1 + 2 EPS. Answer (3,1): from 1 to m, two thirds of the width
  pub rounded :
      let c = point 1+3EPS (whole 9) (whole 0) in
      let d = point 1+2EPS (whole 3) (whole 1) in
      Iterates ½ three-apart (d ∷ c ∷ []) three-apart (bracket three-apart.a d)
      × (too_wide ½ three-apart three-apart ≡ true)
      × (m three-apart ≡ 1+2EPS)
      × (m_inside three-apart ≡ true)
      × (width three-apart ≡ 3EPS)
      × (width (bracket three-apart.a d) ≡ 2EPS)
      × (span three-apart ≡ 3 * 2 ^ 1022)
      × (span (bracket three-apart.a d) ≡ 2 * 2 ^ 1022)
  -- the smallest float is one unit, and 1 is 2^1074 of them
  pub counted : (units (of_bits binary64 1) ≡ 1) × (units (whole 1) ≡ 2 ^ 1074)
