-- The bounds of the demands are reached: of each kind a search that `start` gave and that takes every answer that it
-- may. The equations are over the very bounds that the theorems cite. With a smaller bound a theorem is false; with a
-- larger one an equation here is. These are examples, and nobody has to believe them.
use Rattle.std.specs.Prelude.{ℕ, ◌+◌, ◌≡◌, Bool, true, false, not, List, [], ◌∷◌, length, Float}
use Rattle.std.specs.Float.{binary64, nan}
use Rattle.std.specs.Float.Ieee.{of_bits}
use Rattle.floats.specs.Arithmetic.{◌⊗◌, 0ᶠ, ½ᶠ, 1ᶠ, 2ᶠ, 5ᶠ}
use Rattle.floats.specs.Numerals.{whole, minus}
use Rattle.refusals.specs.Results.{value}
use Rattle.runs.specs.Outcomes.{limit, refusal, asks, ends}
use Rattle.runs.specs.Asking.{Reply, reached, told_next, tallied}
use Rattle.conditions.specs.declared.Condition.TheVariants.{Armijo}
use Rattle.conditions.specs.Conditions.{answer_finite}
use Rattle.backtracking.specs.declared.Options.{Options as TrialOptions}
use Rattle.backtracking.specs.Machine.{Turn as TrialTurn}
use Rattle.backtracking.specs.Machine.{start_of as trials_start}
use Rattle.backtracking.specs.Meaning.{is_over as trials_over}
use Rattle.hagerzhang_rules.specs.declared.Way.{Way}
use Rattle.hagerzhang_rules.specs.declared.Way.TheVariants.{Bounded, Growing}
use Rattle.hagerzhang_rules.specs.declared.Options.{Options}
use Rattle.hagerzhang_rules.specs.Parameters.{bounds, in_ranges}
use Rattle.hagerzhang_rules.specs.Rules.{EPS, iterations_in}
use Rattle.hagerzhang_rules.specs.Iterations.{most_in_start, most_in_iteration, most_ever}
use Rattle.hagerzhang.specs.Machine.{Turn}
use Rattle.hagerzhang.specs.Machine.{start_of}
use Rattle.hagerzhang.specs.Meaning.{report, is_over}
use Rattle.demands.specs.Runs.{Gave, reached_by, told_after, and_then, finite_by, not_finite_by, points_asked, asked_at}
use Rattle.demands.specs.Demand3.{most_in_search}
use Rattle.demands.specs.Backtracking.{most_trials, machine}

-- ---- the answers. Cost 1 and slope -7 at step 0

abbrev pub f0 : Float
f0 = 1ᶠ

abbrev pub s0 : Float
s0 = minus (whole 7)

-- a cost above f0, downhill or uphill; and an answer that is not finite
abbrev pub down : Reply
down = (2ᶠ, minus 1ᶠ)

abbrev pub up : Float → Reply
up slope = (2ᶠ, slope)

abbrev pub bad : Reply
bad = (nan, 0ᶠ)

-- ---- Hager-Zhang: theta is 15/16, gamma 1/8, and of 01's way max 2^-48, which is 16 EPS. epsilon is 0, so that L is
-- f0

abbrev pub options_of : Way → Float → ℕ → ℕ → Options
options_of way start B N = record {
  params = record {
    delta = ½ᶠ;
    sigma = ½ᶠ;
    epsilon = 0ᶠ;
    theta = of_bits binary64 0x3fee_0000_0000_0000;
    gamma = of_bits binary64 0x3fc0_0000_0000_0000;
    eta = 1ᶠ;
    start = start;
  };
  way = way;
  budget = B;
  limit = N;
}

abbrev pub bounded : Way
bounded = Bounded (bounds 0ᶠ (of_bits binary64 0x3cf0_0000_0000_0000))

-- B and N are 2. At 1 a bound with other factors, as 2+4B, could be reached as well
abbrev pub o : Options
o = options_of bounded 1ᶠ 2 2

-- Every answer but the last: three of the start, then nine of each iteration. Its trials at S1, S4 and L2 are answered
-- downhill above L and begin U3, whose first answer goes on, and whose second, uphill, ends it. S4 is asked, since S1's
-- step is less than EPS above Z (S2), and not less than EPS above A, which is 0 (S3); and its secant(b, Z) has a value,
-- since the slopes there differ.
abbrev pub all_but_last : List Reply
all_but_last =
    (f0, s0) ∷ (2ᶠ, whole 9) ∷ down ∷
    down ∷ down ∷ up 1ᶠ ∷ down ∷ down ∷ up 1ᶠ ∷ down ∷ down ∷ up 1ᶠ ∷
    down ∷ down ∷ up ½ᶠ ∷ down ∷ down ∷ up 1ᶠ ∷ down ∷ down ∷ []

abbrev pub all : List Reply
all = and_then all_but_last (up 1ᶠ)

pub record BoundsReached : Type 0 where
  pub t : Turn
  pub given : start_of o f0 s0 ≡ value t
  -- "an iteration takes at most 3+3B answers": the last answer finishes one that took them all (`few`); or it does not
  -- end U3, and an iteration that is not finished has taken them all (`iteration-bounded`)
  pub few-reached : length (asked_at t.search all_but_last (up 1ᶠ)) ≡ most_in_iteration o
  pub iteration-reached : length (points_asked t.search (and_then all_but_last down)) ≡ most_in_iteration o
  pub budget-spent : told_after t.search all_but_last down ≡ ends (refusal 6)
  -- "any search ends within 3+N(3+3B)": one answer before that it still asks (`search-ends`)
  pub search-reached : length all ≡ most_in_search o
  pub still-asks : is_over (reached_by t.search all_but_last).stage ≡ false
  pub then-over : told_after t.search all_but_last (up 1ᶠ) ≡ ends (limit 0ᶠ)
  -- `evaluations-bounded`; `iterations-bounded`, since the last answer finishes the N-th
  pub evaluations-reached : finite_by t.search all ≡ most_in_search o
  pub iterations-before : iterations_in (report (reached_by t.search all_but_last)) + 1 ≡ o.limit
  pub iterations-reached : iterations_in (report (reached_by t.search all)) ≡ o.limit
  -- `always-bounded`: at the largest B and N that are in their ranges
  pub ever-reached : most_in_search (options_of bounded 1ᶠ 1000 10000) ≡ most_ever bounded
  pub largest : in_ranges (options_of bounded 1ᶠ 1000 10000) ≡ true
  pub none-larger : (in_ranges (options_of bounded 1ᶠ 1001 10000) ≡ false)
      × (in_ranges (options_of bounded 1ᶠ 1000 10001) ≡ false)
  -- `non-finite-once`
  pub non-finite-reached : not_finite_by t.search (bad ∷ bad ∷ []) ≡ 1

-- ---- a start that grows: K is 2 too, and the start step is EPS

abbrev pub growing : Options
growing = options_of (Growing 2) EPS 2 2

-- downhill at f0, which is L: too short
abbrev pub short : Reply
short = (f0, s0)

-- Every answer of the start but its last: the third trial is downhill above L, and so is the first answer of its U3
-- run. Uphill, the fifth ends the start.
abbrev pub four_of_start : List Reply
four_of_start = short ∷ short ∷ down ∷ down ∷ []

abbrev pub last_of_start : Reply
last_of_start = up (whole 16)

-- then nine of each iteration, as above
abbrev pub all_growing_but_last : List Reply
all_growing_but_last =
    short ∷ short ∷ down ∷ down ∷ last_of_start ∷
    down ∷ down ∷ up 1ᶠ ∷ down ∷ down ∷ up 1ᶠ ∷ down ∷ down ∷ up 1ᶠ ∷
    down ∷ down ∷ up ½ᶠ ∷ down ∷ down ∷ up 1ᶠ ∷ down ∷ down ∷ []

abbrev pub all_growing : List Reply
all_growing = and_then all_growing_but_last (up 1ᶠ)

pub record GrowthReached : Type 0 where
  pub t : Turn
  pub gave : Gave growing f0 s0 t
  -- "at most 1+K+B": the fifth answer finishes the start; or it does not end U3, and the start has taken them all
  -- (`start-bounded`)
  pub start-reached : length (asked_at t.search four_of_start last_of_start) ≡ most_in_start growing
  pub unfinished-reached : length (points_asked t.search (and_then four_of_start down)) ≡ most_in_start growing
  pub budget-spent : told_after t.search four_of_start down ≡ ends (refusal 6)
  -- "at most K times": after three trials 11 comes, and not after two
  pub grows-twice : told_after t.search (short ∷ []) short ≡ asks (5ᶠ ⊗ (5ᶠ ⊗ EPS))
  pub growths-spent : told_after t.search (short ∷ short ∷ []) short ≡ ends (refusal 11)
  -- 1+K+B+N(3+3B): one answer before that it still asks (`search-ends`)
  pub search-reached : length all_growing ≡ most_in_search growing
  pub still-asks : is_over (reached_by t.search all_growing_but_last).stage ≡ false
  pub then-over : told_after t.search all_growing_but_last (up 1ᶠ) ≡ ends (limit EPS)
  -- `always-bounded`: at the largest B, N and K that are in their ranges
  pub ever-reached : most_in_search (options_of (Growing 400) EPS 1000 10000) ≡ most_ever (Growing 400)
  pub largest : in_ranges (options_of (Growing 400) EPS 1000 10000) ≡ true
  pub none-larger : in_ranges (options_of (Growing 401) EPS 1000 10000) ≡ false

-- ---- backtracking: no trial meets the condition

abbrev pub trial_options : TrialOptions
trial_options = record { condition = Armijo ½ᶠ; rho = ½ᶠ; alpha = 1ᶠ; limit = 2 }

abbrev pub is_finite : Float → Float → Bool
is_finite f g = answer_finite trial_options.condition f g

abbrev pub two_trials : List Reply
two_trials = down ∷ down ∷ []

pub record TrialsReached : Type 0 where
  pub t : TrialTurn
  pub given : trials_start trial_options f0 s0 ≡ value t
  -- it ends within 1 + N answers: one answer before that it still asks (`search-ends`)
  pub search-reached : length (and_then two_trials down) ≡ most_trials trial_options
  pub still-asks : trials_over (reached machine t.search two_trials).stage ≡ false
  pub then-over : told_next machine t.search two_trials down ≡ ends (limit (½ᶠ ⊗ ½ᶠ))
  -- `evaluations-bounded`, `non-finite-once`
  pub evaluations-reached : tallied machine is_finite t.search (and_then two_trials down) ≡ most_trials trial_options
  pub non-finite-reached : tallied machine (λ f g. not (is_finite f g)) t.search (bad ∷ bad ∷ []) ≡ 1
