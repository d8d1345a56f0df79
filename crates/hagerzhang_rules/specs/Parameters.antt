-- 01, "Parameters", and of "Numbers in, numbers refused" B and N; 02, request 3, the way of starting; epsilon_k and L;
-- and the refusals of a start, in their order.
use Rattle.std.specs.Prelude.{ℕ, Bool, true, false, not, ◌&&◌, List, [], ◌∷◌, leb, Float}
use Rattle.std.specs.Float.{binary64}
use Rattle.std.specs.Float.Ieee.{of_bits}
use Rattle.std.specs.Float.Ieee.Scale.{finite}
use Rattle.floats.specs.Arithmetic.{◌⊕◌, ◌⊗◌, ◌<ᶠ◌, ◌≤ᶠ◌, ◌≥ᶠ◌, 0ᶠ, ½ᶠ, 1ᶠ}
use Rattle.refusals.specs.Results.{Row}
use Rattle.numbers.specs.Numbers.{abs_of}
use Rattle.hagerzhang_rules.specs.declared.Params.{Params}
use Rattle.hagerzhang_rules.specs.declared.Bounds.{Bounds}
use Rattle.hagerzhang_rules.specs.declared.Way.{Way}
use Rattle.hagerzhang_rules.specs.declared.Way.TheVariants.{Bounded, Growing}
use Rattle.hagerzhang_rules.specs.declared.Options.{Options}
use Rattle.hagerzhang_rules.specs.declared.Setup.{Setup}

-- min and max
abbrev pub bounds : Float → Float → Bounds
bounds min max = record { min = min; max = max }

-- "delta 0.1, sigma 0.9 .. epsilon 1e-6 .. theta 0.5, gamma 0.66 .. eta 0.01 .. Bounds 2^-52 and 1e5 .. Start step c:
-- 1"; the budget B and the limit N are 100. 02, request 2, of the upper bound: "The default becomes 64."
abbrev pub default_options : Options
default_options = record {
  params = record {
    delta = of_bits binary64 0x3fb9_9999_9999_999a;
    sigma = of_bits binary64 0x3fec_cccc_cccc_cccd;
    epsilon = of_bits binary64 0x3eb0_c6f7_a0b5_ed8d;
    theta = ½ᶠ;
    gamma = of_bits binary64 0x3fe5_1eb8_51eb_851f;
    eta = of_bits binary64 0x3f84_7ae1_47ae_147b;
    start = 1ᶠ;
  };
  way = Bounded (bounds (of_bits binary64 0x3cb0_0000_0000_0000) (of_bits binary64 0x4050_0000_0000_0000));
  budget = 100;
  limit = 100;
}

-- the options d with another epsilon, another way, another start step, B and N
abbrev pub options_with : Options → Float → Way → Float → ℕ → ℕ → Options
options_with d epsilon way start B N = record {
  params = record {
    delta = d.params.delta;
    sigma = d.params.sigma;
    epsilon = epsilon;
    theta = d.params.theta;
    gamma = d.params.gamma;
    eta = d.params.eta;
    start = start;
  };
  way = way;
  budget = B;
  limit = N;
}

-- ---- refusal 2: "a supplied number is NaN or infinite"

abbrev pub params_finite : Params → Bool
params_finite p =
    finite p.delta
    && finite p.sigma
    && finite p.epsilon
    && finite p.theta
    && finite p.gamma
    && finite p.eta
    && finite p.start

-- of a start that grows there are none: "The bounds are not read."
abbrev pub way_finite : Way → Bool
way_finite (Bounded e) = finite e.min && finite e.max
way_finite (Growing K) = true

-- of the options alone, since a job supplies no more
abbrev pub options_finite : Options → Bool
options_finite o = params_finite o.params && way_finite o.way

abbrev pub supplied_finite : Options → Float → Float → Bool
supplied_finite o f0 s0 = options_finite o && finite f0 && finite s0

-- ---- refusal 3: "a parameter, B, N .. is outside its range"

-- "0 < delta < 1, delta <= sigma < 1"
abbrev pub delta_sigma_in_range : Params → Bool
delta_sigma_in_range p = 0ᶠ <ᶠ p.delta && p.delta <ᶠ 1ᶠ && p.delta ≤ᶠ p.sigma && p.sigma <ᶠ 1ᶠ

-- "epsilon ..: >= 0. theta .., gamma ..: in (0, 1). eta ..: > 0"
abbrev pub factors_in_range : Params → Bool
factors_in_range p =
    0ᶠ ≤ᶠ p.epsilon && 0ᶠ <ᶠ p.theta && p.theta <ᶠ 1ᶠ && 0ᶠ <ᶠ p.gamma && p.gamma <ᶠ 1ᶠ && 0ᶠ <ᶠ p.eta

-- "0 <= min < max"; the start step may be "any finite number, also outside the bounds". 02, request 3: "K from 1 to
-- 400"; "3 for a bad K or a start step not above 0"
abbrev pub way_in_range : Way → Float → Bool
way_in_range (Bounded e) start = 0ᶠ ≤ᶠ e.min && e.min <ᶠ e.max
way_in_range (Growing K) start = leb 1 K && leb K 400 && 0ᶠ <ᶠ start

-- "U3 budget B is 1 to 1,000 ..; iteration limit N is 1 to 10,000"
abbrev pub counts_in_range : Options → Bool
counts_in_range o = leb 1 o.budget && leb o.budget 1000 && (leb 1 o.limit && leb o.limit 10000)

abbrev pub in_ranges : Options → Bool
in_ranges o =
    delta_sigma_in_range o.params
    && factors_in_range o.params
    && way_in_range o.way o.params.start
    && counts_in_range o

-- ---- refusal 10 (02, request 3): "if s0 >= 0". Of 01's start: "The sign of s0 is not checked."

abbrev pub not_downhill : Way → Float → Bool
not_downhill (Bounded e) s0 = false
not_downhill (Growing K) s0 = s0 ≥ᶠ 0ᶠ

-- ---- 01, "Hager-Zhang rules": "epsilon_k = epsilon*|f0|, L = f0 + epsilon_k"

abbrev pub epsilon_k_of : Options → Float → Float
epsilon_k_of o f0 = o.params.epsilon ⊗ abs_of f0

abbrev pub level_of : Options → Float → Float
level_of o f0 = f0 ⊕ epsilon_k_of o f0

abbrev pub setup_of : Options → Float → Float → Setup
setup_of o f0 s0 = record { options = o; f0 = f0; s0 = s0; level = level_of o f0 }

-- ---- the refusals of a start, in their order: 2 over all supplied numbers; then 3, 10 and 4, which a job shares

-- 3, over all ranges; "10, after 3 and before 4"; and 4: ".. epsilon_k or L comes out not finite"
abbrev pub range_rows : Options → Float → Float → List Row
range_rows o f0 s0 =
    (3, not (in_ranges o))
    ∷ (10, not_downhill o.way s0)
    ∷ (4, not (finite (epsilon_k_of o f0) && finite (level_of o f0)))
    ∷ []

abbrev pub start_rows : Options → Float → Float → List Row
start_rows o f0 s0 = (2, not (supplied_finite o f0 s0)) ∷ range_rows o f0 s0
