-- What is known of a start that no row refuses: its numbers are finite, B and N are in their ranges, and L is finite;
-- of 01's way, the bounds are in order; of one that grows, K is in its range, the start step is above 0, and the point
-- at 0 meets the low end's part of demand 3's premise; and so how many answers a search can take at most. Assumes
-- nothing.
use mathlib.Core.Path.{◌≡◌, subst}
use mathlib.Core.Bool.{Bool, true, false, ◌&&◌}
use Prim.Native.Nat.{ℕ, ◌+◌, ◌*◌, ◌≤◌}
use native.Mathlib.Nat.{mul-le-mul_right}
use native.Mathlib.Omega.{arith}
use lib.Dec.{leb}
use lib.Ieee.{Float, nan, inf, fin, binary64, fits}
use lib.Ieee.Scale.{finite}
use borrow.Author.Tests.{leb-true, not-false}
use Rattle.floats.specs.Arithmetic.{◌⊗◌, ◌<ᶠ◌, ◌≤ᶠ◌, 0ᶠ, 1ᶠ}
use Rattle.floats.proofs.Branches.{and_first, and_second}
use Rattle.floats.proofs.Growth.{add-up, times-not-negative}
use Rattle.floats.proofs.Order.{finite→real, zero-real, nle→lt}
use Rattle.numbers.specs.Numbers.{abs_of}
use Rattle.refusals.proofs.Refusals.{Passed, and, all}
use Rattle.hagerzhang_rules.specs.declared.Bounds.{Bounds}
use Rattle.hagerzhang_rules.specs.declared.Way.{Way}
use Rattle.hagerzhang_rules.specs.declared.Way.TheVariants.{Bounded, Growing}
use Rattle.hagerzhang_rules.specs.declared.Params.{Params}
use Rattle.hagerzhang_rules.specs.declared.Options.{Options}
use Rattle.hagerzhang_rules.specs.Parameters.{params_finite, way_finite, options_finite, supplied_finite}
use Rattle.hagerzhang_rules.specs.Parameters.{delta_sigma_in_range, factors_in_range, way_in_range, counts_in_range}
use Rattle.hagerzhang_rules.specs.Parameters.{in_ranges, not_downhill, epsilon_k_of, level_of, start_rows}
use Rattle.hagerzhang_rules.specs.Iterations.{most_by, most_in_start, most_in_iteration, most_ever, f64s_by, F64s}

-- ---- a start that is accepted: no row refuses it, and what it grows from are f64s
pub record Accepted (o : Options) (f0 s0 : Float) : Type 0 where
  pub passed : Passed (start_rows o f0 s0)
  pub f64s : F64s o f0

-- ---- the rows
record Rows (o : Options) (f0 s0 : Float) : Type 0 where
  supplied : supplied_finite o f0 s0 ≡ true
  ranges : in_ranges o ≡ true
  downhill : not_downhill o.way s0 ≡ false
  level : finite (level_of o f0) ≡ true

rows : (o : Options) (f0 s0 : Float) → Passed (start_rows o f0 s0) → Rows o f0 s0
rows o f0 s0 (and two (and three (and ten (and four all)))) = record {
  supplied = not-false _ two;
  ranges = not-false _ three;
  downhill = ten;
  level = and_second (finite (epsilon_k_of o f0)) (finite (level_of o f0)) (not-false _ four);
}

-- ---- what they say
last-three : (before x y z : Bool) → (before && x && y && z) ≡ true → (x ≡ true) × (y ≡ true) × (z ≡ true)
last-three before x y z e =
    let two = and_first (before && x && y) z e in
    let one = and_first (before && x) y two in
    (and_second before x one, and_second (before && x) y two, and_second (before && x && y) z e)

first-of-three : (x y z : Bool) → (x && y && z) ≡ true → x ≡ true
first-of-three x y z e = and_first x y (and_first (x && y) z e)

-- 0 ≤ epsilon |f0|, in computed floats
allowance : (e f : Float) → finite e ≡ true → 0ᶠ ≤ᶠ e ≡ true → finite f ≡ true → 0ᶠ ≤ᶠ e ⊗ abs_of f ≡ true
allowance e nan p h q = cc
allowance e (inf s) p h q = cc
allowance e (fin s m d) p h q = times-not-negative e m d p h

-- of either way
pub ever : (w : Way) → most_ever w ≤ 30031401
ever (Bounded e) = omega arith
ever (Growing K) = omega arith

module _ (o : Options) (f0 s0 : Float) (ok : Accepted o f0 s0) where
  abbrev p : Params
  p = o.params

  its : Rows o f0 s0
  its = rows o f0 s0 ok.passed

  pub level-finite : finite (level_of o f0) ≡ true
  level-finite = its.level

  -- options, f0 and s0
  numbers : (options_finite o ≡ true) × (finite f0 ≡ true) × (finite s0 ≡ true)
  numbers = last-three true (options_finite o) (finite f0) (finite s0) its.supplied

  pub f0-finite : finite f0 ≡ true
  f0-finite = numbers.1

  pub s0-finite : finite s0 ≡ true
  s0-finite = numbers.2

  params-finite : params_finite p ≡ true
  params-finite = and_first (params_finite p) (way_finite o.way) numbers.0

  way-finite : way_finite o.way ≡ true
  way-finite = and_second (params_finite p) (way_finite o.way) numbers.0

  -- epsilon is the third of the parameters, and the start step the last
  epsilon-first : (finite p.delta && finite p.sigma && finite p.epsilon) ≡ true
  epsilon-first =
      first-of-three (finite p.delta && finite p.sigma && finite p.epsilon)
      (finite p.theta) (finite p.gamma)
      (first-of-three
      (finite p.delta && finite p.sigma && finite p.epsilon && finite p.theta && finite p.gamma)
      (finite p.eta) (finite p.start) params-finite)

  epsilon-finite : finite p.epsilon ≡ true
  epsilon-finite = and_second (finite p.delta && finite p.sigma) (finite p.epsilon) epsilon-first

  pub gamma-finite : finite p.gamma ≡ true
  gamma-finite =
      and_second (finite p.delta && finite p.sigma && finite p.epsilon && finite p.theta)
      (finite p.gamma)
      (first-of-three
      (finite p.delta && finite p.sigma && finite p.epsilon && finite p.theta && finite p.gamma)
      (finite p.eta) (finite p.start) params-finite)

  pub start-finite : finite p.start ≡ true
  start-finite =
      and_second
      (finite p.delta
      && finite p.sigma
      && finite p.epsilon
      && finite p.theta
      && finite p.gamma
      && finite p.eta)
      (finite p.start) params-finite

  ranges : (factors_in_range p ≡ true) × (way_in_range o.way p.start ≡ true) × (counts_in_range o ≡ true)
  ranges =
      last-three (delta_sigma_in_range p) (factors_in_range p) (way_in_range o.way p.start) (counts_in_range o)
      its.ranges

  epsilon-in-range : 0ᶠ ≤ᶠ p.epsilon ≡ true
  epsilon-in-range =
      first-of-three (0ᶠ ≤ᶠ p.epsilon) (0ᶠ <ᶠ p.theta) (p.theta <ᶠ 1ᶠ)
      (first-of-three (0ᶠ ≤ᶠ p.epsilon && 0ᶠ <ᶠ p.theta && p.theta <ᶠ 1ᶠ) (0ᶠ <ᶠ p.gamma) (p.gamma <ᶠ 1ᶠ)
      (and_first (0ᶠ ≤ᶠ p.epsilon && 0ᶠ <ᶠ p.theta && p.theta <ᶠ 1ᶠ && 0ᶠ <ᶠ p.gamma && p.gamma <ᶠ 1ᶠ)
      (0ᶠ <ᶠ p.eta) ranges.0))

  pub gamma-above : 0ᶠ <ᶠ p.gamma ≡ true
  gamma-above =
      and_second (0ᶠ ≤ᶠ p.epsilon && 0ᶠ <ᶠ p.theta && p.theta <ᶠ 1ᶠ) (0ᶠ <ᶠ p.gamma)
      (and_first (0ᶠ ≤ᶠ p.epsilon && 0ᶠ <ᶠ p.theta && p.theta <ᶠ 1ᶠ && 0ᶠ <ᶠ p.gamma) (p.gamma <ᶠ 1ᶠ)
      (and_first (0ᶠ ≤ᶠ p.epsilon && 0ᶠ <ᶠ p.theta && p.theta <ᶠ 1ᶠ && 0ᶠ <ᶠ p.gamma && p.gamma <ᶠ 1ᶠ)
      (0ᶠ <ᶠ p.eta) ranges.0))

  counts : (o.budget ≤ 1000) × (o.limit ≤ 10000)
  counts =
      let m = o.budget in
      let n = o.limit in
      let fits = ranges.2 in (
        leb-true m 1000 (and_second (leb 1 m) _ (and_first (leb 1 m && leb m 1000) (leb 1 n && leb n 10000) fits)),
        leb-true n 10000 (and_second (leb 1 n) _ (and_second (leb 1 m && leb m 1000) (leb 1 n && leb n 10000) fits)),
      )

  pub limit-fits : o.limit ≤ 10000
  limit-fits = counts.1

  -- ---- 01's way
  module _ (e : Bounds) (is : o.way ≡ Bounded e) where
    bounds-finite : (finite e.min && finite e.max) ≡ true
    bounds-finite = subst (λ (w : Way). way_finite w ≡ true) is way-finite

    pub min-finite : finite e.min ≡ true
    min-finite = and_first (finite e.min) (finite e.max) bounds-finite

    pub max-finite : finite e.max ≡ true
    max-finite = and_second (finite e.min) (finite e.max) bounds-finite

    bounds-in-range : (0ᶠ ≤ᶠ e.min && e.min <ᶠ e.max) ≡ true
    bounds-in-range = subst (λ (w : Way). way_in_range w p.start ≡ true) is ranges.1

    pub min-from-zero : 0ᶠ ≤ᶠ e.min ≡ true
    min-from-zero = and_first (0ᶠ ≤ᶠ e.min) (e.min <ᶠ e.max) bounds-in-range

    pub low-below-high : (e.min <ᶠ e.max) ≡ true
    low-below-high = and_second (0ᶠ ≤ᶠ e.min) (e.min <ᶠ e.max) bounds-in-range

  -- ---- a start that grows
  module _ (K : ℕ) (is : o.way ≡ Growing K) where
    in-range : (leb 1 K && leb K 400 && 0ᶠ <ᶠ p.start) ≡ true
    in-range = subst (λ (w : Way). way_in_range w p.start ≡ true) is ranges.1

    pub start-above : 0ᶠ <ᶠ p.start ≡ true
    start-above = and_second (leb 1 K && leb K 400) (0ᶠ <ᶠ p.start) in-range

    -- "K from 1 to 400"
    pub some-growth : K ≡ 0 → ⊥
    some-growth none =
        let one : 1 ≤ K =
        leb-true 1 K (and_first (leb 1 K) (leb K 400) (and_first (leb 1 K && leb K 400) (0ᶠ <ᶠ p.start) in-range)) in
        omega arith

    are-f64s : (fits binary64 p.start ≡ true) × (fits binary64 f0 ≡ true)
    are-f64s = subst (λ (w : Way). f64s_by w p.start f0) is ok.f64s

    pub start_fits : fits binary64 p.start ≡ true
    start_fits = are-f64s.0

    -- "10 .. if s0 >= 0": it is not, so it is below 0
    pub s0-below : s0 <ᶠ 0ᶠ ≡ true
    s0-below =
        nle→lt 0ᶠ s0 zero-real (finite→real s0 s0-finite)
        (subst (λ (w : Way). not_downhill w s0 ≡ false) is its.downhill)

    -- f0 ≤ L = f0 + epsilon |f0|, in computed floats
    pub f0-below-level : f0 ≤ᶠ level_of o f0 ≡ true
    f0-below-level =
        add-up f0 (epsilon_k_of o f0) are-f64s.1 f0-finite
        (allowance p.epsilon f0 epsilon-finite epsilon-in-range f0-finite)

  -- ---- how many answers there can be at most
  most-by : (w : Way) → way_in_range w p.start ≡ true → most_by w o.budget + 30030000 ≤ most_ever w
  most-by (Bounded e) h = omega arith
  most-by (Growing K) h =
      let b = counts.0 in
      let k : K ≤ 400 =
      leb-true K 400 (and_second (leb 1 K) (leb K 400) (and_first (leb 1 K && leb K 400) (0ᶠ <ᶠ p.start) h)) in
      omega arith

  pub most-answers : most_in_start o + o.limit * most_in_iteration o ≤ most_ever o.way
  most-answers =
      let b = counts.0 in
      let one : o.limit * (3 + 3 * o.budget) ≤ 10000 * (3 + 3 * o.budget) =
      mul-le-mul_right (3 + 3 * o.budget) limit-fits in
      let all = most-by o.way ranges.1 in
      omega arith
