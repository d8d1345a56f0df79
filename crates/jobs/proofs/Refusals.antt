-- A start over the job's curve is what the job begins, once its numbers are finite and the curve has a number: the two
-- tables differ in the first rows only. Assumes nothing.
use mathlib.Core.Path.{◌≡◌, refl, sym, ap, ◌∙◌}
use mathlib.Core.Bool.{Bool, true, false, not}
use mathlib.Core.List.{List, [], ◌∷◌}
use Prim.Native.Nat.{ℕ}
use borrow.Author.Tests.{not-false}
use Rattle.refusals.specs.Results.{Result, value, refused, Row, refuse◌else◌}
use Rattle.refusals.proofs.Refusals.{Passed, and, all, passed, refused-not-value, alike}
use Rattle.hagerzhang_rules.specs.Parameters.{options_finite, range_rows}
use Rattle.curves.specs.declared.Curve.{Curve}
use Rattle.curves.specs.Curves.{has_number, numbered_at, curve_rows, numbered_of}
use Rattle.hagerzhang.specs.Machine.{Turn}
use Rattle.hagerzhang.specs.Machine.{fresh_of}
use Rattle.jobs.specs.declared.Job.{Job}
use Rattle.jobs.specs.Opening.{curve_of, f0_of, s0_of, setup_for, begun_by, over_curve}
use Rattle.jobs.proofs.AtZero.{f0-finite, s0-finite}

-- what a start comes to, with the curve beside it
unfoldable pub on : Curve → Result Turn → Result (Curve × Turn)
on c (value t) = value (c, t)
on c (refused n) = refused n

pub on-rows : (c : Curve) (rows : List Row) (t : Turn) → on c (refuse rows else t) ≡ (refuse rows else (c, t))
unfolding on
on-rows c rows t = alike (on c) (λ r. r) (λ n. refl) t (c, t) refl rows

-- a table of one row refuses, and so does one that goes on behind it
one-row : {A B : Type 0} (n m : ℕ) (b : Bool) (a : A) (rows : List Row) (x : B)
    → refused n ≡ (refuse (m, b) ∷ [] else a) → refused n ≡ (refuse (m, b) ∷ rows else x)
one-row n m true a rows x e = let same : n ≡ m = cc in ap refused same
one-row n m false a rows x e = absurd (refused-not-value n a e)

has-number : (n : ℕ) → Passed (curve_rows n) → has_number n ≡ true
has-number n (and three all) = not-false _ three

module _ (j : Job) where
  pub not_finite : options_finite j.options ≡ false → refused 2 ≡ begun_by (value j)
  not_finite h = rw h

  module _ (fine : options_finite j.options ≡ true) where
    over-curve : has_number j.curve ≡ true → over_curve (curve_of j) j.options ≡ begun_by (value j)
    over-curve h = rw (fine, h, f0-finite j h, s0-finite j h)

    -- by what the curves' own table answers
    pub found-curve : (c : Curve) → value c ≡ numbered_of j.curve → over_curve c j.options ≡ begun_by (value j)
    found-curve c e =
        let p = passed (curve_rows j.curve) (numbered_at j.curve) c (sym e) in
        ap (λ (d : Curve). over_curve d j.options) (sym p.1) ∙ over-curve (has-number j.curve p.0)

    pub unknown-curve : (n : ℕ) → refused n ≡ numbered_of j.curve → refused n ≡ begun_by (value j)
    unknown-curve n e =
        let rows = range_rows j.options (f0_of j) (s0_of j) in
        let begun : Curve × Turn = (curve_of j, fresh_of (setup_for j)) in
        rw fine (one-row n 3 (not (has_number j.curve)) (numbered_at j.curve) rows begun e)
