-- What `updated` decides is 01's update, guard for guard, and never the Rust's "unreachable point": for an L that is no
-- NaN and a point with finite cost and slope. From the order of floats. Assumes nothing.
use mathlib.Core.Path.{◌≡◌, refl}
use mathlib.Core.Bool.{true, false}
use Rattle.std.specs.Prelude.{Option, Some}
use lib.Ieee.{Float, is_nan}
use lib.Ieee.Scale.{finite}
use Rattle.floats.specs.Arithmetic.{◌≤ᶠ◌, ◌≥ᶠ◌, 0ᶠ}
use Rattle.floats.proofs.Branches.{by-cases₂}
use Rattle.floats.proofs.Order.{finite→real, zero-real, nle→lt}
use Rattle.hagerzhang_rules.specs.declared.Point.{Point}
use Rattle.hagerzhang_rules.specs.declared.Bracket.{Bracket}
use Rattle.hagerzhang_rules.specs.declared.Came.{Came}
use Rattle.hagerzhang_rules.specs.Rules.{outside, update_of}
use Rattle.hagerzhang_decisions.specs.Decisions.{updated_of}

pub decides : (L : Float) (w : Bracket) (c : Point) → is_nan L ≡ false → finite c.f ≡ true → finite c.g ≡ true
    → update_of L w c ≡ Some (updated_of L w c)
unfolding update_of updated_of
decides L w c real f g =
    let Same : Option Came → Came → Type 0 = λ o came. o ≡ Some came in
    by-cases₂ Same (outside w c) (λ e. refl)
    (λ e. by-cases₂ Same (c.g ≥ᶠ 0ᶠ) (λ e. refl)
    (λ no.
    let falls = nle→lt 0ᶠ c.g zero-real (finite→real c.g g) no in
    rw falls (by-cases₂ Same (c.f ≤ᶠ L) (λ e. refl)
    (λ over. rw (nle→lt c.f L (finite→real c.f f) real over)))))
