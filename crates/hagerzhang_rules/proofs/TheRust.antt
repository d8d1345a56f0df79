-- The Rust's U3 is a loop with two separate ifs, and 01's a chain of else: for a finite L and an answer with finite
-- cost and slope the body of the loop is 01's (`loop-is-U3`). (The Rust's update is 01's guard for guard, its error
-- among them: `update_of`. That a search never comes to that error is `never-unreachable`, proofs/Demand3.antt.) From
-- the order of finite floats. Assumes nothing.
use mathlib.Core.Path.{◌≡◌, refl}
use mathlib.Core.Bool.{true, cond, ◌&&◌}
use lib.Ieee.{Float}
use lib.Ieee.Scale.{finite}
use Rattle.floats.specs.Arithmetic.{◌<ᶠ◌, ◌≤ᶠ◌, ◌>ᶠ◌, ◌≥ᶠ◌, 0ᶠ}
use Rattle.floats.proofs.Branches.{by-cases₂}
use Rattle.floats.proofs.Order.{finite→real, zero-real, le→nlt, nle→lt}
use Rattle.hagerzhang_rules.specs.declared.Point.{Point}
use Rattle.hagerzhang_rules.specs.declared.Came.{Came}
use Rattle.hagerzhang_rules.specs.declared.Came.TheVariants.{To, On}
use Rattle.hagerzhang_rules.specs.Rules.{bracket, narrowed_of}

-- a return, and then two separate ifs, of which the first moves h and the second k
pub rust-loop : Float → Point → Float → Point → Came
rust-loop L h k d =
    cond (d.g ≥ᶠ 0ᶠ) (To (bracket h d))
    (On (cond (d.g <ᶠ 0ᶠ && d.f ≤ᶠ L) d h) (cond (d.g <ᶠ 0ᶠ && d.f >ᶠ L) d.x k))

pub loop-is-U3 : (L : Float) (h : Point) (k : Float) (d : Point) → finite L ≡ true → finite d.f ≡ true
    → finite d.g ≡ true → rust-loop L h k d ≡ narrowed_of L h k d
unfolding rust-loop narrowed_of
loop-is-U3 L h k d l p q =
    by-cases₂ ◌≡◌ (d.g ≥ᶠ 0ᶠ) (λ e. refl)
    (λ no.
    rw (nle→lt 0ᶠ d.g zero-real (finite→real d.g q) no)
    (by-cases₂ (λ low came. On low (cond (d.f >ᶠ L) d.x k) ≡ came) (d.f ≤ᶠ L)
    (λ under. rw (le→nlt d.f L under))
    (λ over. rw (nle→lt d.f L (finite→real d.f p) (finite→real L l) over))))
