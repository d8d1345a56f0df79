-- What `updated` decides at any numbers. Nobody needs this to check 01: where L is no NaN and cost and slope are
-- finite, which is so wherever a search comes here, it is 01's update (`decides`, proofs/Decides.antt). At a NaN what
-- is not >= 0 counts as below 0, and what is not <= L as above L.
use Rattle.std.specs.Prelude.{cond, ◌||◌, Float}
use Rattle.floats.specs.Arithmetic.{◌≤ᶠ◌, ◌≥ᶠ◌, 0ᶠ}
use Rattle.hagerzhang_rules.specs.declared.Point.{Point}
use Rattle.hagerzhang_rules.specs.declared.Bracket.{Bracket}
use Rattle.hagerzhang_rules.specs.declared.Came.{Came}
use Rattle.hagerzhang_rules.specs.declared.Came.TheVariants.{To, On}
use Rattle.hagerzhang_rules.specs.Rules.{bracket}

unfoldable pub updated_of : Float → Bracket → Point → Came
updated_of L w c =
    cond (c.x ≤ᶠ w.a.x || c.x ≥ᶠ w.b.x) (To w)
    (cond (c.g ≥ᶠ 0ᶠ) (To (bracket w.a c))
    (cond (c.f ≤ᶠ L) (To (bracket c w.b))
    (On w.a c.x)))
