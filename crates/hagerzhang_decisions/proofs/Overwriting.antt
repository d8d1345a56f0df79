-- The library's `or` is the rules' `or_else`: S3's e, where there is one, overwrites S2's. Assumes nothing.
use mathlib.Core.Path.{◌≡◌, refl}
use mathlib.Core.Bool.{◌&&◌, not}
use lib.Ieee.{Float}
use Rattle.std.specs.Prelude.{Option, Some, None}
use Rattle.std.specs.Option.{option_or}
use Rattle.hagerzhang_rules.specs.declared.Point.{Point}
use Rattle.hagerzhang_rules.specs.declared.Bracket.{Bracket}
use Rattle.hagerzhang_rules.specs.Rules.{is_near, equal_steps, secant_of, when, or_else, S2, S3, S4}

same : (e d : Option Float) → option_or e d ≡ or_else e d
same (Some x) d = refl
same None d = refl

-- the secant of an end before the update and the end behind it, where c is near to the latter
abbrev near_of : Float → Point → Point → Option Float
near_of c before behind = when (is_near c behind.x && not (equal_steps before behind)) (secant_of before behind)

pub overwrites : (w : Bracket) (c : Float) (u : Bracket) (third second : Option Float)
    → third ≡ near_of c w.a u.a → second ≡ near_of c w.b u.b → option_or third second ≡ S4 w c u
unfolding S2 S3
overwrites w c u third second e d = rw (e, d) (same (S3 w c u) (S2 w c u))
