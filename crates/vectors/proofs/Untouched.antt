-- 01's table of refusals, "buffers untouched": where `point` refuses, the buffer holds what it held. Assumes nothing.
use mathlib.Core.Path.{◌≡◌, sym, ap, ◌∙◌}
use mathlib.Core.List.{List}
use lib.Ieee.{Float}
use Rattle.refusals.specs.Results.{ResultBy, refused}
use Rattle.std.specs.Prelude.{Result}
use Rattle.vectors.specs.declared.Refusal.{Refusal}
use Rattle.vectors.specs.Faults.{Fault}
use Rattle.vectors.specs.Vectors.{held_after}
use Rattle.vectors.specs.Told.{point_told, PointSaid}

pub buffers-untouched : (x0 : List Float) (alpha : Float) (d held : List Float) (r : Result (Unit {0}) Refusal)
    (now : List Float) (k : Fault) → PointSaid x0 alpha d held r now → point_told r now ≡ refused k → now ≡ held
buffers-untouched x0 alpha d held r now k said e =
    said.1 ∙ ap (λ (a : ResultBy Fault (List Float)). held_after a held) (sym said.0 ∙ e)
