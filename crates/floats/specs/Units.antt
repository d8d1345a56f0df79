-- A finite f64 counted in units of the smallest f64 above 0, which is 2 ^ -1074. It is a whole number of them, and the
-- sign is left out: of -0 and +0 alike it is 0.
use Rattle.std.specs.Prelude.{ℕ, ◌*◌, ◌/◌, ◌^◌, Float}
use Rattle.std.specs.Float.{nan, inf, fin, binary64}
use Rattle.std.specs.Float.Ieee.{low, up, down}

unfoldable pub units : Float → ℕ
units nan = 0
units (inf s) = 0
units (fin s m e) = m * up e * 2 ^ low binary64 / down e
