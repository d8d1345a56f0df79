-- The line of a refusal of vectors, without an index and with one, worked out. Assumes nothing.
use mathlib.Core.Path.{◌≡◌, refl}
use Rattle.text.specs.Text.{bytes, decimal_up_to}
use Rattle.vectors.specs.Faults.{alone, ◌at◌}
use Rattle.case_lines.specs.CaseLines.{fault_line}

pub samples : (fault_line (alone 1) ≡ bytes "REFUSED 1\n") × (fault_line (2 at 39) ≡ bytes "REFUSED 2 at 39\n")
unfolding decimal_up_to
samples = (refl, refl)
