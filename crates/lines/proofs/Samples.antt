-- The four lines of 01's sample job, and a line of each other kind, worked out. Assumes nothing.
use mathlib.Core.Path.{◌≡◌, refl}
use lib.Ieee.{Float, binary64, of_bits, to_bits}
use Rattle.text.specs.Text.{bytes, decimal_up_to}
use Rattle.runs.specs.Outcomes.{met, wolfe, approximate, stop, limit, refusal, asks, ends}
use Rattle.lines.specs.Lines.{outcome_line}

abbrev one : Float
one = of_bits binary64 0x3ff0_0000_0000_0000

pub samples : (outcome_line (asks (of_bits binary64 0)) 0 0 ≡ bytes "ASK 0000000000000000\n")
    × (outcome_line (asks (of_bits binary64 0x4010_0000_0000_0000)) 0 0 ≡ bytes "ASK 4010000000000000\n")
    × (outcome_line (asks one) 0 0 ≡ bytes "ASK 3FF0000000000000\n")
    × (outcome_line (ends (stop wolfe one)) 3 0 ≡ bytes "STOP wolfe 3FF0000000000000 evaluations 3 iterations 0\n")
    × (outcome_line (ends (stop approximate one)) 21 5
    ≡ bytes "STOP approximate 3FF0000000000000 evaluations 21 iterations 5\n")
    × (outcome_line (ends (stop met one)) 1 0 ≡ bytes "STOP met 3FF0000000000000 evaluations 1 iterations 0\n")
    × (outcome_line (ends (limit one)) 103 100 ≡ bytes "LIMIT 3FF0000000000000 evaluations 103 iterations 100\n")
    × (outcome_line (ends (refusal 8)) 7 2 ≡ bytes "REFUSED 8\n")
unfolding decimal_up_to of_bits to_bits
samples = (refl, refl, refl, refl, refl, refl, refl, refl)
