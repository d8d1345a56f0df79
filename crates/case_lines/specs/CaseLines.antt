-- docs/FORMATS.md, "What `cases` writes": a case's own lines. Each ends with a newline. (`POINT` has nothing behind it,
-- and stands in the program itself.)
use Rattle.std.specs.Prelude.{ℕ, List, [], ◌∷◌, ◌++◌, Float}
use Rattle.text.specs.Text.{bytes, decimal_of}
use Rattle.text.specs.Figures.{floats_line, number_line}
use Rattle.vectors.specs.Faults.{Fault, alone, ◌at◌}
use Rattle.lines.specs.Lines.{refused_line}

-- `CASE k`: "k counts from 1"
abbrev pub head_line : ℕ → List ℕ
head_line k = number_line (bytes "CASE ") k

-- `MALFORMED at b`: "b is the byte, counted from 0, where that field began"
abbrev pub malformed_line : ℕ → List ℕ
malformed_line b = number_line (bytes "MALFORMED at ") b

-- a dot: `VALUE h`
abbrev pub value_line : Float → List ℕ
value_line x = floats_line (bytes "VALUE") (x ∷ [])

-- `REFUSED n at i`: "i is the index of the first element at fault, counted from 0, in decimal"
abbrev pub refused_at_line : ℕ → ℕ → List ℕ
refused_at_line n i = bytes "REFUSED " ++ decimal_of n ++ number_line (bytes " at ") i

-- a dot or a point that is refused
abbrev pub fault_line : Fault → List ℕ
fault_line (alone n) = refused_line n
fault_line (n at i) = refused_at_line n i

-- a point: "`OUT` and the buffer's numbers, each behind a blank"
abbrev pub buffer_line : List Float → List ℕ
buffer_line xs = floats_line (bytes "OUT") xs
