-- 01, "Sample curves and jobs": how the lines show their numbers.
use Rattle.std.specs.Prelude.{ℕ, List, [], ◌∷◌, ◌++◌, Float}
use Rattle.std.specs.Float.{binary64}
use Rattle.std.specs.Float.Ieee.{to_bits}
use Rattle.text.specs.Text.{bytes, hex_of, decimal_of}

-- a float is written as its 64 bits
abbrev pub float_text : Float → List ℕ
float_text x = hex_of (to_bits binary64 x)

-- and after a blank, where numbers follow each other
abbrev pub next_text : Float → List ℕ
next_text x = bytes " " ++ float_text x

abbrev pub floats_text : List Float → List ℕ
floats_text [] = []
floats_text (x ∷ xs) = next_text x ++ floats_text xs

-- a line of a word and floats
abbrev pub floats_line : List ℕ → List Float → List ℕ
floats_line w xs = w ++ floats_text xs ++ bytes "\n"

-- a line of a word and a number
abbrev pub number_line : List ℕ → ℕ → List ℕ
number_line w n = w ++ decimal_of n ++ bytes "\n"
