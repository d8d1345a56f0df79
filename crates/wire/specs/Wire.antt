-- 01, "Sample curves and jobs": "most significant byte first, floats as their 64 bits". So that any bytes have a
-- reading, one past the end is 0; a reader of 01's fields tests lengths first (refusal 9), and never sees that.
use Rattle.std.specs.Prelude.{ℕ, ◌+◌, ◌*◌, List, get_or, Float}
use Rattle.std.specs.Float.{binary64}
use Rattle.std.specs.Float.Ieee.{of_bits}

abbrev pub byte_at : List ℕ → ℕ → ℕ
byte_at s i = get_or s i 0

abbrev pub pair_of : List ℕ → ℕ
pair_of s = byte_at s 0 * 256 + byte_at s 1

abbrev pub quad_of : List ℕ → ℕ
quad_of s = byte_at s 0 * 0x100_0000 + byte_at s 1 * 0x1_0000 + byte_at s 2 * 256 + byte_at s 3

abbrev pub word_of : List ℕ → ℕ
word_of s =
    byte_at s 0 * 0x100_0000_0000_0000
    + byte_at s 1 * 0x1_0000_0000_0000
    + byte_at s 2 * 0x100_0000_0000
    + byte_at s 3 * 0x1_0000_0000
    + byte_at s 4 * 0x100_0000
    + byte_at s 5 * 0x1_0000
    + byte_at s 6 * 256
    + byte_at s 7

abbrev pub float_of : List ℕ → Float
float_of s = of_bits binary64 (word_of s)
