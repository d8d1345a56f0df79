-- Some numbers as text, worked out. Assumes nothing.
use mathlib.Core.Path.{◌≡◌, refl}
use Rattle.text.specs.Text.{bytes, hex_of, decimal_up_to, decimal_of}

pub samples : (hex_of 0 ≡ bytes "0000000000000000")
    × (hex_of 0x3ff0_0000_0000_0000 ≡ bytes "3FF0000000000000")
    × (hex_of 0x0123_4567_89ab_cdef ≡ bytes "0123456789ABCDEF")
    × (hex_of 0xffff_ffff_ffff_ffff ≡ bytes "FFFFFFFFFFFFFFFF")
    × (decimal_of 0 ≡ bytes "0")
    × (decimal_of 9 ≡ bytes "9")
    × (decimal_of 10 ≡ bytes "10")
    × (decimal_of 4294967295 ≡ bytes "4294967295")
    × (decimal_of 18446744073709551615 ≡ bytes "18446744073709551615")
unfolding decimal_up_to
samples = (refl, refl, refl, refl, refl, refl, refl, refl, refl)
