-- `text::hex_digits`: the first digits are those of the number.
use Rattle.std.proofs.Common.{◌≡◌, ◌<◌, ℕ, ◌-◌, ◌*◌, ◌/◌, ◌%◌, ◌^◌, length, get_or}
use Rattle.text.specs.Text.{digit}
use Rattle.text.proofs.hex_digits.Given as goal

abbrev pub invariant-loop-i : goal.invariant-loop-i
invariant-loop-i l =
    (length l.d-items ≡ 16)
    × ((k : ℕ) → k < l.i → get_or l.d-items k 0 ≡ digit (l.w / 2 ^ (60 - 4 * k) % 16))
