-- Text as bytes of ASCII, and what a lent buffer holds once text is written to it.
use Rattle.std.specs.Prelude.{ℕ, zero, suc, ◌+◌, ◌/◌, ◌%◌, ◌^◌, ◌≡◌, cond, ltb, length, set}
use Rattle.text.specs.declared.Cursor.{Cursor}
use Prim.Native.Char.{code}
use Prim.Native.String.{String}
use Prim.Native.String as Quoted
use mathlib.Core.List.{List, [], ◌∷◌, ◌++◌, foldl}

-- ---- a lent buffer

-- what it holds, and the place of the next byte
pub record Page : Type 0 where
  pub held : List ℕ
  pub at : ℕ

abbrev pub page : List ℕ → ℕ → Page
page held at = record { held = held; at = at }

-- one byte more; where the buffer is full, it is dropped
abbrev pub put : Page → ℕ → Page
put p b = cond (ltb p.at (length p.held)) (page (set p.held p.at b) (p.at + 1)) p

-- the bytes one after the other, as many as there is room for
unfoldable pub write : Page → List ℕ → Page
write p text = foldl put p text

-- the text was written: q lends the buffer that p lent, with the text in it from p's place on, and stands behind it
pub record Writes (p : Cursor) (text : List ℕ) (q : Cursor) : Type 0 where
  pub same_buffer : q.buffer.ghost_name ≡ p.buffer.ghost_name
  pub written : page q.buffer.now q.at ≡ write (page p.buffer.now p.at) text

-- ---- text

abbrev pub bytes : String → List ℕ
bytes Quoted.[] = []
bytes (Quoted.◌∷◌ c s) = code c ∷ bytes s

-- the digit of a number below 16: `0` to `9`, then `A` to `F`
abbrev pub digit : ℕ → ℕ
digit d = cond (ltb d 10) (48 + d) (55 + d)

-- the last k digits in base 16, the highest first
abbrev pub hex_digits : ℕ → ℕ → List ℕ
hex_digits zero w = []
hex_digits (suc k) w = digit (w / 16 ^ k % 16) ∷ hex_digits k w

abbrev pub hex_of : ℕ → List ℕ
hex_of w = hex_digits 16 w

-- the last k digits in base 10 at most, and no 0 in front
unfoldable pub decimal_up_to : ℕ → ℕ → List ℕ
decimal_up_to zero n = []
decimal_up_to (suc k) n = cond (ltb n 10) (digit n ∷ []) (decimal_up_to k (n / 10) ++ digit (n % 10) ∷ [])

-- a number of 64 bits has at most 20
abbrev pub decimal_of : ℕ → List ℕ
decimal_of n = decimal_up_to 20 n
