-- 02, request 6: "One call takes a list of (search number, cost, slope) laid end to end in one lent slice of f64". What
-- a list says, and what it is refused by.
use Rattle.std.specs.Prelude.{◌≡◌, ℕ, zero, suc, ◌%◌, Bool, true, cond, not, ◌&&◌, List, [], ◌∷◌, length, ◌==◌, nat_lt}
use Rattle.std.specs.Prelude.{Float, Option, Some, None, Ok, Err}
use Rattle.std.specs.Prelude as Rust
use Rattle.floats.specs.Arithmetic.{◌=ᶠ◌}
use Rattle.floats.specs.Numerals.{whole}
use Rattle.refusals.specs.Results.{Result, value, refused, Row, refuse◌else◌}
use Rattle.answers.specs.Many.{Answer}
use Rattle.answers.specs.declared.Refusal.{Refusal}
use Rattle.answers.specs.declared.Refusal.TheVariants.{Lengths, NoSuchSearch}

-- "Search numbers come as whole-valued floats 0 to 31; minus zero names search 0.": the number below n to which x is
-- equal as a float; 32 where there is none, for a NaN too
unfoldable pub number_below : ℕ → Float → ℕ
number_below zero x = 32
number_below (suc n) x = cond (x =ᶠ whole n) n (number_below n x)

-- the number that x names; 32, which no search has, where it names none
abbrev pub search_number : Float → ℕ
search_number x = number_below 32 x

-- the same as an Option: none where 32 is the number
abbrev pub search_named : Float → Option ℕ
search_named x = cond (nat_lt (search_number x) 32) (Some (search_number x)) None

-- "a list of (search number, cost, slope) laid end to end"; one or two floats left over at the end are no answer, and
-- refusal 1 has such a list
unfoldable pub answers_in : List Float → List Answer
answers_in [] = []
answers_in (x ∷ []) = []
answers_in (x ∷ f ∷ []) = []
answers_in (x ∷ f ∷ g ∷ xs) = (search_number x, (f, g)) ∷ answers_in xs

-- how many searches there are where n are spoken of: never more than 32
unfoldable pub size_of : ℕ → ℕ
size_of n = cond (nat_lt n 32) n 32

-- whether each number is below n
unfoldable pub all_named : ℕ → List Answer → Bool
all_named n [] = true
all_named n (a ∷ ys) = nat_lt a.0 n && all_named n ys

-- "Refusals: 1 if the length is no multiple of 3, 3 if any number, NaN too, names no search in the table; both are
-- checked over the whole list first": in a table of n searches
abbrev pub list_rows : ℕ → List Float → List Row
list_rows n xs = (1, not (length xs % 3 == 0)) ∷ (3, not (all_named (size_of n) (answers_in xs))) ∷ []

-- ---- what each case of an answer tells, a refusal by its number, and what `check`'s contract says of its result

abbrev pub refusal_number : Refusal → ℕ
refusal_number Lengths = 1
refusal_number NoSuchSearch = 3

abbrev pub checked_told : Rust.Result Unit Refusal → Result Unit
checked_told (Ok u) = value tt
checked_told (Err k) = refused (refusal_number k)

abbrev pub CheckedSaid : ℕ → List Float → Rust.Result Unit Refusal → Type 0
CheckedSaid n xs r = checked_told r ≡ refuse (list_rows n xs) else tt
