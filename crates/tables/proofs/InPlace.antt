-- One turn of the loop in `given`, over any values: the search with the answer's number has in its seat what its
-- `answer` gives, and an answer that names no search leaves the table. Assumes nothing.
use Rattle.std.proofs.Common.{◌≡◌, ℕ, ◌+◌, ◌<◌, List, [], ◌∷◌, map, length, get_or, set, drop, Some, None, ap}
use Rattle.std.proofs.Common.{add-one, drop-cons}
use lib.Ieee.{Float, nan}
use Rattle.answers.specs.Answers.{search_named, search_number}
use Rattle.answers.proofs.Lists.{answer_of, changed-set, changed-beyond}
use Rattle.answers.proofs.Numbers.{named-some, named-none}
use Rattle.seats.specs.Seats.{Seat, answered_of, machine}
use Rattle.tables.specs.declared.Table.{Table}
use Rattle.tables.specs.Tables.{given_to}

-- the answer at i, and then the others
pub one_turn : (t : Table) (cs : List (List Float)) (i : ℕ) (d : List Float) → i < length cs
    → given_to t (map answer_of (drop i cs))
    ≡ given_to (given_to t (answer_of (get_or cs i d) ∷ [])) (map answer_of (drop (i + 1) cs))
one_turn t cs i d h = rw (add-one, drop-cons cs i d h)

abbrev pub with_seat : Table → ℕ → Seat → Table
with_seat t n s = record { seats = set t.seats n s; size = t.size }

module _ (t : Table) (a : List Float) (all : length t.seats ≡ 32) where
  pub one-given : (n : ℕ) (z : Seat) → search_named (get_or a 0 nan) ≡ Some n
      → given_to t (answer_of a ∷ [])
      ≡ with_seat t n (answered_of (get_or t.seats n z) (get_or a 1 nan) (get_or a 2 nan))
  one-given n z e =
      let named = named-some (get_or a 0 nan) n e in
      ap (λ (u : List Seat). record { seats = u; size = t.size })
      (rw named.0 (changed-set t.seats n (λ s. machine.next s (get_or a 1 nan) (get_or a 2 nan)) z (rw all named.1)))

  pub none-given : search_named (get_or a 0 nan) ≡ None → given_to t (answer_of a ∷ []) ≡ t
  none-given e =
      ap (λ (u : List Seat). record { seats = u; size = t.size })
      (changed-beyond t.seats (search_number (get_or a 0 nan)) (λ s. machine.next s (get_or a 1 nan) (get_or a 2 nan))
      (rw all (named-none (get_or a 0 nan) e)))
