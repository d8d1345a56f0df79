-- 02, request 6: "the table of searches", up to 32 of them; how a search comes to sit in it, and what a list of answers
-- leaves of it.
use Rattle.std.specs.Prelude.{◌+◌, ◌≡◌, cond, List, ltb, replicate, set, take, Float, Some, None, Ok, Err}
use Rattle.std.specs.Prelude as Rust
use Rattle.floats.specs.Arithmetic.{0ᶠ}
use Rattle.refusals.specs.Results.{Result, value, refused, refuse◌else◌}
use Rattle.refusals.specs.declared.Refusal.TheVariants.{AlreadyOver}
use Rattle.runs.specs.Counters.{evaluations, iterations}
use Rattle.runs.specs.declared.Outcome.TheVariants as Outcomes
use Rattle.conditions.specs.declared.Condition.TheVariants.{Armijo}
use Rattle.backtracking.specs.declared.Backtracking.{Backtracking}
use Rattle.backtracking.specs.declared.Stage.TheVariants.{Over}
use Rattle.answers.specs.Many.{Answer, given_all}
use Rattle.answers.specs.declared.Refusal.{Refusal}
use Rattle.answers.specs.Answers.{answers_in, size_of, list_rows, refusal_number}
use Rattle.seats.specs.declared.Held.TheVariants.{Backtracks}
use Rattle.seats.specs.Seats.{Seat, seat_of, machine}
use Rattle.tables.specs.declared.Table.{Table}
use Rattle.tables.specs.declared.Seated.{Seated}
use Rattle.tables.specs.declared.Scanned.{Scanned}

-- the searches of a table, by number. A table that was made by hand may say that it has more than its 32 seats
abbrev pub searches_in : Table → List Seat
searches_in t = take (size_of t.size) t.seats

-- what stands in a seat that no search has taken: one that is over, so that its answers would meet 8
abbrev pub idle_search : Backtracking
idle_search = record {
  setup = record {
    options = record { condition = Armijo 0ᶠ; rho = 0ᶠ; alpha = 0ᶠ; limit = 0 };
    f0 = 0ᶠ;
    s0 = 0ᶠ;
  };
  evaluations = evaluations 0;
  iterations = iterations 0;
  stage = Over;
}

abbrev pub vacant_seat : Seat
vacant_seat = seat_of (Backtracks idle_search) (Outcomes.Refused AlreadyOver)

abbrev pub empty_table : Table
empty_table = record { seats = replicate 32 vacant_seat; size = 0 }

-- a search takes the next seat, whose place is its number; a full table stays as it was, and the place says so
unfoldable pub seated_of : Table → Seat → Seated
seated_of t s =
    cond (ltb t.size 32)
    (record { table = record { seats = set t.seats t.size s; size = t.size + 1 }; place = Some t.size })
    (record { table = t; place = None })

-- "It shall equal the answers given one at a time in list order, a search named twice included."
abbrev pub given_to : Table → List Answer → Table
given_to t ys = record { seats = given_all machine t.seats ys; size = t.size }

abbrev pub scan_of : Table → List Float → Result Table
scan_of t xs = refuse (list_rows t.size xs) else given_to t (answers_in xs)

-- a refused list "change[s] nothing"
abbrev pub table_after : Result Table → Table → Table
table_after (value t) was = t
table_after (refused n) was = was

-- ---- what `scan` tells, a refusal by its number, and what its contract says of a result

abbrev pub table_told : Rust.Result Unit Refusal → Table → Result Table
table_told (Ok u) t = value t
table_told (Err k) t = refused (refusal_number k)

abbrev pub ScanSaid : Table → List Float → Scanned → Type 0
ScanSaid t xs r = (table_told r.checked r.table ≡ scan_of t xs) × (r.table ≡ table_after (scan_of t xs) t)
