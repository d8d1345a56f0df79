-- 02, request 6: "the table of searches". A seat in it: a search of either kind with what it last told, and one answer
-- to it, which is that of its own kind.
use Rattle.std.specs.Prelude.{Bool, Float}
use Rattle.runs.specs.declared.Turn as Runs
use Rattle.runs.specs.declared.Counts.{Counts}
use Rattle.runs.specs.declared.Outcome.{Outcome}
use Rattle.runs.specs.Outcomes.{told}
use Rattle.runs.specs.Asking.{Machine}
use Rattle.backtracking.specs.Machine.{Turn as TrialTurn, answer_of as trial_of, counted_of as trials_counted}
use Rattle.backtracking.specs.Meaning.{is_over as trials_over}
use Rattle.hagerzhang.specs.Machine.{Turn, answer_of, counted_of as hager_zhang_counted}
use Rattle.hagerzhang.specs.Meaning.{is_over as hager_zhang_over}
use Rattle.seats.specs.declared.Held.{Held}
use Rattle.seats.specs.declared.Held.TheVariants.{HagerZhang, Backtracks}

-- what the code calls a `Seat`
abbrev pub Seat : Type 0
Seat = Runs.Turn Held

abbrev pub seat_of : Held → Outcome → Seat
seat_of h o = record { search = h; outcome = o }

-- what a start or an answer gave, seated
abbrev pub hager_zhang_seat : Turn → Seat
hager_zhang_seat t = seat_of (HagerZhang t.search) t.outcome

abbrev pub backtracking_seat : TrialTurn → Seat
backtracking_seat t = seat_of (Backtracks t.search) t.outcome

-- one answer, by the search's own kind
unfoldable pub answered_by : Held → Float → Float → Seat
answered_by (HagerZhang s) f g = hager_zhang_seat (answer_of s f g)
answered_by (Backtracks b) f g = backtracking_seat (trial_of b f g)

abbrev pub answered_of : Seat → Float → Float → Seat
answered_of s f g = answered_by s.search f g

-- what it has counted, by its own kind
abbrev pub counted_of : Held → Counts
counted_of (HagerZhang s) = hager_zhang_counted s
counted_of (Backtracks b) = trials_counted b

abbrev pub is_over : Held → Bool
is_over (HagerZhang s) = hager_zhang_over s.stage
is_over (Backtracks b) = trials_over b.stage

-- a seat as a machine
abbrev pub machine : Machine Seat
machine = record {
  next = answered_of;
  says = λ s f g. told (answered_of s f g).outcome;
  over = λ s. is_over s.search;
}
