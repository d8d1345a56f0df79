-- 01, refusal 8: a search of either kind that is over refuses whatever is said to it, and stays as it is, by the law of
-- its own kind. It is the law `stays` of the trait Machine; the source names the proof, and may name what stands in
-- specs/ alone. Assumes nothing.
use mathlib.Core.Path.{◌≡◌, ap}
use mathlib.Core.Bool.{true}
use lib.Ieee.{Float}
use Rattle.runs.specs.declared.Outcome.TheVariants.{Refused}
use Rattle.refusals.specs.declared.Refusal.TheVariants.{AlreadyOver}
use Rattle.backtracking.specs.Over as backtracking
use Rattle.hagerzhang.specs.Over as hagerzhang
use Rattle.seats.specs.declared.Held.{Held}
use Rattle.seats.specs.declared.Held.TheVariants.{HagerZhang, Backtracks}
use Rattle.seats.specs.Seats.{hager_zhang_seat, backtracking_seat, answered_by, is_over}

pub stays : (h : Held) (f g : Float) → is_over h ≡ true
    → answered_by h f g ≡ record { search = h; outcome = Refused AlreadyOver }
unfolding answered_by
stays (HagerZhang s) f g e = ap hager_zhang_seat (hagerzhang.stays s f g e)
stays (Backtracks b) f g e = ap backtracking_seat (backtracking.stays b f g e)
