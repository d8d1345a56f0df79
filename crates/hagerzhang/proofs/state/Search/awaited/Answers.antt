-- `hagerzhang::Search::awaited` meets its contract: the step at which the rules await an answer. Assumes nothing.
use mathlib.Core.Path.{ap}
use Rattle.std.specs.Prelude.{Some}
use Rattle.hagerzhang.specs.Machine.{awaited_at}
use Rattle.hagerzhang.proofs.Answering.{awaited-promised}
use Rattle.hagerzhang.proofs.state.Search.awaited.Goals as goal

pub returns-in-Open : goal.returns-in-Open
unfolding awaited_at
returns-in-Open c =
    awaited-promised c.args.self _
    (rw c.in-Open.is (ap Some c.step_due.ensures))

pub returns-in-Over : goal.returns-in-Over
unfolding awaited_at
returns-in-Over c = awaited-promised c.args.self _ (rw c.in-Over.is)
