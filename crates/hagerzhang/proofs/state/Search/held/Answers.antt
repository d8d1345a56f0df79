-- `hagerzhang::Search::held` meets its contract: what a state holds, which is what the rules report there. Assumes
-- nothing.
use Rattle.hagerzhang.specs.Machine.{held_at}
use Rattle.hagerzhang.proofs.Answering.{held-promised}
use Rattle.hagerzhang.proofs.state.Search.held.Goals as goal

pub returns-in-Open : goal.returns-in-Open
unfolding held_at
returns-in-Open c =
    held-promised c.args.self _
    (rw c.in-Open.is c.keeps.ensures)

pub returns-in-Over : goal.returns-in-Over
unfolding held_at
returns-in-Over c = held-promised c.args.self _ (rw c.in-Over.is)
