-- `runs::Iterations::next` meets its contract. Assumes nothing.
use Rattle.runs.proofs.Iterations.next.Goals as goal

pub returns : goal.returns
returns c = rw c.one_more.ensures
