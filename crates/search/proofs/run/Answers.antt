-- `search::run` meets its contract: what a job begins is a play that ends. Assumes nothing.
use Rattle.std.proofs.Common.{sym}
use Rattle.play.proofs.Ending.{begun-playable}
use Rattle.search.proofs.run.Goals as goal

pub tell-requires : goal.tell-requires
tell-requires g c = begun-playable _ _ _ (sym c.in-Ok.ensures)
