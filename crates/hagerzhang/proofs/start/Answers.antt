-- `hagerzhang::start` meets its contract: 2, then 3, then 10, then 4. Where it begins, the search is the rules'.
-- Assumes nothing.
use borrow.Author.Rules.{rules}
use Rattle.hagerzhang.proofs.Bridge.{start-promised}
use Rattle.hagerzhang.proofs.start.Goals as goal

pub returns : goal.returns
returns c = start-promised _ _ _ _ (search rules)
