-- `hagerzhang::Search::answer` meets its contract: the next state is the bookkeeping's, and so the rules'. Assumes
-- nothing.
use Prim.Native.Nat.{◌<◌}
use native.Mathlib.Omega.{arith}
use Rattle.hagerzhang.specs.Machine.{answer_by}
use Rattle.hagerzhang.proofs.Bridge.{promised}
use Rattle.hagerzhang.proofs.SearchMachine.answer.Goals as goal

pub returns-in-Open : goal.returns-in-Open
unfolding answer_by
returns-in-Open c =
    -- The state was handed in, so each number in it fits its type: `omega` reads that from `c`.
    let fits : c.args.self.setup.options.limit < 4294967296 = omega arith in
    promised _ _ _ fits _ (rw c.in-Open.is c.taken.ensures)

pub returns-in-Over : goal.returns-in-Over
unfolding answer_by
returns-in-Over c =
    let fits : c.args.self.setup.options.limit < 4294967296 = omega arith in
    promised c.args.self c.args.f c.args.g fits _ (rw c.in-Over.is)
