-- `backtracking::Backtracking::answer` meets its contract: the next state is the bookkeeping's, and so the rules'. The
-- state was handed in, so each number in it fits its type, which `omega` reads. Assumes nothing.
use mathlib.Core.Path.{◌∙◌}
use native.Mathlib.Omega.{arith}
use Rattle.backtracking.specs.Machine.{answer_by}
use Rattle.backtracking.proofs.Bridge.{promised}
use Rattle.backtracking.proofs.BacktrackingMachine.answer.Goals as goal

pub returns-in-First : goal.returns-in-First
unfolding answer_by
returns-in-First c =
    let a = c.args in
    promised a.self (omega arith) a.f a.g _ (rw c.in-First.is c.tried.ensures)

pub returns-in-Later : goal.returns-in-Later
unfolding answer_by
returns-in-Later c =
    let a = c.args in
    promised a.self (omega arith) a.f a.g _ (rw c.in-Later.is (c.tried-in-Later.ensures ∙ rw c.next.ensures))

pub returns-in-Over : goal.returns-in-Over
unfolding answer_by
returns-in-Over c =
    let a = c.args in
    promised a.self (omega arith) a.f a.g _ (rw c.in-Over.is)
