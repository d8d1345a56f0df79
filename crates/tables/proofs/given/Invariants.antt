-- What holds at each turn of `tables::given`'s loop: what the answers before this one left, with those from it on still
-- to give, is what all of them leave. Assumes nothing.
use Rattle.std.proofs.Common.{◌≡◌, map, drop, length}
use Rattle.answers.proofs.Lists.{answer_of}
use Rattle.tables.specs.Tables.{given_to}
use Rattle.tables.proofs.given.Given as goal

abbrev pub invariant-loop-number : goal.invariant-loop-number
invariant-loop-number l =
    (length l.table.seats ≡ 32)
    × (given_to l.initial.table (map answer_of l.number-items)
    ≡ given_to l.table (map answer_of (drop l.number-index l.number-items)))
