-- `backtracking::start` meets its contract: 2, then 3. Assumes nothing.
use Rattle.floats.proofs.Branches.{by_call}
use Rattle.backtracking.proofs.Bridge.{start-promised}
use Rattle.backtracking.proofs.start.Goals as goal

pub returns-then-not-supplied_finite : goal.returns-then-not-supplied_finite
returns-then-not-supplied_finite c =
    start-promised _ _ _ _ (rw (by_call _ _ _ c.supplied_finite.ensures c.if-not-supplied_finite.true))

pub returns-then-not-in_ranges : goal.returns-then-not-in_ranges
returns-then-not-in_ranges c =
    start-promised _ _ _ _
    (rw (
      by_call _ _ _ c.supplied_finite.ensures c.if-not-supplied_finite.false,
      by_call _ _ _ c.in_ranges.ensures c.if-not-in_ranges.true,
    ))

pub returns : goal.returns
returns c =
    start-promised _ _ _ _
    (rw (
      by_call _ _ _ c.supplied_finite.ensures c.if-not-supplied_finite.false,
      by_call _ _ _ c.in_ranges.ensures c.if-not-in_ranges.false,
      c.fresh.ensures,
    ))
