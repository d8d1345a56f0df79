-- The machines' counters: they count up, and stop at the largest u32. 01's rules count by plain + 1, and are checked
-- without this; for each search theorems say that its counters hold what the rules count, so that no search that was
-- started gets there.
use Rattle.std.specs.Prelude.{ℕ, ◌+◌, cond, ltb}
use Rattle.runs.specs.declared.Evaluations.{Evaluations}
use Rattle.runs.specs.declared.Iterations.{Iterations}

unfoldable pub one_more : ℕ → ℕ
one_more n = cond (ltb n 4294967295) (n + 1) n

abbrev pub evaluations : ℕ → Evaluations
evaluations n = record { 0 = n }

abbrev pub iterations : ℕ → Iterations
iterations n = record { 0 = n }
