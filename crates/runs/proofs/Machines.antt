-- One answer: what the machine comes to against what the rules come to, and a counter that goes up. Once for every
-- search. Assumes nothing.
use mathlib.Core.Path.{◌≡◌}
use mathlib.Core.Bool.{Bool, true, false, cond}
use Prim.Native.Nat.{ℕ, ◌+◌, ◌<◌}
use native.Mathlib.Omega.{arith}
use lib.Dec.{ltb}
use borrow.Author.Tests.{lt-ltb}
use Rattle.runs.specs.Outcomes.{Told}
use Rattle.runs.specs.Counters.{one_more}
use Rattle.runs.specs.Asking.{Rest, shown, once_told}

-- what the machine comes to: its next state's meaning, and what it tells
abbrev pub Seen : Type 0 → Type 0
Seen K = Rest K × Told

module _ {K : Type 0} where
  unfoldable pub seen : Rest K → Seen K
  seen r = (once_told r, shown r)

-- a counter that an accepted answer raises
pub adds_one : (a : Bool) (n m k : ℕ) → n < 4294967295 → k ≡ cond a (one_more n) n → k + m ≡ n + (cond a 1 0 + m)
unfolding one_more
adds_one true n m k h e =
    let l : ltb n 4294967295 ≡ true = lt-ltb n 4294967295 h in
    let p : k ≡ n + 1 = rw l at e in
    omega arith
adds_one false n m k h e = omega arith

-- a count below a limit that is a u32 goes up by one
pub counts-on : (n l : ℕ) → l < 4294967296 → n < l → one_more n ≡ n + 1
unfolding one_more
counts-on n l h k = rw (lt-ltb n 4294967295 (omega arith))
