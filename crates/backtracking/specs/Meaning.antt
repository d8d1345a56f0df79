-- What a state stands for in 01's rules: the search that is left. And what `start` and `answer` promise in the rules'
-- terms.
use Rattle.std.specs.Prelude.{ℕ, ◌-◌, ◌≡◌, Bool, true, false, Float, Ok, Err}
use Rattle.refusals.specs.Results.{Result, value, refused, refuse◌else◌}
use Rattle.runs.specs.Outcomes.{refusal, already_over, Told, ends, told}
use Rattle.refusals.specs.Refusals.{number_of}
use Rattle.runs.specs.Asking.{Rest, end_with, respond, shown, first_of, once_told}
use Rattle.runs.specs.Counters.{one_more}
use Rattle.backtracking.specs.declared.Options.{Options}
use Rattle.backtracking.specs.declared.Setup.{Setup}
use Rattle.backtracking.specs.declared.Stage.{Stage}
use Rattle.backtracking.specs.declared.Stage.TheVariants.{First, Later, Over}
use Rattle.backtracking.specs.declared.Backtracking.{Backtracking}
use Rattle.backtracking.specs.Machine.{Turn, Started}
use Rattle.backtracking.specs.Backtracking.{start_rows, setup_of, trials, backtracking}

-- i iterations are counted
unfoldable pub meaning : Setup → ℕ → Stage → Rest ℕ
meaning s i First = trials s (s.options.limit - i) i i s.options.alpha
meaning s i (Later t) = trials s (s.options.limit - one_more i) i (one_more i) t
meaning s i Over = end_with i (refusal already_over)

abbrev pub meant : Backtracking → Rest ℕ
meant s = meaning s.setup s.iterations.0 s.stage

abbrev pub is_over : Stage → Bool
is_over First = false
is_over (Later t) = false
is_over Over = true

-- ---- `start`: the refusal's number, or the search that 01's rules are for the accepted setup

abbrev pub start_told : Started → Result (Rest ℕ)
start_told (Ok r) = value (meant r.search)
start_told (Err k) = refused (number_of k)

abbrev pub begun : Options → Float → Float → Result (Rest ℕ)
begun o f0 s0 = refuse (start_rows o f0 s0) else backtracking (setup_of o f0 s0)

-- what a start says: the first step, or the refusal
abbrev pub start_says : Started → Told
start_says (Ok r) = told r.outcome
start_says (Err k) = ends (refusal (number_of k))

pub record Starts (o : Options) (f0 s0 : Float) (r : Started) : Type 0 where
  pub stands-for : start_told r ≡ begun o f0 s0
  pub tells_first : start_says r ≡ first_of (begun o f0 s0)

-- ---- `answer`: what is told is what the rules tell at this answer, and what is left is what they leave

pub record Follows (s : Backtracking) (f g : Float) (r : Turn) : Type 0 where
  pub tells : told r.outcome ≡ shown (respond (meant s) f g)
  pub leaves : meant r.search ≡ once_told (respond (meant s) f g)
