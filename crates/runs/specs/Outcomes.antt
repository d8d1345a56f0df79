-- 01, "What changes shape": "An outcome is an ask carrying its step, a stop with its verdict and step, a limit, or a
-- refusal." Here as 01 tells it: the verdict by its word, a refusal by its number; and what each case of the code's
-- outcome tells.
use Rattle.std.specs.Prelude.{ℕ, Float, Option, Some, None}
use Rattle.runs.specs.declared.Verdict.{Verdict}
use Rattle.runs.specs.declared.Verdict.TheVariants.{Met, Wolfe, Approximate}
use Rattle.refusals.specs.Refusals.{number_of}
use Rattle.runs.specs.declared.Outcome.{Outcome}
use Rattle.runs.specs.declared.Outcome.TheVariants.{Ask, Stop, Limit, Refused}

pub data Word : Type 0 where
  met wolfe approximate : Word

-- how a search ended. N is what is known of a refusal: its number where it is told, and in the rules its reason
pub data Ending (N : Type 0) : Type 0 where
  stop : Word → Float → Ending N
  limit : Float → Ending N
  refusal : N → Ending N

pub data Told : Type 0 where
  asks : Float → Told
  ends : Ending ℕ → Told

-- why a search is refused, with the numbers that show it
pub data Why : Type 0 where
  -- this cost and slope were supplied
  answer_not_finite : Float → Float → Why
  -- this would be the next step
  step_not_finite : Float → Why
  -- U3 has had its answers, and stands between these ends
  budget_spent : Float → Float → Why
  -- U3's ends, and its next step
  step_not_between : Float → Float → Float → Why
  -- a start that grows has grown as often as it may, and this was its last step
  growths_spent : Float → Why
  already_over : Why
  -- the Rust's error "unreachable point", which has no number in 01: "cannot occur here. This is proved."
  unreachable : Why

-- its number in 01's table "Numbers in, numbers refused", or in 02
abbrev pub number_for : Why → ℕ
number_for (answer_not_finite f g) = 2
number_for (step_not_finite x) = 5
number_for (budget_spent h k) = 6
number_for (step_not_between h k x) = 7
number_for (growths_spent x) = 11
number_for already_over = 8
number_for unreachable = 0

abbrev pub numbered : Ending Why → Ending ℕ
numbered (stop w x) = stop w x
numbered (limit x) = limit x
numbered (refusal why) = refusal (number_for why)

-- ---- what the code's outcome tells

abbrev pub verdict_word : Verdict → Word
verdict_word Met = met
verdict_word Wolfe = wolfe
verdict_word Approximate = approximate

abbrev pub told : Outcome → Told
told (Ask x) = asks x
told (Stop v x) = ends (stop (verdict_word v) x)
told (Limit x) = ends (limit x)
told (Refused k) = ends (refusal (number_of k))

-- the number in what is told, where that is a refusal
abbrev pub refusal_in : Told → Option ℕ
refusal_in (asks x) = None
refusal_in (ends (stop w x)) = None
refusal_in (ends (limit x)) = None
refusal_in (ends (refusal n)) = Some n
