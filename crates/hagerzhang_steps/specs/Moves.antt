-- The end of the start or of an iteration, and a move: tested and made. Bookkeeping.
use Rattle.std.specs.Prelude.{ℕ, ◌-◌, cond, ◌&&◌, leb, eqb, Float, Option, Some, None, Ok, Err}
use Rattle.std.specs.Float.Ieee.Scale.{finite}
use Rattle.floats.specs.Arithmetic.{◌<ᶠ◌}
use Rattle.runs.specs.declared.Iterations.{Iterations}
use Rattle.runs.specs.declared.Outcome.TheVariants.{Stop, Limit, Refused}
use Rattle.refusals.specs.declared.Refusal.{Refusal}
use Rattle.refusals.specs.declared.Refusal.TheVariants.{StepNotFinite, BudgetSpent, StepNotBetween}
use Rattle.hagerzhang_rules.specs.declared.Point.{Point}
use Rattle.hagerzhang_rules.specs.declared.Bracket.{Bracket}
use Rattle.hagerzhang_rules.specs.declared.Setup.{Setup}
use Rattle.std.specs.Prelude as Rust
use Rattle.hagerzhang_steps.specs.declared.state.Finished.{Finished}
use Rattle.hagerzhang_steps.specs.declared.state.Rule.{Rule}
use Rattle.hagerzhang_steps.specs.declared.state.Rule.TheVariants.{S1 as ByS1}
use Rattle.hagerzhang_steps.specs.declared.state.Trial.{Trial}
use Rattle.hagerzhang_steps.specs.declared.state.Asked.TheVariants.{Update, Between}
use Rattle.hagerzhang_steps.specs.declared.state.Waiting.TheVariants.{Running}
use Rattle.hagerzhang_steps.specs.declared.moves.Move.{Move}
use Rattle.hagerzhang_steps.specs.declared.moves.Move.TheVariants.{Try, Narrow, ByVerdict, ByLimit}
use Rattle.hagerzhang_steps.specs.declared.moves.Tested.{Tested}
use Rattle.hagerzhang_steps.specs.declared.moves.Tested.TheVariants.{Asks, Narrows, Stops}
use Rattle.hagerzhang_steps.specs.declared.state.Next.{Next}
use Rattle.hagerzhang_rules.specs.Rules.{middle_of, secant_of, best_of, judge_of}
use Rattle.hagerzhang_steps.specs.State.{narrowing, asks_of, ended_of}
use Rattle.runs.specs.declared.Verdict.{Verdict}
use Rattle.hagerzhang_steps.specs.declared.state.Narrowing.{Narrowing}

abbrev pub tries_of : Bracket → Rule → Float → Move
tries_of u rule x = Try u (record { rule = rule; x = x })

abbrev pub refused_of : Refusal → Tested
refused_of r = Stops (Refused r)

unfoldable pub attempt_of : Bracket → Trial → Tested
attempt_of u t = cond (finite t.x) (Asks u t) (refused_of StepNotFinite)

unfoldable pub probe_of : Float → Point → Float → ℕ → Rust.Result Narrowing Refusal
probe_of theta h k left =
    let d = middle_of theta h k in
    cond (eqb left 0) (Err BudgetSpent)
    (cond (finite d) (cond (h.x <ᶠ d && d <ᶠ k) (Ok (narrowing h k d (left - 1))) (Err StepNotBetween))
    (Err StepNotFinite))

unfoldable pub narrow_by : Trial → Rust.Result Narrowing Refusal → Tested
narrow_by t (Ok e) = Narrows t e
narrow_by t (Err r) = refused_of r

abbrev pub narrow_of : Float → Trial → Point → Float → ℕ → Tested
narrow_of theta t h k left = narrow_by t (probe_of theta h k left)

unfoldable pub test_of : Float → Float → Move → Tested
test_of theta best (Try u t) = attempt_of u t
test_of theta best (Narrow t h k left) = narrow_of theta t h k left
test_of theta best (ByVerdict v) = Stops (Stop v best)
test_of theta best ByLimit = Stops (Limit best)

unfoldable pub made_by : Finished → Tested → Next
made_by last (Asks u t) = asks_of (Running t last (Update u)) t.x
made_by last (Narrows t e) = asks_of (Running t last (Between e)) e.d
made_by last (Stops o) = ended_of (Some last) o

abbrev pub made_of : Float → Finished → Move → Next
made_of theta last m = made_by last (test_of theta last.best.x m)

unfoldable pub outlook_by : Setup → Finished → Option Verdict → Move
outlook_by s last (Some v) = ByVerdict v
outlook_by s last None =
    cond (leb s.options.limit last.iterations.0) ByLimit
    (tries_of last.bracket ByS1 (secant_of last.bracket.a last.bracket.b))

abbrev pub outlook_of : Setup → Finished → Move
outlook_of s last = outlook_by s last (judge_of s last.best)

abbrev pub finished_of : Bracket → Point → Iterations → Finished
finished_of w c i = record { bracket = w; c = c; best = best_of w.a w.b c; iterations = i }

abbrev pub settled_of : Setup → Bracket → Point → Iterations → Next
settled_of s w c i = made_of s.options.params.theta (finished_of w c i) (outlook_of s (finished_of w c i))
