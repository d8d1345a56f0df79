-- The way of an answer in the start: 01's three answers, and a start that grows. Bookkeeping.
use Rattle.std.specs.Prelude.{ℕ, ◌-◌, cond, eqb, Float, Option, Some, None, Ok, Err}
use Rattle.std.specs.Float.Ieee.Scale.{finite}
use Rattle.refusals.specs.declared.Refusal.TheVariants.{StepNotFinite, GrowthsSpent}
use Rattle.hagerzhang_rules.specs.declared.Point.{Point}
use Rattle.hagerzhang_rules.specs.declared.Way.{Way}
use Rattle.hagerzhang_rules.specs.declared.Way.TheVariants.{Bounded, Growing}
use Rattle.hagerzhang_rules.specs.declared.Setup.{Setup}
use Rattle.hagerzhang_rules.specs.declared.Came.{Came}
use Rattle.hagerzhang_rules.specs.declared.Came.TheVariants.{To, On}
use Rattle.std.specs.Prelude as Rust
use Rattle.hagerzhang_steps.specs.declared.state.Growth.{Growth}
use Rattle.hagerzhang_steps.specs.declared.state.Opening.{Opening}
use Rattle.hagerzhang_steps.specs.declared.state.Opening.TheVariants.{Low, High, StartStep, First, Later, Inside}
use Rattle.hagerzhang_steps.specs.declared.opening.Opened.{Opened}
use Rattle.hagerzhang_steps.specs.declared.opening.Opened.TheVariants.{More, Done}
use Rattle.hagerzhang_rules.specs.Rules.{point, bracket, narrowed_of, zero_of, grown_of, longer_of}
use Rattle.hagerzhang_steps.specs.State.{growing}
use Rattle.hagerzhang_steps.specs.Moves.{probe_of}
use Rattle.hagerzhang_steps.specs.declared.state.Narrowing.{Narrowing}
use Rattle.refusals.specs.declared.Refusal.{Refusal}

-- what is asked first
unfoldable pub first_by : Setup → Way → Opening
first_by s (Bounded e) = Low e
first_by s (Growing K) = First (growing (zero_of s) s.options.params.start K)

abbrev pub first_of : Setup → Opening
first_of s = first_by s s.options.way

unfoldable pub inside_of : Point → Rust.Result Narrowing Refusal → Rust.Result Opened Refusal
inside_of c (Ok e) = Ok (More (Inside e c) e.d)
inside_of c (Err r) = Err r

unfoldable pub arrived_of : Float → Point → ℕ → Came → Rust.Result Opened Refusal
arrived_of theta c left (To w) = Ok (Done w c)
arrived_of theta c left (On h k) = inside_of c (probe_of theta h k left)

unfoldable pub stretch_of : Point → Point → ℕ → Rust.Result Opened Refusal
stretch_of c t left =
    let x = longer_of t in
    cond (eqb left 0) (Err GrowthsSpent)
    (cond (finite x) (Ok (More (Later (growing t x (left - 1)) c) x)) (Err StepNotFinite))

unfoldable pub grew_by : Setup → Point → Point → ℕ → Option Came → Rust.Result Opened Refusal
grew_by s c t left (Some came) = arrived_of s.options.params.theta c s.options.budget came
grew_by s c t left None = stretch_of c t left

abbrev pub grew_of : Setup → Growth → Point → Point → Rust.Result Opened Refusal
grew_of s w c t = grew_by s c t w.left (grown_of s.level (zero_of s) w.earlier t)

-- what an answer in the start leads to
unfoldable pub opens_of : Setup → Opening → Float → Float → Rust.Result Opened Refusal
opens_of s (Low e) f g = Ok (More (High (point e.min f g) e.max) e.max)
opens_of s (High a x) f g = Ok (More (StartStep (bracket a (point x f g))) s.options.params.start)
opens_of s (StartStep w) f g = Ok (Done w (point s.options.params.start f g))
opens_of s (First w) f g = grew_of s w (point w.x f g) (point w.x f g)
opens_of s (Later w c) f g = grew_of s w c (point w.x f g)
opens_of s (Inside e c) f g =
    arrived_of s.options.params.theta c e.left (narrowed_of s.level e.h e.k (point e.d f g))
