-- How a state is built: a step is asked, and the search is over. Bookkeeping, as all of specs/ but Reports.antt.
use Rattle.std.specs.Prelude.{ℕ, Float, Option}
use Rattle.runs.specs.declared.Outcome.{Outcome}
use Rattle.runs.specs.declared.Outcome.TheVariants.{Ask}
use Rattle.hagerzhang_rules.specs.declared.Point.{Point}
use Rattle.hagerzhang_steps.specs.declared.state.Narrowing.{Narrowing}
use Rattle.hagerzhang_steps.specs.declared.state.Growth.{Growth}
use Rattle.hagerzhang_steps.specs.declared.state.Waiting.{Waiting}
use Rattle.hagerzhang_steps.specs.declared.state.Stage.{Stage}
use Rattle.hagerzhang_steps.specs.declared.state.Stage.TheVariants.{Open, Over}
use Rattle.hagerzhang_steps.specs.declared.state.Next.{Next}
use Rattle.hagerzhang_steps.specs.declared.state.Finished.{Finished}

abbrev pub narrowing : Point → Float → Float → ℕ → Narrowing
narrowing h k d left = record { h = h; k = k; d = d; left = left }

abbrev pub growing : Point → Float → ℕ → Growth
growing earlier x left = record { earlier = earlier; x = x; left = left }

abbrev pub next : Stage → Outcome → Next
next s o = record { stage = s; outcome = o }

abbrev pub asks_of : Waiting → Float → Next
asks_of waiting x = next (Open waiting) (Ask x)

abbrev pub ended_of : Option Finished → Outcome → Next
ended_of kept o = next (Over kept) o
