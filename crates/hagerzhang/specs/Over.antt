-- 01, refusal 8: a search that is over refuses whatever is said to it, and stays as it is. It is the law `stays` of
-- the trait Machine; the source names the proof, and may name what stands in specs/ alone. Assumes nothing.
use mathlib.Core.Path.{◌≡◌, refl}
use mathlib.Core.Bool.{true, false≢true}
use lib.Ieee.{Float}
use Rattle.runs.specs.declared.Outcome.TheVariants.{Refused}
use Rattle.refusals.specs.declared.Refusal.TheVariants.{AlreadyOver}
use Rattle.hagerzhang_steps.specs.declared.state.Stage.{Stage}
use Rattle.hagerzhang_steps.specs.declared.state.Stage.TheVariants.{Open, Over}
use Rattle.hagerzhang.specs.declared.state.Search.{Search}
use Rattle.hagerzhang.specs.Machine.{answer_by, answer_of}
use Rattle.hagerzhang.specs.Meaning.{is_over}

by_stage : (s : Search) (f g : Float) (stage : Stage) → is_over stage ≡ true
    → answer_by s f g stage ≡ record { search = s; outcome = Refused AlreadyOver }
unfolding answer_by
by_stage s f g (Open waiting) e = absurd (false≢true e)
by_stage s f g (Over kept) e = refl

pub stays : (s : Search) (f g : Float) → is_over s.stage ≡ true
    → answer_of s f g ≡ record { search = s; outcome = Refused AlreadyOver }
stays s f g e = by_stage s f g s.stage e
