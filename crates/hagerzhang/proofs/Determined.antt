-- 01, "How tight the contracts are": any two results that the contract of `start` or of `answer` allows are identical.
-- What is told of a start tells it whole; an answer's next state and outcome are said themselves. Assumes nothing.
use mathlib.Core.Path.{◌≡◌, sym, ◌∙◌}
use lib.Ieee.{Float}
use Rattle.refusals.proofs.Determined.{same_told}
use Rattle.hagerzhang_rules.specs.declared.Options.{Options}
use Rattle.hagerzhang.specs.declared.state.Search.{Search}
use Rattle.hagerzhang.specs.Machine.{Turn, Started, StartSaid, AnswerSaid}

pub start-determined : (o : Options) (f0 s0 : Float) (r q : Started) → StartSaid o f0 s0 r → StartSaid o f0 s0 q → r ≡ q
start-determined o f0 s0 r q e e' = same_told r q (e ∙ sym e')

pub answer-determined : (s : Search) (f g : Float) (r q : Turn) → AnswerSaid s f g r → AnswerSaid s f g q → r ≡ q
answer-determined s f g r q e e' = e ∙ sym e'
