-- What is told of an outcome tells the outcome: 01's words tell the verdicts apart, as its numbers the refusals.
-- Assumes nothing.
use mathlib.Core.Path.{◌≡◌, refl, ap}
use Rattle.floats.proofs.Determined.{determined}
use Rattle.runs.specs.declared.Verdict.{Verdict}
use Rattle.runs.specs.declared.Verdict.TheVariants.{Met, Wolfe, Approximate}
use Rattle.refusals.proofs.Determined.{with_number, number-back}
use Rattle.runs.specs.declared.Outcome.{Outcome}
use Rattle.runs.specs.declared.Outcome.TheVariants.{Ask, Stop, Limit, Refused}
use Rattle.runs.specs.Outcomes.{Word, met, wolfe, approximate, stop, limit, refusal}
use Rattle.runs.specs.Outcomes.{Told, asks, ends, verdict_word, told}

with_word : Word → Verdict
with_word met = Met
with_word wolfe = Wolfe
with_word approximate = Approximate

word_back : (v : Verdict) → with_word (verdict_word v) ≡ v
unfolding with_word
word_back Met = refl
word_back Wolfe = refl
word_back Approximate = refl

read : Told → Outcome
read (asks x) = Ask x
read (ends (stop w x)) = Stop (with_word w) x
read (ends (limit x)) = Limit x
read (ends (refusal n)) = Refused (with_number n)

back : (o : Outcome) → read (told o) ≡ o
unfolding read
back (Ask x) = refl
back (Stop v x) = ap (λ (w : Verdict). Stop w x) (word_back v)
back (Limit x) = refl
back (Refused k) = ap Refused (number-back k)

pub told-determined : (r q : Outcome) → told r ≡ told q → r ≡ q
told-determined = determined told read back
