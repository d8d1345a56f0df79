-- 01, "What changes shape": "the search hands out a request and is given the answer .. One ask covers cost and slope."
-- The rules of a search are written as a run: it asks for cost and slope at a step and goes on by the answer, until it
-- has a result.
use Rattle.std.specs.Prelude.{ℕ, ◌+◌, Bool, true, false, cond, not, ◌&&◌, List, [], ◌∷◌, Float, Option, Some, None}
use Rattle.refusals.specs.Results.{Result, value, refused}
use Rattle.runs.specs.Outcomes.{Ending, refusal, Told, asks, ends, Why, answer_not_finite, already_over, numbered}

-- K is what is reported while an answer is awaited, R what the run comes to
pub data Run (K R : Type 0) : Type 0 where
  ask : K → Float → (Float → Float → Run K R) → Run K R
  end : R → Run K R

-- a whole search: at its end it keeps what it then reports, and says how it ended; a refusal carries its reason
pub record Ended (K : Type 0) : Type 0 where
  pub keeps : K
  pub by : Ending Why

abbrev pub Rest : Type 0 → Type 0
Rest K = Run K (Ended K)

abbrev pub end_with : {K : Type 0} → K → Ending Why → Rest K
end_with k e = end (record { keeps = k; by = e })

-- over by a refusal, keeping what was reported
abbrev pub keeping : {K : Type 0} → K → Why → Ended K
keeping k why = record { keeps = k; by = refusal why }

-- an answer: cost and slope
abbrev pub Reply : Type 0
Reply = Float × Float

module _ {K : Type 0} where
  -- 01, refusal 8: a search that is over refuses whatever is said to it, and reports what it did ("state unchanged")
  unfoldable pub respond : Rest K → Float → Float → Rest K
  respond (ask k x then) f g = then f g
  respond (end o) f g = end_with o.keeps (refusal already_over)

  -- what a search tells when it has come here, a refusal by its number, and what it reports
  unfoldable pub shown : Rest K → Told
  shown (ask k x then) = asks x
  shown (end o) = ends (numbered o.by)

  unfoldable pub reported : Rest K → K
  reported (ask k x then) = k
  reported (end o) = o.keeps

  -- the step at which an answer is awaited
  unfoldable pub awaits : Rest K → Option Float
  awaits (ask k x then) = Some x
  awaits (end o) = None

  unfoldable pub is_over : Rest K → Bool
  is_over (ask k x then) = false
  is_over (end o) = true

  -- what is left of a search once it has told its outcome: where it ended, it refuses whatever is said to it (8). A
  -- state of the machine stands for this
  unfoldable pub once_told : Rest K → Rest K
  once_told (ask k x then) = ask k x then
  once_told (end o) = end_with o.keeps (refusal already_over)

  -- what a start tells: the first step, or the refusal
  abbrev pub first_of : Result (Rest K) → Told
  first_of (value r) = shown r
  first_of (refused n) = ends (refusal n)

  -- ---- for any list of answers: what they bring, and where they lead

  unfoldable pub outcomes : Rest K → List Reply → List Told
  outcomes r [] = []
  outcomes r (y ∷ ys) = shown (respond r y.0 y.1) ∷ outcomes (respond r y.0 y.1) ys

  unfoldable pub after : Rest K → List Reply → Rest K
  after r [] = r
  after r (y ∷ ys) = after (respond r y.0 y.1) ys

-- 01, refusal 2: a step is asked; an answer that is not finite, by the search's test, is refused
module _ {K R : Type 0} (is_finite : Float → Float → Bool) (refuse : Why → R) (k : K) where
  abbrev pub question : Float → (Float → Float → Run K R) → Run K R
  question x then = ask k x (λ f g. cond (is_finite f g) (then f g) (end (refuse (answer_not_finite f g))))

-- ---- a machine with states S: its next state, what it says, and whether it is over. The same for any list of answers
pub record Machine (S : Type 0) : Type 0 where
  pub next : S → Float → Float → S
  pub says : S → Float → Float → Told
  pub over : S → Bool

module _ {S : Type 0} (m : Machine S) where
  unfoldable pub reached : S → List Reply → S
  reached s [] = s
  reached s (y ∷ ys) = reached (m.next s y.0 y.1) ys

  unfoldable pub played : S → List Reply → List Told
  played s [] = []
  played s (y ∷ ys) = m.says s y.0 y.1 ∷ played (m.next s y.0 y.1) ys

  -- what is told at one more answer
  abbrev pub told_next : S → List Reply → Reply → Told
  told_next s ys y = m.says (reached s ys) y.0 y.1

  -- how many of the answers are given while it asks, and pass the test
  unfoldable pub tallied : (Float → Float → Bool) → S → List Reply → ℕ
  tallied test s [] = 0
  tallied test s (y ∷ ys) =
      cond (not (m.over s) && test y.0 y.1) 1 0 + tallied test (m.next s y.0 y.1) ys
