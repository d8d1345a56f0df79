-- One answer to the machine is one answer to 01's rules: what the next state stands for is what the rules leave, and
-- what is told is what they tell. A start is the rules' start. Assumes nothing of a state but that its limit is a u32.
use mathlib.Core.Path.{◌≡◌, refl, ap, ◌∙◌}
use mathlib.Core.Bool.{cond}
use Prim.Native.Nat.{ℕ, zero, suc, ◌+◌, ◌-◌, ◌<◌}
use native.Mathlib.Omega.{arith}
use lib.Dec.{leb}
use lib.Ieee.{Float}
use lib.Ieee.Scale.{finite}
use borrow.Author.Tests.{le-leb, lt-leb}
use Rattle.floats.specs.Arithmetic.{◌⊗◌}
use Rattle.floats.proofs.Branches.{by-cases₂}
use Rattle.refusals.specs.Results.{Result}
use Rattle.runs.specs.Outcomes.{Told, told}
use Rattle.runs.specs.Asking.{Rest, respond, shown, once_told, first_of}
use Rattle.runs.specs.Counters.{one_more, evaluations}
use Rattle.runs.proofs.Machines.{Seen, seen, counts-on}
use Rattle.runs.proofs.Begins as starting
use Rattle.runs.specs.declared.Evaluations.{Evaluations}
use Rattle.runs.specs.declared.Iterations.{Iterations}
use Rattle.runs.specs.declared.Outcome.TheVariants.{Ask, Limit, Refused}
use Rattle.refusals.specs.declared.Refusal.TheVariants.{StepNotFinite}
use Rattle.conditions.specs.Conditions.{answer_finite, holds_of}
use Rattle.backtracking.specs.declared.Options.{Options}
use Rattle.backtracking.specs.declared.Setup.{Setup}
use Rattle.backtracking.specs.declared.Stage.{Stage}
use Rattle.backtracking.specs.declared.Stage.TheVariants.{First, Later, Over}
use Rattle.backtracking.specs.declared.Backtracking.{Backtracking}
use Rattle.std.specs.Prelude.{Ok, Err}
use Rattle.backtracking.specs.Machine.{Turn, Started}
use Rattle.backtracking.specs.Backtracking.{start_rows, setup_of, further, trials, backtracking}
use Rattle.backtracking.specs.Machine.{made_of, fresh_of, start_of, StartSaid}
use Rattle.backtracking.specs.Machine.{tried_of, answer_by, answer_of, AnswerSaid}
use Rattle.backtracking.specs.Meaning.{meaning, meant, begun, Starts, Follows}

-- ---- one answer

abbrev denote : Turn → Seen ℕ
denote t = (meant t.search, told t.outcome)

abbrev Means : Turn → Rest ℕ → Type 0
Means t r = denote t ≡ seen r

module _ (s : Setup) (fits : s.options.limit < 4294967296) (n : Evaluations) (before now : Iterations)
    (t : Float) where
  abbrev m : Evaluations
  m = evaluations (one_more n.0)

  abbrev shorter : Float
  shorter = t ⊗ s.options.rho

  -- what follows a trial that did not meet the condition, while k trials may follow
  goes_on : (k : ℕ) → s.options.limit - now.0 ≡ k
      → Means
      (cond (leb s.options.limit now.0) (made_of s m now Over (Limit t))
      (cond (finite shorter) (made_of s m now (Later shorter) (Ask shorter))
      (made_of s m now Over (Refused StepNotFinite))))
      (further s k now.0 t)
  unfolding further seen once_told shown meaning
  goes_on zero e = rw (le-leb s.options.limit now.0 (omega arith))
  goes_on (suc k) e =
      let c : one_more now.0 ≡ now.0 + 1 = counts-on now.0 s.options.limit fits (omega arith) in
      let d : s.options.limit - (now.0 + 1) ≡ k = omega arith in
      rw (lt-leb s.options.limit now.0 (omega arith))
      (by-cases₂ Means (finite shorter) (λ f. rw (c, d)) (λ f. refl))

  -- one trial
  tried : (f g : Float)
      → Means (tried_of s n before now t f g)
      (respond (trials s (s.options.limit - now.0) before.0 now.0 t) f g)
  unfolding tried_of respond seen once_told shown meaning
  tried f g =
      by-cases₂ Means (answer_finite s.options.condition f g)
      (λ a. by-cases₂ Means (holds_of s.options.condition s.f0 s.s0 t f g) (λ h. refl) (λ h. goes_on _ refl))
      (λ a. refl)

answers_by : (s : Backtracking) → s.setup.options.limit < 4294967296 → (f g : Float) (stage : Stage)
    → s.stage ≡ stage → Means (answer_by s f g stage) (respond (meaning s.setup s.iterations.0 stage) f g)
unfolding answer_by meaning
answers_by s h f g First e = tried s.setup h s.evaluations s.iterations s.iterations _ f g
answers_by s h f g (Later t) e = tried s.setup h s.evaluations s.iterations _ t f g
answers_by s h f g Over e = unfold seen respond once_told shown in rw e

-- every answer to every state
pub answers : (s : Backtracking) → s.setup.options.limit < 4294967296 → (f g : Float)
    → Means (answer_of s f g) (respond (meant s) f g)
answers s h f g = answers_by s h f g s.stage refl

pub follows : (s : Backtracking) → s.setup.options.limit < 4294967296 → (f g : Float) (r : Turn)
    → AnswerSaid s f g r → Follows s f g r
unfolding seen
follows s h f g r e =
    let z = ap denote e ∙ answers s h f g in
    record { tells = ap (λ (p : Seen ℕ). p.1) z; leaves = ap (λ (p : Seen ℕ). p.0) z }

-- what `answer` promises of its result
pub promised : (s : Backtracking) → s.setup.options.limit < 4294967296 → (f g : Float) (r : Turn)
    → AnswerSaid s f g r → record { exact : AnswerSaid s f g r; rules : Follows s f g r }
promised s h f g r e = record { exact = e; rules = follows s h f g r e }

-- ---- `start`

pub starts-whole : (s : Setup) → meant (fresh_of s).search ≡ backtracking s
unfolding meaning
starts-whole s = let e : s.options.limit - 0 ≡ s.options.limit = omega arith in rw e

pub first-asked : (s : Setup) → told (fresh_of s).outcome ≡ shown (backtracking s)
unfolding shown
first-asked s = refl

-- what a result of a start stands for, and what it says, are the rules'
abbrev stands : Result Turn → Result (Rest ℕ)
stands = starting.stands (λ (t : Turn). meant t.search) (λ (t : Turn). told t.outcome)

abbrev says : Result Turn → Told
says = starting.says (λ (t : Turn). meant t.search) (λ (t : Turn). told t.outcome)

module _ (o : Options) (f0 s0 : Float) where
  start-stands : stands (start_of o f0 s0) ≡ begun o f0 s0
  start-stands =
      let s = setup_of o f0 s0 in
      starting.stands-so _ _ (start_rows o f0 s0) (fresh_of s) (backtracking s) (starts-whole s)

  start-says : says (start_of o f0 s0) ≡ first_of (begun o f0 s0)
  start-says =
      let s = setup_of o f0 s0 in
      starting.says_so _ _ (start_rows o f0 s0) (fresh_of s) (backtracking s) (first-asked s)

  pub starts : (r : Started) → StartSaid o f0 s0 r → Starts o f0 s0 r
  unfolding starting.stands starting.says
  starts (Ok t) e = record { stands-for = ap stands e ∙ start-stands; tells_first = ap says e ∙ start-says }
  starts (Err k) e = record { stands-for = ap stands e ∙ start-stands; tells_first = ap says e ∙ start-says }

  -- what `start` promises of its result
  pub start-promised : (r : Started) → StartSaid o f0 s0 r
      → record { exact : StartSaid o f0 s0 r; rules : Starts o f0 s0 r }
  start-promised r e = record { exact = e; rules = starts r e }
