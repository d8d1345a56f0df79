-- 01's table of refusals for backtracking: an answer to any state is refused by exactly the rows of
-- specs/Backtracking.antt, and leaves what is said there (`answered`). Assumes nothing.
use mathlib.Core.Path.{◌≡◌, refl, sym, ap, ◌∙◌}
use mathlib.Core.Bool.{Bool, true, false, cond, not, false≢true}
use Rattle.std.specs.Prelude.{Some, None}
use Rattle.std.proofs.lemmas.Option.{none-some}
use Prim.Native.Nat.{ℕ}
use lib.Dec.{leb}
use lib.Ieee.{Float}
use lib.Ieee.Scale.{finite}
use Rattle.floats.specs.Arithmetic.{◌⊗◌}
use Rattle.floats.proofs.Branches.{by_cases}
use Rattle.refusals.specs.Refusals.{given, is_in_order}
use Rattle.refusals.specs.declared.Refusal.TheVariants.{SuppliedNotFinite, StepNotFinite}
use Rattle.runs.specs.Outcomes.{Ending, ends, told, refusal_in}
use Rattle.runs.specs.Counters.{one_more, evaluations, iterations}
use Rattle.runs.specs.declared.Outcome.{Outcome}
use Rattle.runs.specs.declared.Outcome.TheVariants.{Ask, Stop, Limit, Refused}
use Rattle.runs.specs.declared.Verdict.TheVariants.{Met}
use Rattle.runs.specs.declared.Evaluations.{Evaluations}
use Rattle.runs.specs.declared.Iterations.{Iterations}
use Rattle.runs.proofs.Apart.{asks-not-ends}
use Rattle.conditions.specs.Conditions.{answer_finite, holds_of}
use Rattle.backtracking.specs.declared.Setup.{Setup}
use Rattle.backtracking.specs.declared.Stage.{Stage}
use Rattle.backtracking.specs.declared.Stage.TheVariants.{First, Later, Over}
use Rattle.backtracking.specs.declared.Backtracking.{Backtracking}
use Rattle.backtracking.specs.Machine.{Turn}
use Rattle.backtracking.specs.Machine.{made_of, tried_of, answer_by, AnswerSaid}
use Rattle.backtracking.specs.Meaning.{is_over}
use Rattle.demands.specs.Backtracking.{next_trial, trial_due, is_not_finite, trials_rows, trials_kept, Tried}

-- ---- what an answer to a trial at t can come to, before which n evaluations and `before` iterations are counted
module _ (P : Turn → Type 0) (s : Setup) (n : Evaluations) (before now : Iterations) (t f g : Float) where
  abbrev is_finite : Bool
  is_finite = answer_finite s.options.condition f g

  abbrev holds : Bool
  holds = holds_of s.options.condition s.f0 s.s0 t f g

  abbrev at_limit : Bool
  at_limit = leb s.options.limit now.0

  abbrev next : Float
  next = t ⊗ s.options.rho

  abbrev m : Evaluations
  m = evaluations (one_more n.0)

  pub by_tests : (is_finite ≡ false → P (made_of s n before Over (Refused SuppliedNotFinite)))
      → (is_finite ≡ true → holds ≡ true → P (made_of s m now Over (Stop Met t)))
      → (is_finite ≡ true → holds ≡ false → at_limit ≡ true → P (made_of s m now Over (Limit t)))
      → (is_finite ≡ true → holds ≡ false → at_limit ≡ false → finite next ≡ true
      → P (made_of s m now (Later next) (Ask next)))
      → (is_finite ≡ true → holds ≡ false → at_limit ≡ false → finite next ≡ false
      → P (made_of s m now Over (Refused StepNotFinite)))
      → P (tried_of s n before now t f g)
  unfolding tried_of
  by_tests two stop limit ask five =
      by_cases P is_finite
      (λ a. by_cases P holds (stop a)
      (λ h. by_cases P at_limit (limit a h) (λ l. by_cases P (finite next) (ask a h l) (five a h l))))
      two

-- ---- the table, of a trial at t, with which `now` iterations are counted
module _ (b : Backtracking) (f g : Float) (stage : Stage) (w : b.stage ≡ stage) (o : is_over stage ≡ false)
    (now : Iterations) (t : Float)
    (due : trial_due b stage f g ≡ next_trial b.setup now.0 t f g)
    (kept : trials_kept b stage f g
    ≡ cond (answer_finite b.setup.options.condition f g) now.0 b.iterations.0) where
  abbrev s : Setup
  s = b.setup

  abbrev fine : Bool
  fine = answer_finite s.options.condition f g

  runs : is_over b.stage ≡ false
  runs = ap is_over w ∙ o

  rows : given (trials_rows b f g)
      ≡ cond (not fine) (Some 2) (cond (is_not_finite (next_trial s now.0 t f g)) (Some 5) None)
  unfolding given
  rows = rw (runs, ap (λ (at : Stage). trial_due b at f g) w ∙ due)

  keeps-if : (a : Bool) → fine ≡ a → cond a now.0 b.iterations.0 ≡ trials_kept b b.stage f g
  keeps-if a e =
      sym (ap (λ (at : Stage). trials_kept b at f g) w ∙ kept
      ∙ ap (λ (v : Bool). cond v now.0 b.iterations.0) e)

  -- an outcome that is told as the rows say
  comes : (a : Bool) → fine ≡ a → (i : Iterations) (at : Stage) (out : Outcome)
      → refusal_in (told out) ≡ given (trials_rows b f g)
      → ((e : Ending ℕ) → told out ≡ ends e → is_over at ≡ true)
      → ((n : ℕ) → refusal_in (told out) ≡ Some n → i.0 ≡ trials_kept b b.stage f g)
      → Tried b f g (made_of s (evaluations (cond a (one_more b.evaluations.0) b.evaluations.0)) i at out)
  unfolding is_in_order
  comes a e i at out by over keeps = record {
    refused-by = record { exactly = by; ordered = refl };
    unchanged = λ q. absurd (false≢true (sym runs ∙ q));
    over = over;
    keeps = keeps;
    counts = rw (runs, e);
  }

  tried : Tried b f g (tried_of s b.evaluations b.iterations now t f g)
  tried =
      by_tests (Tried b f g) s b.evaluations b.iterations now t f g
      (λ a. comes false a b.iterations Over (Refused SuppliedNotFinite) (rw (rows, a)) (λ e q. refl)
      (λ n q. keeps-if false a))
      (λ a h. comes true a now Over (Stop Met t) (rw (rows, a, h)) (λ e q. refl)
      (λ n q. absurd (none-some n q)))
      (λ a h l. comes true a now Over (Limit t) (rw (rows, a, h, l)) (λ e q. refl)
      (λ n q. absurd (none-some n q)))
      (λ a h l x. comes true a now (Later _) (Ask _) (rw (rows, a, h, l, x))
      (λ e q. absurd (asks-not-ends _ e (sym q))) (λ n q. absurd (none-some n q)))
      (λ a h l x. comes true a now Over (Refused StepNotFinite) (rw (rows, a, h, l, x)) (λ e q. refl)
      (λ n q. keeps-if true a))

by-stage : (b : Backtracking) (f g : Float) (stage : Stage) → b.stage ≡ stage → Tried b f g (answer_by b f g stage)
unfolding answer_by given is_in_order
by-stage b f g First w =
    tried b f g First w refl b.iterations b.setup.options.alpha refl
    (by_cases (λ n. b.iterations.0 ≡ n) (answer_finite b.setup.options.condition f g) (λ e. refl) (λ e. refl))
by-stage b f g (Later t) w = tried b f g (Later t) w refl (iterations (one_more b.iterations.0)) t refl refl
by-stage b f g Over w = record {
  refused-by = record { exactly = rw w; ordered = refl };
  unchanged = λ q. refl;
  over = λ e q. rw w;
  keeps = λ n q. rw w;
  counts = rw w;
}

pub answered : (b : Backtracking) (f g : Float) (r : Turn) → AnswerSaid b f g r → Tried b f g r
answered b f g r e = rw e (by-stage b f g b.stage refl)
