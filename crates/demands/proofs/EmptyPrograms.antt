-- 01, "How tight the contracts are": a program that refuses everything, one that asks the same step each time and one
-- that hands the state back untouched break demand 2. None of them meets the clause `rules` of backtracking's `answer`
-- (`first-shut-out`, `empty-shut-out`); and what the rules do instead (`second-ask`). Hager-Zhang's stand in
-- Demand2.antt. Assumes nothing.
use mathlib.Core.Path.{◌≡◌, refl, sym, ap, ◌∙◌}
use mathlib.Core.Bool.{true, false, false≢true}
use Rattle.std.specs.Prelude.{Some}
use Rattle.std.proofs.lemmas.Option.{none-some, same_Some}
use Prim.Native.Nat.{ℕ}
use lib.Ieee.{Float, mul, lt, of_bits, of_int}
use lib.Ieee.Scale.{finite}
use Rattle.floats.specs.Arithmetic.{◌⊗◌, ◌<ᶠ◌, 1ᶠ}
use Rattle.refusals.proofs.Refusals.{Passed, passed}
use Rattle.runs.specs.Outcomes.{asks, told, refusal_in}
use Rattle.runs.specs.Asking.{Rest, respond, shown, awaits, is_over, once_told}
use Rattle.runs.specs.Counters.{one_more}
use Rattle.runs.proofs.Tied.{moves-on}
use Rattle.conditions.specs.declared.Condition.{Condition}
use Rattle.conditions.specs.Conditions.{answer_finite, holds_of}
use Rattle.backtracking.specs.declared.Options.{Options}
use Rattle.backtracking.specs.declared.Setup.{Setup}
use Rattle.backtracking.specs.declared.Stage.{Stage}
use Rattle.backtracking.specs.declared.Stage.TheVariants.{First, Later, Over}
use Rattle.backtracking.specs.declared.Backtracking.{Backtracking}
use Rattle.backtracking.specs.Machine.{Turn}
use Rattle.std.specs.Prelude.{Ok}
use Rattle.backtracking.specs.Backtracking.{defaults_of, start_rows, setup_of, trials, backtracking}
use Rattle.backtracking.specs.Meaning.{meaning, meant, Starts, Follows}
use Rattle.demands.specs.Backtracking.{EmptyShutOut}
use Rattle.demands.proofs.Trials.{ranges, limit-left, trials-end}
use Rattle.demands.proofs.Trials.{no-refusal, asks-next, asks-shorter}

-- ---- a state that awaits an answer at x stands for a trial there
record Waits (s : Setup) (x : Float) (r : Rest ℕ) : Type 0 where
  left : ℕ
  before : ℕ
  now : ℕ
  stands : r ≡ trials s left before now x

waits : (s : Setup) (i : ℕ) (stage : Stage) (x : Float) → awaits (meaning s i stage) ≡ Some x
    → Waits s x (meaning s i stage)
unfolding meaning awaits
waits s i First x e =
    record { left = _; before = i; now = i; stands = ap (trials s _ _ _) (same_Some _ x e) }
waits s i (Later t) x e =
    record { left = _; before = i; now = one_more i; stands = ap (trials s _ _ _) (same_Some t x e) }
waits s i Over x e = absurd (none-some x e)

-- what meets `Starts` stands for the first trial
begun : (o : Options) (f0 s0 : Float) (t : Turn) → Starts o f0 s0 (Ok t)
    → Passed (start_rows o f0 s0) × Waits (setup_of o f0 s0) o.alpha (meant t.search)
begun o f0 s0 t starts =
    let s = setup_of o f0 s0 in
    let given = passed (start_rows o f0 s0) (backtracking s) (meant t.search) (sym starts.stands-for) in
    (given.0, record { left = o.limit; before = 0; now = 0; stands = sym given.1 })

-- ---- an answer to it
module _ (s : Setup) (x : Float) (b : Backtracking) (at : Waits s x (meant b)) (f g : Float) (r : Turn)
    (by : Follows b f g r) where
  abbrev here : Rest ℕ
  here = trials s at.left at.before at.now x

  tells : told r.outcome ≡ shown (respond here f g)
  tells = by.tells ∙ ap (λ (q : Rest ℕ). shown (respond q f g)) at.stands

  -- a state handed back untouched would stand for the same search
  untouched : r.search ≡ b → once_told here ≡ once_told (respond here f g)
  unfolding once_told
  untouched same =
      sym at.stands ∙ sym (ap meant same) ∙ by.leaves ∙ ap (λ (q : Rest ℕ). once_told (respond q f g)) at.stands

  shut_out : EmptyShutOut s x b f g r
  unfolding is_over
  shut_out = record {
    refusing = λ p q n e.
        none-some n
        (sym (ap refusal_in tells ∙ no-refusal s at.now x f g at.left at.before p q) ∙ e);
    same_step = λ differs e. differs (asks-next s at.now x f g at.left at.before x (sym tells ∙ e));
    untouched = λ same.
        moves-on here (trials-end s at.left at.before at.now x) refl f g (untouched same);
  }

pub first-shut-out : (o : Options) (f0 s0 : Float) (t : Turn) → Starts o f0 s0 (Ok t) → (f g : Float) (r : Turn)
    → Follows t.search f g r → EmptyShutOut (setup_of o f0 s0) o.alpha t.search f g r
first-shut-out o f0 s0 t starts f g r by =
    shut_out (setup_of o f0 s0) o.alpha t.search (begun o f0 s0 t starts).1 f g r by

pub empty-shut-out : (b : Backtracking) (x : Float) → awaits (meant b) ≡ Some x → (f g : Float) (r : Turn)
    → Follows b f g r → EmptyShutOut b.setup x b f g r
empty-shut-out b x e f g r by = shut_out b.setup x b (waits b.setup b.iterations.0 b.stage x e) f g r by

-- ---- and what they do instead: "Backtracking asks alpha, tests, then alpha*rho"

-- after a finite first answer that does not meet the condition, the step asked is alpha * rho
pub second-ask : (o : Options) (f0 s0 : Float) (t : Turn) → Starts o f0 s0 (Ok t) → (f g : Float)
    → answer_finite o.condition f g ≡ true → holds_of o.condition f0 s0 o.alpha f g ≡ false
    → finite (o.alpha ⊗ o.rho) ≡ true → (r : Turn) → Follows t.search f g r
    → told r.outcome ≡ asks (o.alpha ⊗ o.rho)
unfolding begun
second-ask o f0 s0 t starts f g p h q r by =
    let at = begun o f0 s0 t starts in
    by.tells ∙ ap (λ (c : Rest ℕ). shown (respond c f g)) at.1.stands
    ∙ asks-shorter (setup_of o f0 s0) 0 o.alpha f g o.limit 0 (limit-left o (ranges o f0 s0 at.0)) p h q

-- with argmin's defaults alpha * rho is not alpha
pub defaults-shrink : (C : Condition) → let o = defaults_of C in o.alpha ⊗ o.rho ≡ o.alpha → ⊥
unfolding mul lt of_bits of_int
defaults-shrink C e = false≢true (sym (ap (λ (z : Float). z <ᶠ 1ᶠ) e))
