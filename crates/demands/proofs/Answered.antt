-- 01's table of refusals for Hager-Zhang, of any state: an answer is refused by 8 and by 2 exactly when their rows say
-- so, and else by 6, 5, 7 or 11 at most; and what that leaves (`answered`). Assumes nothing.
use mathlib.Core.Path.{◌≡◌, refl, sym, ap, ◌∙◌}
use mathlib.Core.Bool.{true, false, true≢false, false≢true}
use Rattle.std.proofs.lemmas.Option.{none-some}
use Prim.Native.Nat.{ℕ}
use lib.Ieee.{Float}
use Rattle.floats.proofs.Branches.{by_cases}
use Rattle.refusals.specs.Refusals.{given}
use Rattle.runs.specs.Outcomes.{Ending, asks, ends, told, refusal_in}
use Rattle.runs.proofs.Apart.{asks-not-ends}
use Rattle.runs.specs.declared.Outcome.{Outcome}
use Rattle.hagerzhang_rules.specs.Rules.{answer_finite}
use Rattle.hagerzhang_steps.specs.declared.state.Waiting.{Waiting}
use Rattle.hagerzhang_steps.specs.declared.state.Stage.{Stage}
use Rattle.hagerzhang_steps.specs.declared.state.Stage.TheVariants.{Open, Over}
use Rattle.hagerzhang.specs.declared.state.Search.{Search}
use Rattle.hagerzhang.specs.Machine.{Turn}
use Rattle.hagerzhang.specs.Machine.{held_at, taken_of, answer_by, AnswerSaid}
use Rattle.hagerzhang.specs.Meaning.{is_over, OfTheStep, not-refused}
use Rattle.hagerzhang.proofs.Answering.{Said, goes_on as asks-on, ended, react-said}
use Rattle.demands.specs.Demand1.{Answered}

-- ---- a finite answer: what it says of the stage that it leaves
of-step : {stage : Stage} {o : Outcome} → Said stage o → OfTheStep (refusal_in (told o))
of-step asks-on = not-refused
of-step (ended e a) = rw e a

then-over : {stage : Stage} {o : Outcome} → Said stage o → (e : Ending ℕ) → told o ≡ ends e → is_over stage ≡ true
then-over (asks-on {x = x}) e q = absurd (asks-not-ends x e (sym q))
then-over (ended e' a) e q = refl

then-open : {stage : Stage} {o : Outcome} → Said stage o → (x : Float) → told o ≡ asks x → is_over stage ≡ false
then-open asks-on x e = refl
then-open (ended {e = e'} told a) x e = absurd (asks-not-ends x e' (sym told ∙ e))

module _ (s : Search) (f g : Float) where
  taken : (waiting : Waiting) → s.stage ≡ Open waiting
      → Answered s f g (taken_of s.setup s.evaluations waiting f g)
  unfolding taken_of given held_at
  taken waiting w =
      by_cases (Answered s f g) (answer_finite f g)
      (λ e.
      let m = react-said s.setup waiting f g in
      record {
        early = λ n q. absurd (none-some n (sym (rw (w, e)) ∙ q));
        otherwise = λ q. of-step m;
        unchanged = λ q. absurd (false≢true (sym (ap is_over w) ∙ q));
        over = then-over m;
        goes_on = then-open m;
        keeps = λ q a. absurd (true≢false (sym e ∙ a));
        counts = rw (w, e);
      })
      (λ e. record {
        early = λ n q. sym (rw (w, e)) ∙ q;
        otherwise = λ q. absurd (none-some 2 (sym q ∙ rw (w, e)));
        unchanged = λ q. absurd (false≢true (sym (ap is_over w) ∙ q));
        over = λ e q. refl;
        goes_on = λ x q. absurd (asks-not-ends x _ q);
        keeps = λ q a. rw w;
        counts = rw (w, e);
      })

  by-stage : (stage : Stage) → s.stage ≡ stage → Answered s f g (answer_by s f g stage)
  unfolding answer_by given
  by-stage (Open waiting) w = taken waiting w
  by-stage (Over kept) w = record {
    early = λ n q. sym (rw w) ∙ q;
    otherwise = λ q. absurd (none-some 8 (sym q ∙ rw w));
    unchanged = λ q. refl;
    over = λ e q. rw w;
    goes_on = λ x q. absurd (asks-not-ends x _ q);
    keeps = λ q a. refl;
    counts = rw w;
  }

pub answered : (s : Search) (f g : Float) (r : Turn) → AnswerSaid s f g r → Answered s f g r
answered s f g r e = rw e (by-stage s f g s.stage refl)
