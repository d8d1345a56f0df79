-- 01's rules of backtracking: of "Parameters" its two, of "Numbers in, numbers refused" N, a start's two rows and their
-- order, and its sentences under "Conditions".
use Rattle.std.specs.Prelude.{ℕ, zero, suc, ◌+◌, Bool, cond, not, ◌&&◌, List, [], ◌∷◌, leb, Float}
use Rattle.std.specs.Float.{binary64}
use Rattle.std.specs.Float.Ieee.{of_bits}
use Rattle.std.specs.Float.Ieee.Scale.{finite}
use Rattle.floats.specs.Arithmetic.{◌⊗◌, ◌<ᶠ◌, 0ᶠ, 1ᶠ}
use Rattle.refusals.specs.Results.{Row}
use Rattle.runs.specs.Outcomes.{met, stop, limit, refusal, step_not_finite}
use Rattle.runs.specs.Asking.{Rest, end_with, keeping, question}
use Rattle.conditions.specs.declared.Condition.{Condition}
use Rattle.conditions.specs.Conditions.{constants_finite, in_range, answer_finite, holds_of}
use Rattle.backtracking.specs.declared.Options.{Options}
use Rattle.backtracking.specs.declared.Setup.{Setup}

-- ---- 01, "Parameters": "rho 0.9 in (0, 1); alpha 1, > 0"; "Numbers in, numbers refused": "iteration limit N is 1 to
-- 10,000 (default 100)"

abbrev pub defaults_of : Condition → Options
defaults_of C = record {
  condition = C;
  rho = of_bits binary64 0x3fec_cccc_cccc_cccd;
  alpha = 1ᶠ;
  limit = 100;
}

abbrev pub supplied_finite : Options → Float → Float → Bool
supplied_finite o f0 s0 =
    constants_finite o.condition && finite o.rho && finite o.alpha && finite f0 && finite s0

abbrev pub limit_in_range : ℕ → Bool
limit_in_range n = leb 1 n && leb n 10000

abbrev pub parameters_in_range : Options → Bool
parameters_in_range o = in_range o.condition && 0ᶠ <ᶠ o.rho && o.rho <ᶠ 1ᶠ && 0ᶠ <ᶠ o.alpha

abbrev pub in_ranges : Options → Bool
in_ranges o = parameters_in_range o && limit_in_range o.limit

-- 01's table, of a start: "a supplied number is NaN or infinite"; "a parameter, B, N or curve number is outside its
-- range"
abbrev pub start_rows : Options → Float → Float → List Row
start_rows o f0 s0 = (2, not (supplied_finite o f0 s0)) ∷ (3, not (in_ranges o)) ∷ []

abbrev pub setup_of : Options → Float → Float → Setup
setup_of o f0 s0 = record { options = o; f0 = f0; s0 = s0 }

-- ---- "Backtracking asks alpha, tests, then alpha*rho, and so on; each later trial is one iteration."

module _ (s : Setup) where
  -- A trial at t. Before its answer is accepted `before` iterations are counted, and a refusal keeps that count; with
  -- it there are `now`, one more, but at the first trial. The stop has "the verdict "met" and the step"; "the verdict
  -- is tested first, then the limit".
  abbrev pub tested : ℕ → ℕ → Float → Rest ℕ → Rest ℕ
  tested before now t otherwise =
      question (answer_finite s.options.condition) (keeping before) before t λ f g.
      cond (holds_of s.options.condition s.f0 s.s0 t f g) (end_with now (stop met t)) otherwise

  -- What follows where t does not meet the condition and n trials may follow; "its limit has the last step tested".
  -- Refusal 5: "the next trial step comes out not finite; nothing is asked". 01's table names it for any search; one
  -- that `start` gave never comes to it (`never-five`, demands/specs/Backtracking.antt).
  unfoldable pub further : ℕ → ℕ → Float → Rest ℕ
  further zero now t = end_with now (limit t)
  further (suc n) now t =
      let shorter = t ⊗ s.options.rho in
      cond (finite shorter) (tested now (now + 1) shorter (further n (now + 1) shorter))
      (end_with now (refusal (step_not_finite shorter)))

  abbrev pub trials : ℕ → ℕ → ℕ → Float → Rest ℕ
  trials n before now t = tested before now t (further n now t)

abbrev pub backtracking : Setup → Rest ℕ
backtracking s = trials s s.options.limit 0 0 s.options.alpha
