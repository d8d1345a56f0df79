-- 01's twelve marked sums, M8 as 02's request 4 has it, hold of the written rules, as one list under a single claim
-- (specs/MarkedSums.antt): by computing in f64. Assumes nothing.
use mathlib.Core.Path.{◌≡◌, refl, ap, ◌∙◌}
use mathlib.Core.Bool.{Bool, true, false, cond}
use mathlib.Core.List.{List, [], ◌∷◌}
use lib.IntN.{negsuc}
use lib.Ieee.{Float, fin, add, sub, mul, div, neg, le, lt, eq, of_bits, of_int}
use Rattle.floats.specs.Numerals.{whole}
use Rattle.runs.specs.Outcomes.{answer_not_finite}
use Rattle.runs.specs.Asking.{end}
use Rattle.std.specs.Prelude.{None, Some}
use Rattle.hagerzhang_rules.specs.declared.Came.TheVariants.{To}
use Rattle.hagerzhang_rules.specs.Rules.{point, answer_finite, secant_of, S4, update, update_of, narrowed_of, S2, S3}
use Rattle.hagerzhang_rules.specs.Rules.{L2, best_over, trial, between, U3, updating, further, after_s4}
use Rattle.hagerzhang_rules.specs.Rules.{iteration_by}
use Rattle.hagerzhang_rules.specs.MarkedSums.{setup, a, Asks, by_number, becomes, updated-with, left, steps, ½}
use Rattle.hagerzhang_rules.specs.MarkedSums.{low, at-minimum, iterated, accepts, MarkedSums}

-- M8 behind the answer at S1's step, rule by rule: the run itself, computed at once, is too long for the checker
abbrev behind : Float → Float → Asks
behind f g =
    update (setup 100) by_number tt at-minimum (point (secant_of a low) f g) λ u.
    further (setup 100) by_number tt (S4 at-minimum (secant_of a low) u) u λ v.
    after_s4 (setup 100) by_number tt at-minimum v becomes

unchanged : (f g : Float) → update_of (setup 100).level at-minimum (point (secant_of a low) f g) ≡ Some (To at-minimum)
unfolding update_of add sub mul div neg le lt eq of_bits of_int
unchanged f g = refl

no-e : S4 at-minimum (secant_of a low) at-minimum ≡ None
unfolding S2 S3 add sub mul div neg le lt eq of_bits of_int
no-e = refl

-- 0.5 by way of its own form: the checker takes too long where it compares the two quotients as they are written
halves : L2 (setup 100).options.params.gamma at-minimum at-minimum ≡ Some ½
unfolding L2 add sub mul div neg le lt eq of_bits of_int
halves =
    let as-form : L2 (setup 100).options.params.gamma at-minimum at-minimum ≡ Some (fin false 1 (negsuc 0)) = refl in
    let as-half : fin false 1 (negsuc 0) ≡ ½ = refl in
    as-form ∙ ap Some as-half

then-½ : (f g : Float) → steps (behind f g) [] ≡ ½ ∷ []
unfolding steps after_s4 further trial U3 updating of_bits of_int mul div neg
then-½ f g = rw (unchanged f g, no-e, halves)

goes_on : (f g : Float) → answer_finite f g ≡ true → steps iterated ((f, g) ∷ []) ≡ whole 1 ∷ ½ ∷ []
unfolding iterated iteration_by trial steps add sub mul div neg of_bits of_int
goes_on f g e =
    ap (λ (b : Bool). whole 1 ∷ steps (cond b (behind f g) (end (by_number (answer_not_finite f g)))) []) e
    ∙ ap (λ (xs : List Float). whole 1 ∷ xs) (then-½ f g)

pub marked-sums : MarkedSums
unfolding accepts updated-with left steps iterated iteration_by after_s4 further trial between U3 updating
    update_of narrowed_of S2 S3 L2 best_over add sub mul div neg le lt eq of_bits of_int
marked-sums = record {
  setup-accepted = (refl, refl);
  M1 = refl;
  M2 = λ f g. (refl, refl);
  M3 = refl;
  M4 = refl;
  M5 = (refl, refl);
  M6 = (refl, refl);
  M7 = (refl, refl);
  M8 = (refl, λ f g. refl, refl, halves, goes_on);
  M9 = λ x y z p q r. (refl, refl);
  M10 = λ s. (refl, refl);
  M11 = λ s. (refl, refl, refl, refl);
  M12 = (refl, refl, refl, refl);
}
