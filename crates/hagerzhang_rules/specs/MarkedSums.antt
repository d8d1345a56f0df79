-- 01, "The twelve marked sums", about the rules of specs/Rules.antt and of the conditions: one list, as 01 writes it,
-- with M8 as 02's request 4 mends it; in a setup that 01 accepts. A sum holds for every value of what 01 leaves open in
-- it. Proved as a single claim, `marked-sums` (proofs/MarkedSums.antt).
use Rattle.std.specs.Prelude.{◌≡◌, Bool, true, false, ◌⊎◌, List, [], ◌∷◌, ℕ, Float, None, Some}
use Rattle.std.proofs.Common.{inl, inr}
use Rattle.floats.specs.Numerals.{whole, quarters, minus}
use Rattle.refusals.specs.Results.{Result, value, refuse◌else◌}
use Rattle.runs.specs.Outcomes.{Why, number_for}
use Rattle.runs.specs.Asking.{Run, ask, end, Reply}
use Rattle.conditions.specs.declared.Condition.{Condition}
use Rattle.conditions.specs.declared.Condition.TheVariants.{Armijo, Goldstein, Wolfe, StrongWolfe}
use Rattle.conditions.specs.Conditions.{holds_of}
use Rattle.hagerzhang_rules.specs.declared.Point.{Point}
use Rattle.hagerzhang_rules.specs.declared.Bracket.{Bracket}
use Rattle.hagerzhang_rules.specs.declared.Options.{Options}
use Rattle.hagerzhang_rules.specs.declared.Setup.{Setup}
use Rattle.hagerzhang_rules.specs.declared.Came.TheVariants.{To}
use Rattle.hagerzhang_rules.specs.Parameters.{default_options, options_with, setup_of, start_rows}
use Rattle.hagerzhang_rules.specs.Rules.{point, bracket, answer_finite, secant_of, update_of, S4, L2, best_of, update}
use Rattle.hagerzhang_rules.specs.Rules.{iteration}

-- "epsilon = 0, L = 1, theta = 0.5, a = (0,1,-2), b = (4,9,6) unless said." The start has cost 1 and slope -2; B is the
-- budget.
abbrev pub options : ℕ → Options
options B = options_with default_options (whole 0) default_options.way default_options.params.start B 100

abbrev pub setup : ℕ → Setup
setup B = record { options = options B; f0 = whole 1; s0 = minus (whole 2); level = whole 1 }

abbrev pub a : Point
a = point (whole 0) (whole 1) (minus (whole 2))

abbrev pub b : Point
b = point (whole 4) (whole 9) (whole 6)

abbrev pub ab : Bracket
ab = bracket a b

-- what an update or an iteration comes to: a refusal's number, or a bracket
abbrev pub Asks : Type 0
Asks = Run (Unit {0}) (ℕ ⊎ Bracket)

abbrev pub refused : ℕ → Asks
refused n = end (inl n)

abbrev pub by_number : Why → ℕ ⊎ Bracket
by_number why = inl (number_for why)

abbrev pub becomes : Bracket → Asks
becomes w = end (inr w)

unfoldable pub updated-with : ℕ → Point → Asks
updated-with B c = update (setup B) by_number tt ab c becomes

-- the run that is left after some answers, and the steps that it asks up to there and next
unfoldable pub left : {R : Type 0} → Run (Unit {0}) R → List Reply → Run (Unit {0}) R
left r [] = r
left (end o) (y ∷ ys) = end o
left (ask k x then) (y ∷ ys) = left (then y.0 y.1) ys

unfoldable pub steps : {R : Type 0} → Run (Unit {0}) R → List Reply → List Float
steps (end o) ys = []
steps (ask k x then) [] = x ∷ []
steps (ask k x then) (y ∷ ys) = x ∷ steps (then y.0 y.1) ys

abbrev pub ¼ : Float
¼ = quarters 1

abbrev pub ½ : Float
½ = quarters 2

abbrev pub ¾ : Float
¾ = quarters 3

-- M5 to M7
abbrev pub steep : Point
steep = point (whole 2) (whole 3) (minus (whole 1))

abbrev pub three : List Reply
three = (½, minus (whole 1)) ∷ (quarters 6, minus (whole 1)) ∷ (whole 0, ½) ∷ []

-- M8: b is the exact minimum
abbrev pub low : Point
low = point (whole 1) (whole 0) (whole 0)

abbrev pub at-minimum : Bracket
at-minimum = bracket a low

unfoldable pub iterated : Asks
iterated = iteration (setup 100) by_number tt at-minimum (λ u. becomes)

-- M10 to M12: whether cost f and slope s meet the condition, "f0 = 1, s0 = -2, t = 1"
abbrev pub at_one : Condition → Float → Float → Bool
at_one C f s = holds_of C (whole 1) (minus (whole 2)) (whole 1) f s

-- 01 accepts the setup
unfoldable pub accepts : ℕ → Result Setup
accepts B =
    refuse (start_rows (options B) (whole 1) (minus (whole 2))) else setup_of (options B) (whole 1) (minus (whole 2))

pub record MarkedSums : Type 0 where
  pub setup-accepted : (accepts 100 ≡ value (setup 100)) × (accepts 2 ≡ value (setup 2))
  -- "secant(a, b) = 1"
  pub M1 : secant_of a b ≡ whole 1
  -- "c.x = 4, and c.x = 0: unchanged"
  pub M2 : (f g : Float)
      → (updated-with 100 (point (whole 4) f g) ≡ becomes ab) × (updated-with 100 (point (whole 0) f g) ≡ becomes ab)
  -- "c = (1,0,-0.0): (a, c)"
  pub M3 : let c = point (whole 1) (whole 0) (minus (whole 0)) in updated-with 100 c ≡ becomes (bracket a c)
  -- "c = (2,1,-1), cost equal to L: (c, b)"
  pub M4 : let c = point (whole 2) (whole 1) (minus (whole 1)) in updated-with 100 c ≡ becomes (bracket c b)
  -- "c = (2,3,-1): d.x = 1; answer (2,1): (a, (1,2,1))"
  pub M5 :
      (steps (updated-with 100 steep) [] ≡ whole 1 ∷ [])
      × (left (updated-with 100 steep) ((whole 2, whole 1) ∷ [])
      ≡ becomes (bracket a (point (whole 1) (whole 2) (whole 1))))
  -- "same c, answers (0.5,-1), (1.5,-1), (0,0.5): asks 1, 1.5, 1.25; result ((1,0.5,-1), (1.25,0,0.5))"
  pub M6 :
      (steps (updated-with 100 steep) three ≡ whole 1 ∷ quarters 6 ∷ quarters 5 ∷ [])
      × (left (updated-with 100 steep) three
      ≡ becomes (bracket (point (whole 1) ½ (minus (whole 1))) (point (quarters 5) (whole 0) ½)))
  -- "M6 with B = 2: refusal 6 after the second answer"
  pub M7 :
      (steps (updated-with 2 steep) three ≡ whole 1 ∷ quarters 6 ∷ [])
      × (left (updated-with 2 steep) ((½, minus (whole 1)) ∷ (quarters 6, minus (whole 1)) ∷ []) ≡ refused 6)
  -- "b = (1,0,0): S1 asks 1, unchanged"; no e, and 02, request 4: "M8 goes on to L2 and asks 0.5."
  pub M8 :
      (steps iterated [] ≡ whole 1 ∷ [])
      × ((f g : Float) → update_of (whole 1) at-minimum (point (whole 1) f g) ≡ Some (To at-minimum))
      × (S4 at-minimum (whole 1) at-minimum ≡ None)
      × (L2 (setup 100).options.params.gamma at-minimum at-minimum ≡ Some ½)
      × ((f g : Float) → answer_finite f g ≡ true → steps iterated ((f, g) ∷ []) ≡ whole 1 ∷ ½ ∷ [])
  -- "costs 2,2,2: best c. Costs 2,2,3: best b", whatever the steps and slopes
  pub M9 :
      (x y z p q r : Float)
      → (best_of (point x (whole 2) p) (point y (whole 2) q) (point z (whole 2) r) ≡ point z (whole 2) r)
      × (best_of (point x (whole 2) p) (point y (whole 2) q) (point z (whole 3) r) ≡ point y (whole 2) q)
  -- "Armijo c = 0.5 ..: f = 0 holds, f = 0.25 does not", whatever the slope
  pub M10 : (s : Float) → (at_one (Armijo ½) (whole 0) s ≡ true) × (at_one (Armijo ½) ¼ s ≡ false)
  -- "Goldstein c = 0.25, same start: -0.5 and 0.5 hold; -0.75 and 0.75 do not", whatever the slope
  pub M11 :
      (s : Float)
      → (at_one (Goldstein ¼) (minus ½) s ≡ true)
      × (at_one (Goldstein ¼) ½ s ≡ true)
      × (at_one (Goldstein ¼) (minus ¾) s ≡ false)
      × (at_one (Goldstein ¼) ¾ s ≡ false)
  -- "same start, c1 = 0.25, c2 = 0.5, f = 0.5: slope 1.5 meets Wolfe, not strong Wolfe; slope 1 meets both"
  pub M12 :
      (at_one (Wolfe ¼ ½) ½ (quarters 6) ≡ true)
      × (at_one (StrongWolfe ¼ ½) ½ (quarters 6) ≡ false)
      × (at_one (Wolfe ¼ ½) ½ (whole 1) ≡ true)
      × (at_one (StrongWolfe ¼ ½) ½ (whole 1) ≡ true)
