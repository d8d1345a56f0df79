-- 01's rules of backtracking: what is known of a start that no row refuses; the trials end within as many answers as
-- there may be trials; what is told at an answer to one; and 5 never comes. Assumes nothing.
use mathlib.Core.Path.{◌≡◌, refl}
use mathlib.Core.Bool.{Bool, true, false, ◌&&◌}
use Rattle.std.specs.Prelude.{Some, None}
use Rattle.std.proofs.lemmas.Option.{none-some, same_Some}
use Prim.Native.Nat.{ℕ, zero, suc, ◌+◌, ◌≤◌}
use native.Mathlib.Omega.{arith}
use lib.Dec.{leb}
use lib.Ieee.{Float, binary64, fits}
use lib.Ieee.Bits.{is_true}
use lib.Ieee.Fits.{mul-fits}
use lib.Ieee.Scale.{finite}
use borrow.Author.Tests.{leb-true, not-false}
use Rattle.floats.specs.Arithmetic.{◌⊗◌, ◌<ᶠ◌, 0ᶠ, 1ᶠ}
use Rattle.floats.proofs.Branches.{by_cases, and_first, and_second}
use Rattle.floats.proofs.Shrinks.{times-below-one}
use Rattle.refusals.proofs.Refusals.{Passed, all, and}
use Rattle.runs.specs.Outcomes.{Ending, Why, asks, ends, numbered, refusal_in}
use Rattle.runs.specs.Asking.{Rest, Ended, ask, end, respond, shown}
use Rattle.runs.proofs.Apart.{asks-not-ends, same_step}
use Rattle.runs.proofs.Ends.{EndsWithin, at-end, question-ends, EndsBy, it-ends, it-asks}
use Rattle.conditions.specs.Conditions.{in_range, constants_finite, answer_finite, holds_of}
use Rattle.backtracking.specs.declared.Options.{Options}
use Rattle.backtracking.specs.declared.Setup.{Setup}
use Rattle.backtracking.specs.Backtracking.{supplied_finite, limit_in_range, parameters_in_range, in_ranges, start_rows}
use Rattle.backtracking.specs.Backtracking.{tested, further, trials}

-- ---- what is known of a start that no row refuses
module _ (o : Options) where
  pub supplied : (f0 s0 : Float) → Passed (start_rows o f0 s0) → supplied_finite o f0 s0 ≡ true
  supplied f0 s0 (and two (and three all)) = not-false _ two

  pub ranges : (f0 s0 : Float) → Passed (start_rows o f0 s0) → in_ranges o ≡ true
  ranges f0 s0 (and two (and three all)) = not-false _ three

  module _ (ok : in_ranges o ≡ true) where
    abbrev inside : Bool
    inside = in_range o.condition && 0ᶠ <ᶠ o.rho

    parameters : parameters_in_range o ≡ true
    parameters = and_first (parameters_in_range o) (limit_in_range o.limit) ok

    limits : limit_in_range o.limit ≡ true
    limits = and_second (parameters_in_range o) (limit_in_range o.limit) ok

    pub limit-fits : o.limit ≤ 10000
    limit-fits = leb-true o.limit 10000 (and_second (leb 1 o.limit) (leb o.limit 10000) limits)

    pub limit-left : 1 ≤ o.limit
    limit-left = leb-true 1 o.limit (and_first (leb 1 o.limit) (leb o.limit 10000) limits)

    shrinking : (inside && o.rho <ᶠ 1ᶠ) ≡ true
    shrinking = and_first (inside && o.rho <ᶠ 1ᶠ) (0ᶠ <ᶠ o.alpha) parameters

    rho-below-one : o.rho <ᶠ 1ᶠ ≡ true
    rho-below-one = and_second inside (o.rho <ᶠ 1ᶠ) shrinking

    rho-above-zero : 0ᶠ <ᶠ o.rho ≡ true
    rho-above-zero = and_second (in_range o.condition) (0ᶠ <ᶠ o.rho) (and_first inside (o.rho <ᶠ 1ᶠ) shrinking)

  pub alpha-finite : (f0 s0 : Float) → supplied_finite o f0 s0 ≡ true → finite o.alpha ≡ true
  alpha-finite f0 s0 e =
      let front = constants_finite o.condition && finite o.rho in
      let three = front && finite o.alpha in
      and_second front (finite o.alpha) (and_first three (finite f0) (and_first (three && finite f0) (finite s0) e))

-- the tests of a trial
module _ (s : Setup) (t f g : Float) where
  abbrev is_finite : Bool
  is_finite = answer_finite s.options.condition f g

  abbrev holds : Bool
  holds = holds_of s.options.condition s.f0 s.s0 t f g

-- ---- the trials end: n + 1 of them within as many answers
module _ (s : Setup) where
  abbrev Ends : ℕ → Rest ℕ → Type 0
  Ends = EndsWithin (answer_finite s.options.condition)

  tested-ends : (n before now : ℕ) (t : Float) (r : Rest ℕ) → Ends n r → Ends (suc n) (tested s before now t r)
  tested-ends n before now t r e =
      question-ends before t _ (λ f g. by_cases (Ends n) (holds s t f g) (λ h. at-end) (λ h. e))

  further-ends : (n now : ℕ) (t : Float) → Ends n (further s n now t)
  unfolding further
  further-ends zero now t = at-end
  further-ends (suc n) now t =
      by_cases (Ends (suc n)) (finite (t ⊗ s.options.rho))
      (λ q. tested-ends n now (now + 1) _ _ (further-ends n (now + 1) _)) (λ q. at-end)

  pub trials-end : (n before now : ℕ) (t : Float) → Ends (suc n) (trials s n before now t)
  trials-end n before now t = tested-ends n before now t _ (further-ends n now t)

-- ---- what is told at an answer to the trial at x
module _ (s : Setup) (now : ℕ) (x f g : Float) where
  abbrev shorter : Float
  shorter = x ⊗ s.options.rho

  -- no refusal, where the answer and the next step are finite
  abbrev Unrefused : Rest ℕ → Type 0
  Unrefused r = refusal_in (shown r) ≡ None

  further-unrefused : (n : ℕ) → finite shorter ≡ true → Unrefused (further s n now x)
  unfolding further shown
  further-unrefused zero q = refl
  further-unrefused (suc n) q = rw q

  pub no-refusal : (n before : ℕ) → is_finite s x f g ≡ true → finite shorter ≡ true
      → Unrefused (respond (trials s n before now x) f g)
  unfolding respond shown
  no-refusal n before p q = rw p (by_cases Unrefused (holds s x f g) (λ h. refl) (λ h. further-unrefused n q))

  -- no other step than the next
  Shorter : Float → Rest ℕ → Type 0
  Shorter y r = shown r ≡ asks y → shorter ≡ y

  ended : (y : Float) (o : Ended ℕ) → Shorter y (end o)
  unfolding Shorter shown
  ended y o e = absurd (asks-not-ends y _ e)

  asked : (y : Float) (k : ℕ) (then : Float → Float → Rest ℕ) → Shorter y (ask k shorter then)
  unfolding Shorter shown
  asked y k then e = same_step shorter y e

  further-shorter : (n : ℕ) (y : Float) → Shorter y (further s n now x)
  unfolding further
  further-shorter zero y = ended y _
  further-shorter (suc n) y = by_cases (Shorter y) (finite shorter) (λ q. asked y _ _) (λ q. ended y _)

  pub asks-next : (n before : ℕ) (y : Float) → shown (respond (trials s n before now x) f g) ≡ asks y → shorter ≡ y
  unfolding respond Shorter
  asks-next n before y =
      by_cases (Shorter y) (is_finite s x f g)
      (λ a. by_cases (Shorter y) (holds s x f g) (λ h. ended y _) (λ h. further-shorter n y)) (λ a. ended y _)

  -- and that one where the condition is not met, while a trial may follow
  further-asks : (n : ℕ) → 1 ≤ n → finite shorter ≡ true → shown (further s n now x) ≡ asks shorter
  unfolding further shown
  further-asks zero l q = absurd (omega arith)
  further-asks (suc n) l q = rw q

  pub asks-shorter : (n before : ℕ) → 1 ≤ n → is_finite s x f g ≡ true → holds s x f g ≡ false → finite shorter ≡ true
      → shown (respond (trials s n before now x) f g) ≡ asks shorter
  unfolding respond
  asks-shorter n before l p h q = rw (p, h) (further-asks n l q)

-- ---- 5 never comes: a finite step shrinks to a finite step
unfoldable pub NotFive : Ending Why → Type 0
NotFive e = refusal_in (ends (numbered e)) ≡ Some 5 → ⊥

pub other-number : (n : ℕ) → (n ≡ 5 → ⊥) → Some n ≡ Some 5 → ⊥
other-number n differs e = differs (same_Some n 5 e)

module _ (s : Setup) (ok : in_ranges s.options ≡ true) where
  abbrev rho : Float
  rho = s.options.rho

  tested-not-five : (before now : ℕ) (t : Float) (r : Rest ℕ) → EndsBy NotFive r
      → EndsBy NotFive (tested s before now t r)
  unfolding NotFive
  tested-not-five before now t r e =
      it-asks (λ f g. by_cases (EndsBy NotFive) (is_finite s t f g)
      (λ a. by_cases (EndsBy NotFive) (holds s t f g) (λ h. it-ends (none-some 5)) (λ h. e))
      (λ a. it-ends (other-number 2 (λ e. omega arith))))

  further-not-five : (n now : ℕ) (t : Float) → fits binary64 t ≡ true → finite t ≡ true
      → EndsBy NotFive (further s n now t)
  unfolding further NotFive
  further-not-five zero now t F p = it-ends (none-some 5)
  further-not-five (suc n) now t F p =
      let q = times-below-one t rho F p (rho-above-zero s.options ok) (rho-below-one s.options ok) in
      let F' = is_true _ (mul-fits binary64 t rho) in
      rw q (tested-not-five now (now + 1) (t ⊗ rho) _ (further-not-five n (now + 1) (t ⊗ rho) F' q))

  pub not_five : (n before now : ℕ) (t : Float) → fits binary64 t ≡ true → finite t ≡ true
      → EndsBy NotFive (trials s n before now t)
  not_five n before now t F p = tested-not-five before now t _ (further-not-five n now t F p)

pub five-untold : (r : Rest ℕ) → EndsBy NotFive r → refusal_in (shown r) ≡ Some 5 → ⊥
unfolding shown NotFive
five-untold (ask k x then) h e = none-some 5 e
five-untold (end o) (it-ends h) e = h e
