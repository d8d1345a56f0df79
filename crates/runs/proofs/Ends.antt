-- A search that ends within n answers, whatever they are, and in which an answer that is not finite is refused (2) and
-- the last: it is over after n answers, accepts at most n, and of those that it is given while it asks at most one is
-- not finite. And what is true of every end that a search can come to. Assumes nothing.
use mathlib.Core.Path.{◌≡◌, refl}
use mathlib.Core.Bool.{Bool, true, false, cond, not}
use mathlib.Core.List.{List, [], ◌∷◌}
use Prim.Native.Nat.{ℕ, zero, suc, ◌+◌, ◌≤◌}
use native.Mathlib.Nat.{not-suc-le-zero, le_of_suc-le-suc}
use native.Mathlib.Omega.{arith}
use lib.ListN.{length}
use lib.Ieee.{Float}
use Rattle.floats.proofs.Branches.{by_cases}
use Rattle.runs.specs.Outcomes.{Ending, refusal, Why, answer_not_finite, already_over}
use Rattle.runs.specs.Asking.{ask, end, Rest, Ended, end_with, keeping, question, Reply, respond, is_over, after}
use Rattle.runs.proofs.Accepted.{accepted, is_not_finite, none_more}

pub data EndsWithin {K : Type 0} (finite : Float → Float → Bool) : ℕ → Rest K → Type 0 where
  at-end : {n : ℕ} {o : Ended K} → EndsWithin finite n (end o)
  at-ask : {n : ℕ} {k : K} {x : Float} {then : Float → Float → Rest K}
      → ((f g : Float) → finite f g ≡ false → then f g ≡ end_with k (refusal (answer_not_finite f g)))
      → ((f g : Float) → EndsWithin finite n (then f g)) → EndsWithin finite (suc n) (ask k x then)

one_at_most : (b : Bool) (m n : ℕ) → m ≤ n → cond b 1 0 + m ≤ suc n
one_at_most true m n h = omega arith
one_at_most false m n h = omega arith

module _ {K : Type 0} where
  stays-over : (o : Ended K) (ys : List Reply) → is_over (after (end o) ys) ≡ true
  unfolding is_over after respond
  stays-over o [] = refl
  stays-over o (y ∷ ys) = stays-over (record { keeps = o.keeps; by = refusal already_over }) ys

module _ {K : Type 0} {finite : Float → Float → Bool} where
  pub ends-within : {n : ℕ} {r : Rest K} → EndsWithin finite n r → (m : ℕ) → n ≤ m → EndsWithin finite m r
  ends-within at-end m h = at-end
  ends-within (at-ask u e) zero h = absurd (not-suc-le-zero h)
  ends-within (at-ask u e) (suc m) h = at-ask u (λ f g. ends-within (e f g) m (le_of_suc-le-suc h))

  pub question-ends : {n : ℕ} (k : K) (x : Float) (then : Float → Float → Rest K)
      → ((f g : Float) → EndsWithin finite n (then f g))
      → EndsWithin finite (suc n) (question finite (keeping k) k x then)
  question-ends k x then e =
      at-ask {k = k} {then = λ f g. cond (finite f g) (then f g) (end_with k (refusal (answer_not_finite f g)))}
      (λ f g u. rw u) (λ f g. by_cases (EndsWithin finite _) (finite f g) (λ u. e f g) (λ u. at-end))

  -- and after any answers within as many more
  ends_next : {n : ℕ} {r : Rest K} → EndsWithin finite n r → (f g : Float) → EndsWithin finite n (respond r f g)
  unfolding respond
  ends_next at-end f g = at-end
  ends_next (at-ask {n = n} u e) f g = ends-within (e f g) (suc n) (omega arith)

  pub ends-after : {n : ℕ} (r : Rest K) → EndsWithin finite n r → (ys : List Reply) → EndsWithin finite n (after r ys)
  unfolding after
  ends-after r e [] = e
  ends-after r e (y ∷ ys) = ends-after (respond r y.0 y.1) (ends_next e y.0 y.1) ys

  pub ends-over : {n : ℕ} {r : Rest K} → EndsWithin finite n r → (ys : List Reply) → n ≤ length ys
      → is_over (after r ys) ≡ true
  unfolding is_over after respond
  ends-over (at-end {o = o}) ys h = stays-over o ys
  ends-over (at-ask u e) [] h = absurd (not-suc-le-zero h)
  ends-over (at-ask u e) (y ∷ ys) h = ends-over (e y.0 y.1) ys (le_of_suc-le-suc h)

  -- whichever answers are counted
  pub ends-accepted : (counted : Float → Float → Bool) {n : ℕ} {r : Rest K} → EndsWithin finite n r → (ys : List Reply)
      → accepted counted r ys ≤ n
  unfolding accepted
  ends-accepted counted at-end [] = omega arith
  ends-accepted counted at-end (y ∷ ys) = omega arith
  ends-accepted counted (at-ask u e) [] = omega arith
  ends-accepted counted (at-ask u e) (y ∷ ys) =
      one_at_most (counted y.0 y.1) _ _ (ends-accepted counted (e y.0 y.1) ys)

  -- ---- an answer that is not finite

  pub non-finite-once : {n : ℕ} {r : Rest K} → EndsWithin finite n r → (ys : List Reply) → is_not_finite finite r ys ≤ 1
  unfolding accepted
  non-finite-once at-end [] = omega arith
  non-finite-once at-end (y ∷ ys) = omega arith
  non-finite-once (at-ask u e) [] = omega arith
  non-finite-once (at-ask {then = then} u e) (y ∷ ys) =
      by (finite y.0 y.1) refl (non-finite-once (e y.0 y.1) ys)
    where
      by : (b : Bool) → finite y.0 y.1 ≡ b → accepted (λ f g. not (finite f g)) (then y.0 y.1) ys ≤ 1
          → cond (not b) 1 0 + accepted (λ f g. not (finite f g)) (then y.0 y.1) ys ≤ 1
      by true t h = omega arith
      by false t h = rw (u y.0 y.1 t, none_more _ (λ f g. not (finite f g)) ys) (omega arith)

-- ---- what is true of every end that a search can come to, and of 8
pub data EndsBy {K : Type 0} (P : Ending Why → Type 0) : Rest K → Type 0 where
  it-ends : {o : Ended K} → P o.by → EndsBy P (end o)
  it-asks : {k : K} {x : Float} {then : Float → Float → Rest K} → ((f g : Float) → EndsBy P (then f g))
      → EndsBy P (ask k x then)

module _ {K : Type 0} {P : Ending Why → Type 0} where
  pub by_after : P (refusal already_over) → (r : Rest K) → EndsBy P r → (ys : List Reply) → EndsBy P (after r ys)
  unfolding after respond
  by_after over r h [] = h
  by_after over (end o) h (y ∷ ys) = by_after over _ (it-ends over) ys
  by_after over (ask k x then) (it-asks h) (y ∷ ys) = by_after over (then y.0 y.1) (h y.0 y.1) ys
