-- What `first` of specs/Faults.antt gives: where it is below n, it is the first index at which the test holds
-- (`is-first`), and whatever is that it gives (`first-is`). Assumes nothing.
use Prim.Native.Nat.{ℕ, zero, suc, ◌≤◌, ◌<◌, zero-le, suc-le-suc}
use native.Mathlib.Nat.{le_of_suc-le-suc, not-suc-le-zero, zero-lt-suc}
use native.Mathlib.Omega.{arith}
use mathlib.Core.Path.{◌≡◌, refl, ap}
use mathlib.Core.Bool.{Bool, true, false}
use Rattle.floats.proofs.Branches.{by_cases}
use Rattle.vectors.specs.Faults.{first, IsFirst}

first-at-most : (p : ℕ → Bool) (n : ℕ) → first p n ≤ n
unfolding first
first-at-most p zero = zero-le
first-at-most p (suc n) =
    by_cases (λ k. k ≤ suc n) (p zero) (λ t. zero-le) (λ t. suc-le-suc (first-at-most (λ i. p (suc i)) n))

-- an index that it gives, and that is not below n, is n
pub none_found : (p : ℕ → Bool) (n i : ℕ) → i ≡ first p n → n ≤ i → first p n ≡ n
none_found p n i e h = let most = first-at-most p n in omega arith

first_holds : (p : ℕ → Bool) (n : ℕ) → first p n < n → p (first p n) ≡ true
unfolding first
first_holds p zero = λ h. absurd (not-suc-le-zero h)
first_holds p (suc n) =
    by_cases (λ k. k < suc n → p k ≡ true) (p zero) (λ t h. t)
    (λ t h. first_holds (λ i. p (suc i)) n (le_of_suc-le-suc h))

-- it holds at no lower one, whether it holds below n or not
pub none_before : (p : ℕ → Bool) (n j : ℕ) → j < first p n → p j ≡ false
unfolding first
none_before p zero j = λ h. absurd (not-suc-le-zero h)
none_before p (suc n) zero =
    by_cases (λ k. zero < k → p zero ≡ false) (p zero) (λ t h. absurd (not-suc-le-zero h)) (λ t h. t)
none_before p (suc n) (suc j) =
    by_cases (λ k. suc j < k → p (suc j) ≡ false) (p zero) (λ t h. absurd (not-suc-le-zero h))
    (λ t h. none_before (λ i. p (suc i)) n j (le_of_suc-le-suc h))

pub is-first : (p : ℕ → Bool) (n : ℕ) → first p n < n → IsFirst p n (first p n)
is-first p n h = record { below = h; holds = first_holds p n h; lowest = none_before p n }

pub first-is : (p : ℕ → Bool) (n i : ℕ) → IsFirst p n i → first p n ≡ i
unfolding first
first-is p zero i f = absurd (not-suc-le-zero f.below)
first-is p (suc n) zero f = rw f.holds
first-is p (suc n) (suc i) f =
    rw (f.lowest zero (zero-lt-suc i))
    (ap suc
    (first-is (λ j. p (suc j)) n i record {
      below = le_of_suc-le-suc f.below;
      holds = f.holds;
      lowest = λ j h. f.lowest (suc j) (suc-le-suc h);
    }))

pub first-none : (p : ℕ → Bool) (n : ℕ) → ((j : ℕ) → j < n → p j ≡ false) → first p n ≡ n
unfolding first
first-none p zero h = refl
first-none p (suc n) h =
    rw (h zero (zero-lt-suc n)) (ap suc (first-none (λ j. p (suc j)) n (λ j l. h (suc j) (suc-le-suc l))))
