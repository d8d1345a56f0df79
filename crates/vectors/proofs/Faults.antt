-- A bad element and a test of all elements: all are finite exactly where the first bad index is the length, of one
-- vector and of two. Assumes nothing.
use Prim.Native.Nat.{ℕ, zero, suc, ◌≤◌, ◌<◌, suc-le-suc}
use native.Mathlib.Nat.{le_of_suc-le-suc, not-suc-le-zero, zero-lt-suc}
use native.Mathlib.Omega.{arith}
use mathlib.Core.Path.{◌≡◌, refl}
use mathlib.Core.Bool.{Bool, true, false, ◌&&◌, ◌||◌}
use mathlib.Core.List.{List, [], ◌∷◌}
use borrow.Author.Tests.{not-true, not-false}
use lib.ListN.{length}
use lib.Ieee.{Float}
use lib.Ieee.Scale.{finite}
use Rattle.floats.proofs.Branches.{both, neither-first, neither-second}
use Rattle.vectors.specs.Faults.{first}
use Rattle.vectors.specs.Vectors.{all_finite, bad, bad_in_any}
use Rattle.vectors.proofs.First.{is-first, none_before, none_found}

all-good : (xs : List Float) → ((j : ℕ) → j < length xs → bad xs j ≡ false) → all_finite xs ≡ true
all-good [] h = refl
all-good (x ∷ xs) h =
    both _ _ (not-false (finite x) (h zero (zero-lt-suc (length xs)))) (all-good xs (λ j l. h (suc j) (suc-le-suc l)))

second-false : (x y : Bool) → y ≡ false → (x && y) ≡ false
second-false true y e = e
second-false false y e = refl

one-bad : (xs : List Float) (i : ℕ) → i < length xs → bad xs i ≡ true → all_finite xs ≡ false
one-bad [] i h e = absurd (not-suc-le-zero h)
one-bad (x ∷ xs) zero h e = rw (not-true (finite x) e)
one-bad (x ∷ xs) (suc i) h e = second-false (finite x) _ (one-bad xs i (le_of_suc-le-suc h) e)

-- ---- one vector of n elements, and the index i that `first` gives
module _ (xs : List Float) (n : ℕ) (long : length xs ≡ n) (i : ℕ) (found : i ≡ first (bad xs) n) where
  pub bad-at : i < n → all_finite xs ≡ false
  bad-at h = one-bad xs (first (bad xs) n) (omega arith) (is-first (bad xs) n (omega arith)).holds

  pub bad-nowhere : n ≤ i → all_finite xs ≡ true
  bad-nowhere h =
      let end = none_found (bad xs) n i found h in
      all-good xs (λ j l. none_before (bad xs) n j (omega arith))

-- ---- two vectors of one length

module _ (xs ys : List Float) (same : length xs ≡ length ys) where
  either-bad : (i : ℕ) → i < length xs → (b : Bool) → bad xs i ≡ b → (b || bad ys i) ≡ true
      → (all_finite xs && all_finite ys) ≡ false
  either-bad i h true e t = rw (one-bad xs i h e)
  either-bad i h false e t = second-false (all_finite xs) _ (one-bad ys i (omega arith) t)

  module _ (i : ℕ) (found : i ≡ first (bad_in_any xs ys) (length xs)) where
    pub bad-in-any : i < length xs → (all_finite xs && all_finite ys) ≡ false
    bad-in-any h =
        let it = is-first (bad_in_any xs ys) (length xs) (omega arith) in
        either-bad (first (bad_in_any xs ys) (length xs)) it.below _ refl it.holds

    pub bad-in-none : length xs ≤ i → (all_finite xs && all_finite ys) ≡ true
    bad-in-none h =
        let end = none_found (bad_in_any xs ys) (length xs) i found h in
        let good : (j : ℕ) → j < length xs → bad_in_any xs ys j ≡ false =
        λ j l. none_before (bad_in_any xs ys) (length xs) j (omega arith) in
        both _ _ (all-good xs (λ j l. neither-first (bad xs j) _ (good j l)))
        (all-good ys (λ j l. neither-second (bad xs j) _ (good j (omega arith))))
