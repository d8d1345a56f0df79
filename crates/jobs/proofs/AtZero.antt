-- Cost and slope at 0 are finite on each of the eight curves: a test computed once over all of them. Assumes nothing.
use mathlib.Core.Path.{◌≡◌, refl}
use mathlib.Core.Bool.{Bool, true, ◌&&◌}
use Prim.Native.Nat.{ℕ, zero, suc, ◌-◌, ◌*◌, ◌<◌, ◌≤◌}
use native.Mathlib.Nat.{not-suc-le-zero, le_of_suc-le-suc}
use native.Mathlib.Omega.{arith}
use lib.Dec.{leb}
use lib.Ieee.{add, mul, of_int, of_bits}
use lib.Ieee.Scale.{finite}
use borrow.Author.Tests.{leb-true}
use Rattle.floats.proofs.Branches.{and_first, and_second}
use Rattle.floats.specs.Arithmetic.{0ᶠ}
use Rattle.curves.specs.Curves.{table, curve_at, has_number, value_of, slope_of}
use Rattle.jobs.specs.declared.Job.{Job}
use Rattle.jobs.specs.Opening.{f0_of, s0_of}

first : ℕ → (ℕ → Bool) → Bool
first zero test = true
first (suc n) test = test 0 && first n (λ i. test (suc i))

each : (n : ℕ) (test : ℕ → Bool) → first n test ≡ true → (i : ℕ) → i < n → test i ≡ true
unfolding first
each zero test h i l = absurd (not-suc-le-zero l)
each (suc n) test h zero l = and_first (test 0) (first n (λ i. test (suc i))) h
each (suc n) test h (suc i) l =
    each n (λ i. test (suc i)) (and_second (test 0) (first n (λ i. test (suc i))) h) i (le_of_suc-le-suc l)

finite-at-zero : ℕ → Bool
finite-at-zero i = finite (value_of (curve_at (i * 5)) 0ᶠ) && finite (slope_of (curve_at (i * 5)) 0ᶠ)

all-eight : first 8 finite-at-zero ≡ true
unfolding first finite-at-zero table add mul of_int of_bits
all-eight = refl

module _ (j : Job) (h : has_number j.curve ≡ true) where
  below-eight : j.curve - 1 < 8
  below-eight =
      let lo : 1 ≤ j.curve = leb-true 1 j.curve (and_first (leb 1 j.curve) (leb j.curve 8) h) in
      let hi : j.curve ≤ 8 = leb-true j.curve 8 (and_second (leb 1 j.curve) (leb j.curve 8) h) in
      omega arith

  both : (finite (f0_of j) && finite (s0_of j)) ≡ true
  unfolding finite-at-zero
  both = each 8 finite-at-zero all-eight (j.curve - 1) below-eight

  pub f0-finite : finite (f0_of j) ≡ true
  f0-finite = and_first (finite (f0_of j)) (finite (s0_of j)) both

  pub s0-finite : finite (s0_of j) ≡ true
  s0-finite = and_second (finite (f0_of j)) (finite (s0_of j)) both
