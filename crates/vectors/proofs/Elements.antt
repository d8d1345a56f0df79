-- The definitions of specs/Vectors.antt one element at a time, as a loop takes them, for every length. Assumes nothing.
use mathlib.Core.Path.{◌≡◌, refl, ap}
use mathlib.Core.List.{List, [], ◌∷◌, ◌++◌, append-nil, zip_with, foldl}
use mathlib.Core.Bool.{false, true≢false}
use Prim.Native.Nat.{ℕ, zero, suc, ◌+◌, ◌≤◌, ◌<◌}
use native.Mathlib.Nat.{not-suc-le-zero, le_of_suc-le-suc}
use native.Mathlib.Numerals.{add-one}
use native.Mathlib.Omega.{arith}
use lib.ListN.{length, get_or, drop, take, set, drop_of_length-le}
use lib.Seq.{drop-cons, take_all}
use lib.Ieee.{Float, nan}
use Rattle.floats.specs.Arithmetic.{◌⊕◌}
use Rattle.vectors.specs.Vectors.{bad_length, left_sum, moved, moved_by}

-- ---- a length that is taken
pub not-empty : (n : ℕ) → bad_length n ≡ false → 0 < n
not-empty zero e = absurd (true≢false e)
not-empty (suc n) e = omega arith

-- ---- a sum from the left: s, and then the elements from i on
pub sum-start : (ps : List Float) → 0 < length ps → left_sum ps ≡ foldl ◌⊕◌ (get_or ps 0 nan) (drop 1 ps)
sum-start [] h = absurd (not-suc-le-zero h)
sum-start (p ∷ ps) h = refl

pub sum_step : (s : Float) (ps : List Float) (i : ℕ) → i < length ps
    → foldl ◌⊕◌ s (drop i ps) ≡ foldl ◌⊕◌ (s ⊕ get_or ps i nan) (drop (i + 1) ps)
sum_step s ps i h = rw (drop-cons ps i nan, add-one)

pub sum-end : (s : Float) (ps : List Float) (i : ℕ) → length ps ≤ i → foldl ◌⊕◌ s (drop i ps) ≡ s
sum-end s ps i h = rw drop_of_length-le

-- ---- two lists joined element by element, by any operation: the products, and the moved point
module _ (f : Float → Float → Float) where
  pub zip_length : (xs ys : List Float) → length xs ≡ length ys → length (zip_with f xs ys) ≡ length xs
  unfolding zip_with
  zip_length [] ys e = refl
  zip_length (x ∷ xs) [] e = absurd (omega arith)
  zip_length (x ∷ xs) (y ∷ ys) e = ap suc (zip_length xs ys (omega arith))

  pub zip-at : (xs ys : List Float) (i : ℕ) → i < length xs → i < length ys
      → get_or (zip_with f xs ys) i nan ≡ f (get_or xs i nan) (get_or ys i nan)
  unfolding zip_with
  zip-at [] ys i h k = absurd (not-suc-le-zero h)
  zip-at (x ∷ xs) [] i h k = absurd (not-suc-le-zero k)
  zip-at (x ∷ xs) (y ∷ ys) zero h k = refl
  zip-at (x ∷ xs) (y ∷ ys) (suc i) h k = zip-at xs ys i (le_of_suc-le-suc h) (le_of_suc-le-suc k)

pub moved_at : (x0 : List Float) (alpha : Float) (d : List Float) (i : ℕ) → i < length x0 → length x0 ≡ length d
    → get_or (moved x0 alpha d) i nan ≡ moved_by alpha (get_or x0 i nan) (get_or d i nan)
moved_at x0 alpha d i h e = zip-at (moved_by alpha) x0 d i h (omega arith)

-- ---- a list filled from the front: what it holds after i stores, and the store at i
pub store : (d m : List Float) (i : ℕ) → i < length d → i < length m
    → set (take i m ++ drop i d) i (get_or m i nan) ≡ take (suc i) m ++ drop (suc i) d
store [] m i h k = absurd (not-suc-le-zero h)
store (y ∷ d) [] i h k = absurd (not-suc-le-zero k)
store (y ∷ d) (x ∷ m) zero h k = refl
store (y ∷ d) (x ∷ m) (suc i) h k = ap (◌∷◌ x) (store d m i (le_of_suc-le-suc h) (le_of_suc-le-suc k))

pub stored : (d m : List Float) (i : ℕ) → length d ≤ i → length m ≤ i → take i m ++ drop i d ≡ m
stored d m i h k = rw (take_all i m k, drop_of_length-le d h) (append-nil m)
