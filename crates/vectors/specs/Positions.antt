-- 02, request 1: what is true of the index that a refusal of a dot or a point tells. Demand 1 cites these.
use Rattle.std.specs.Prelude.{ℕ, ◌≤◌, ◌<◌, ◌≡◌, true, false, List, length, Float}
use Rattle.std.specs.Float.Ieee.Scale.{finite}
use Rattle.refusals.specs.Results.{ResultBy, refused}
use Rattle.vectors.specs.Faults.{Fault, ◌at◌, IsFirst}
use Rattle.vectors.specs.Vectors.{bad, bad_in_any, products, left_sum, sum_bad, moved}

-- What is told of a dot: with 2 the index is "the lowest index bad in any supplied vector", with 4 "the first index
-- whose partial sum .. is not finite".
pub record DotAt (a b : List Float) (told : ResultBy Fault Float) : Type 0 where
  pub supplied : (i : ℕ) → told ≡ refused (2 at i) → IsFirst (bad_in_any a b) (length a) i
  pub result : (i : ℕ) → told ≡ refused (4 at i) → IsFirst (sum_bad (products a b)) (length a) i

-- A partial sum that is not finite has no finite one after it. So "a dot .. comes out not finite" exactly where some
-- partial sum does.
pub record OneCondition (ps : List Float) : Type 0 where
  pub stays : (i j : ℕ) → i ≤ j → sum_bad ps i ≡ true → sum_bad ps j ≡ true
  pub some-sum : finite (left_sum ps) ≡ false → (i : ℕ) × (i < length ps) × (sum_bad ps i ≡ true)
  pub dot-too : (i : ℕ) → sum_bad ps i ≡ true → finite (left_sum ps) ≡ false

-- What is at fault where a point is refused by 2 at i: an element, and i is the first such index; or alpha alone, and i
-- is n.
pub data AtFault (x0 : List Float) (alpha : Float) (d : List Float) (i : ℕ) : Type 0 where
  element : IsFirst (bad_in_any x0 d) (length x0) i → AtFault x0 alpha d i
  alpha-alone : i ≡ length x0 → finite alpha ≡ false → ((j : ℕ) → j < length x0 → bad_in_any x0 d j ≡ false)
      → AtFault x0 alpha d i

-- What is told of a point: with 2 the index is as above, with 4 it is "the first index whose .. element is not finite".
pub record PointAt (x0 : List Float) (alpha : Float) (d : List Float) (told : ResultBy Fault (List Float))
    : Type 0 where
  pub supplied : (i : ℕ) → told ≡ refused (2 at i) → AtFault x0 alpha d i
  pub result : (i : ℕ) → told ≡ refused (4 at i) → IsFirst (bad (moved x0 alpha d)) (length x0) i
