-- 01, "Number rules", of vectors, with the refusals 1, 2 and 4 as the table "Numbers in, numbers refused" gives them to
-- vectors, and the indices that 02's request 1 gives to 2 and 4.
use Rattle.std.specs.Prelude.{ℕ, suc, Bool, true, not, ◌&&◌, ◌||◌, length, get_or, take, ltb, eqb, Float}
use mathlib.Core.List.{List, [], ◌∷◌, zip_with, foldl}
use Rattle.std.specs.Float.{nan}
use Rattle.std.specs.Float.Ieee.Scale.{finite}
use Rattle.floats.specs.Arithmetic.{◌⊕◌, ◌⊗◌, 0ᶠ}
use Rattle.refusals.specs.Results.{ResultBy, value, refused, RowBy, refuse◌else◌}
use Rattle.vectors.specs.Faults.{Fault, alone, ◌at◌, first}

-- 01: "Vectors have n elements, 1 <= n <= 256"; and in the table, 1: "n is 0, above 256 .."
abbrev pub bad_length : ℕ → Bool
bad_length n = eqb n 0 || ltb 256 n

abbrev pub all_finite : List Float → Bool
all_finite [] = true
all_finite (x ∷ xs) = finite x && all_finite xs

-- whether the element at i is a NaN or infinite; true where there is no element, which no row looks at
abbrev pub bad : List Float → ℕ → Bool
bad xs i = not (finite (get_or xs i nan))

-- 02, request 1, for 2: bad at i "in any supplied vector"; where both are, neither is named
abbrev pub bad_in_any : List Float → List Float → ℕ → Bool
bad_in_any xs ys i = bad xs i || bad ys i

-- ---- 01: "Dot adds products from the left, starting with the first product."

abbrev pub products : List Float → List Float → List Float
products a b = zip_with ◌⊗◌ a b

-- an empty list has no first product: refusal 1 keeps it away
abbrev pub left_sum : List Float → Float
left_sum [] = 0ᶠ
left_sum (p ∷ ps) = foldl ◌⊕◌ p ps

-- the sum of the products from the first to the one at i, and to the last where i is beyond: at 0 the first product, at
-- the last index the dot
abbrev pub partial_sum : List Float → ℕ → Float
partial_sum ps i = left_sum (take (suc i) ps)

-- whether the partial sum at i is a NaN or infinite
abbrev pub sum_bad : List Float → ℕ → Bool
sum_bad ps i = not (finite (partial_sum ps i))

-- 01, the table, of a dot. 1: "n is 0, above 256, or lengths differ"; 2: "a supplied number is NaN or infinite";
-- 4: "a dot .. comes out not finite". 02, request 1: 2 tells "the lowest index bad in any supplied vector", 4 "the
-- first index whose partial sum .. is not finite"
abbrev pub dot_rows : List Float → List Float → List (RowBy Fault)
dot_rows a b =
    (alone 1, bad_length (length a) || not (eqb (length a) (length b)))
    ∷ (2 at first (bad_in_any a b) (length a), not (all_finite a && all_finite b))
    ∷ (4 at first (sum_bad (products a b)) (length a), not (finite (left_sum (products a b))))
    ∷ []

abbrev pub dot_of : List Float → List Float → ResultBy Fault Float
dot_of a b = refuse (dot_rows a b) else left_sum (products a b)

-- ---- 01: "A point is x0[i] + alpha*d[i]."

abbrev pub moved_by : Float → Float → Float → Float
moved_by alpha x d = x ⊕ alpha ⊗ d

abbrev pub moved : List Float → Float → List Float → List Float
moved x0 alpha d = zip_with (moved_by alpha) x0 d

-- 01, the table, of a point, for a buffer of m elements. 1 and 2 as for a dot; 4: "an element of a point .. comes out
-- not finite". 02, request 1: 2 tells the lowest bad index as for a dot, and "A bad alpha alone gives index n", which
-- `first` gives where no element is bad; 4 tells "the first index whose .. element is not finite"
abbrev pub point_rows : List Float → Float → List Float → ℕ → List (RowBy Fault)
point_rows x0 alpha d m =
    (alone 1, bad_length (length x0) || not (eqb (length x0) (length d) && eqb (length x0) m))
    ∷ (2 at first (bad_in_any x0 d) (length x0), not (finite alpha && all_finite x0 && all_finite d))
    ∷ (4 at first (bad (moved x0 alpha d)) (length x0), not (all_finite (moved x0 alpha d)))
    ∷ []

abbrev pub point_of : List Float → Float → List Float → ℕ → ResultBy Fault (List Float)
point_of x0 alpha d m = refuse (point_rows x0 alpha d m) else moved x0 alpha d

-- 01, the table: a refusal leaves "buffers untouched"
abbrev pub held_after : ResultBy Fault (List Float) → List Float → List Float
held_after (value p) held = p
held_after (refused k) held = held
