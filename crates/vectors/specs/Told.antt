-- What each case of an answer tells, in 01's numbers and values and 02's indices; and what the contracts of `dot` and
-- `point` say (`DotSaid`, `PointSaid`).
use Rattle.std.specs.Prelude.{◌≡◌, ℕ, Bool, true, false, List, length, Float, Result, Ok, Err}
use Rattle.vectors.specs.declared.Refusal.{Refusal}
use Rattle.vectors.specs.declared.Refusal.TheVariants.{Lengths, SuppliedNotFinite, ResultNotFinite}
use Rattle.refusals.specs.Results.{ResultBy, value, refused}
use Rattle.vectors.specs.Faults.{Fault, alone, ◌at◌, number_in}
use Rattle.vectors.specs.Vectors.{dot_of, point_of, held_after}

abbrev pub fault_of : Refusal → Fault
fault_of Lengths = alone 1
fault_of (SuppliedNotFinite i) = 2 at i
fault_of (ResultNotFinite i) = 4 at i

abbrev pub number_of : Refusal → ℕ
number_of k = number_in (fault_of k)

-- what a check says that refuses by k where vectors are bad
abbrev pub CheckSaid : {A : Type 0} → Bool → Refusal → Result A Refusal → Type 0
CheckSaid bad k (Ok _) = bad ≡ false
CheckSaid bad k (Err e) = (bad ≡ true) × (e ≡ k)

abbrev pub dot_told : Result Float Refusal → ResultBy Fault Float
dot_told (Ok v) = value v
dot_told (Err k) = refused (fault_of k)

-- what `dot`'s contract says of a result r
abbrev pub DotSaid : List Float → List Float → Result Float Refusal → Type 0
DotSaid a b r = dot_told r ≡ dot_of a b

-- `Ok` tells as its value what the buffer holds now
abbrev pub point_told : Result (Unit {0}) Refusal → List Float → ResultBy Fault (List Float)
point_told (Ok _) held = value held
point_told (Err k) held = refused (fault_of k)

-- what `point`'s contract says of a result r and of what the buffer holds `now`, where it held `held`
abbrev pub PointSaid : List Float → Float → List Float → List Float → Result (Unit {0}) Refusal → List Float → Type 0
PointSaid x0 alpha d held r now =
    (point_told r now ≡ point_of x0 alpha d (length held)) × (now ≡ held_after (point_of x0 alpha d (length held)) held)
