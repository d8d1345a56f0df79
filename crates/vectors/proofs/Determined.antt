-- Any two results that the contract of `dot` or of `point` allows are identical, and so is what `point` leaves in the
-- buffer (01, "How tight the contracts are"): a result, its index too, can be read back from what is told of it.
-- Assumes nothing.
use mathlib.Core.Path.{◌≡◌, refl, sym, ap, ◌∙◌}
use mathlib.Core.Bool.{cond}
use mathlib.Core.List.{List}
use lib.Dec.{eqb}
use Rattle.std.specs.Prelude.{Result, Ok, Err}
use lib.Ieee.{Float}
use Rattle.refusals.specs.Results.{ResultBy, value, refused}
use Rattle.floats.proofs.Determined.{determined}
use Rattle.vectors.specs.declared.Refusal.{Refusal}
use Rattle.vectors.specs.declared.Refusal.TheVariants.{Lengths, SuppliedNotFinite, ResultNotFinite}
use Rattle.vectors.specs.Faults.{Fault, alone, ◌at◌}
use Rattle.vectors.specs.Told.{fault_of, dot_told, DotSaid, point_told, PointSaid}

with_fault : Fault → Refusal
with_fault (alone n) = Lengths
with_fault (n at i) = cond (eqb n 2) (SuppliedNotFinite i) (ResultNotFinite i)

fault-back : (k : Refusal) → with_fault (fault_of k) ≡ k
unfolding with_fault
fault-back Lengths = refl
fault-back (SuppliedNotFinite i) = refl
fault-back (ResultNotFinite i) = refl

read-dot : ResultBy Fault Float → Result Float Refusal
read-dot (value v) = Ok v
read-dot (refused k) = Err (with_fault k)

read-point : ResultBy Fault (List Float) → Result (Unit {0}) Refusal
read-point (value p) = Ok tt
read-point (refused k) = Err (with_fault k)

dot-back : (r : Result Float Refusal) → read-dot (dot_told r) ≡ r
unfolding read-dot
dot-back (Ok v) = refl
dot-back (Err k) = ap Err (fault-back k)

point-back : (held : List Float) (r : Result (Unit {0}) Refusal) → read-point (point_told r held) ≡ r
unfolding read-point
point-back held (Ok _) = refl
point-back held (Err k) = ap Err (fault-back k)

pub dot-determined : (a b : List Float) (r q : Result Float Refusal) → DotSaid a b r → DotSaid a b q → r ≡ q
dot-determined a b r q said said' = determined dot_told read-dot dot-back r q (said ∙ sym said')

-- the buffer held `held`; with r it holds `now`, and with q `later`
pub point-determined : (x0 : List Float) (alpha : Float) (d held : List Float)
    (r q : Result (Unit {0}) Refusal) (now later : List Float)
    → PointSaid x0 alpha d held r now → PointSaid x0 alpha d held q later → (r ≡ q) × (now ≡ later)
point-determined x0 alpha d held r q now later said said' =
    let same : now ≡ later = said.1 ∙ sym said'.1 in
    let told : point_told r later ≡ point_told q later = sym (ap (point_told r) same) ∙ said.0 ∙ sym said'.0 in
    (determined (λ p. point_told p later) read-point (point-back later) r q told, same)
