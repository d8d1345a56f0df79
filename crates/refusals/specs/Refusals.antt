-- 01's table "Numbers in, numbers refused", with what 02 adds: its numbers, its order, and what it means to be refused
-- by it. The rows, with their "Given exactly when", are filled in by the crates that stand on this one.
use Rattle.std.specs.Prelude.{ℕ, ◌≡◌, Bool, true, false, cond, List, [], ◌∷◌, map, eqb, Ok, Err, Option, Some, None}
use Rattle.std.specs.Prelude as Rust
use Rattle.refusals.specs.Results.{ResultBy, Result, value, refused, RowBy, Row}
use Rattle.refusals.specs.declared.Refusal.{Refusal}
use Rattle.refusals.specs.declared.Refusal.TheVariants.{
  SuppliedNotFinite,
  OutOfRange,
  ResultNotFinite,
  StepNotFinite,
  BudgetSpent,
  StepNotBetween,
  AlreadyOver,
  NotDownhill,
  GrowthsSpent,
}

-- the number of each refusal that a search can give
abbrev pub number_of : Refusal → ℕ
number_of SuppliedNotFinite = 2
number_of OutOfRange = 3
number_of ResultNotFinite = 4
number_of StepNotFinite = 5
number_of BudgetSpent = 6
number_of StepNotBetween = 7
number_of AlreadyOver = 8
number_of NotDownhill = 10
number_of GrowthsSpent = 11

-- what the code's result tells: its value, or its refusal by the number
abbrev pub by_number : {A : Type 0} → Rust.Result A Refusal → Result A
by_number (Ok a) = value a
by_number (Err k) = refused (number_of k)

-- "8 before all; then 1, 9, 2, 3, 4 in that order"; "6 comes before 5 and 7; 5 comes before 7". 02, request 3: "10,
-- after 3 and before 4"; "11, before 5". 6 and 11 never meet
abbrev pub order : List ℕ
order = 8 ∷ 1 ∷ 9 ∷ 2 ∷ 3 ∷ 10 ∷ 4 ∷ 6 ∷ 11 ∷ 5 ∷ 7 ∷ []

-- what the first row tells whose condition holds
unfoldable pub given : {K : Type 0} → List (RowBy K) → Option K
given [] = None
given (r ∷ rows) = cond r.1 (Some r.0) (given rows)

-- whether numbers come in this order; several may be the same
unfoldable pub is_in_order : List ℕ → List ℕ → Bool
is_in_order numbers [] = true
is_in_order [] (m ∷ ms) = false
is_in_order (n ∷ numbers) (m ∷ ms) = cond (eqb n m) (is_in_order (n ∷ numbers) ms) (is_in_order numbers (m ∷ ms))

-- refused by a table, or not at all: what is told, if anything, is what the first row that applies tells, and the rows
-- come in this order, by the numbers in what they tell
pub record TableBy {K : Type 0} (number_in : K → ℕ) (told : Option K) (rows : List (RowBy K)) : Type 0 where
  pub exactly : told ≡ given rows
  pub ordered : is_in_order order (map (λ r. number_in r.0) rows) ≡ true

-- of refusals that tell their number alone
abbrev pub Table : Option ℕ → List Row → Type 0
Table = TableBy (λ n. n)

-- what a result that is a refusal tells
abbrev pub refused_by : {K A : Type 0} → ResultBy K A → Option K
refused_by (value a) = None
refused_by (refused k) = Some k
