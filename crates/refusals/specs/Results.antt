-- What a routine answers: a value, or a refusal; and how 01's table "Numbers in, numbers refused" gives the refusal.
-- (What the caller answers to a search is a cost and a slope, a `Reply`.)
use Rattle.std.specs.Prelude.{ℕ, Bool, cond, List, [], ◌∷◌}

-- K is what a refusal tells: its number, or its number and more
pub data ResultBy (K A : Type 0) : Type 0 where
  value : A → ResultBy K A
  refused : K → ResultBy K A

-- a row of the table: what its refusal tells, and whether what stands under "Given exactly when" holds
abbrev pub RowBy : Type 0 → Type 0
RowBy K = K × Bool

-- refusals that tell their number, and nothing else
abbrev pub Result : Type 0 → Type 0
Result A = ResultBy ℕ A

abbrev pub Row : Type 0
Row = RowBy ℕ

-- "Order": the first row that holds refuses, and what stands behind it is not looked at; where none holds, this is the
-- value
infixr 20 refuse◌else◌
abbrev pub refuse◌else◌ : {K A : Type 0} → List (RowBy K) → A → ResultBy K A
refuse [] else a = value a
refuse (r ∷ rows) else a = cond r.1 (refused r.0) (refuse rows else a)
