-- A table of refusals read both ways: a refusal is given exactly when its row is the first whose condition holds. Once
-- for every table, whatever a refusal tells. Assumes nothing.
use mathlib.Core.Path.{◌≡◌, refl, sym, ap, ◌∙◌}
use mathlib.Core.Bool.{Bool, true, false}
use mathlib.Core.List.{List, [], ◌∷◌}
use Rattle.std.specs.Prelude.{Some}
use Rattle.std.proofs.lemmas.Option.{none-some, same_Some}
use Rattle.refusals.specs.Results.{ResultBy, value, refused, RowBy, refuse◌else◌}
use Rattle.refusals.specs.Refusals.{given, refused_by}
use Rattle.floats.proofs.Branches.{by_cases, by-cases₂}

module _ {K : Type 0} where
  -- the row that tells k is the first whose condition holds
  pub data First (k : K) : List (RowBy K) → Type 0 where
    this : {m : K} {c : Bool} {rows : List (RowBy K)} → m ≡ k → c ≡ true → First k ((m, c) ∷ rows)
    later : {m : K} {c : Bool} {rows : List (RowBy K)} → c ≡ false → First k rows → First k ((m, c) ∷ rows)

  -- the condition gives what it tells
  pub first-given : {k : K} {rows : List (RowBy K)} → First k rows → given rows ≡ Some k
  unfolding given
  first-given (this e c) = rw (c, e)
  first-given (later c f) = rw c (first-given f)

  -- and it is given only then
  pub given-first : (k : K) (rows : List (RowBy K)) → given rows ≡ Some k → First k rows
  unfolding given
  given-first k [] = λ e. absurd (none-some k e)
  given-first k (r ∷ rows) =
      by_cases (λ o. o ≡ Some k → First k (r ∷ rows)) r.1 (λ t e. this (same_Some r.0 k e) t)
      (λ t e. later t (given-first k rows e))

  -- no row holds
  pub data Passed : List (RowBy K) → Type 0 where
    all : Passed []
    and : {n : K} {c : Bool} {rows : List (RowBy K)} → c ≡ false → Passed rows → Passed ((n, c) ∷ rows)

-- ---- a result by a table
module _ {K A : Type 0} where
  -- it tells what the first row tells that holds
  pub by_rows : (rows : List (RowBy K)) (a : A) → refused_by (refuse rows else a) ≡ given rows
  unfolding given
  by_rows [] a = refl
  by_rows (r ∷ rows) a =
      by-cases₂ (λ (q : ResultBy K A) o. refused_by q ≡ o) r.1 (λ t. refl) (λ t. by_rows rows a)

  pub refused-not-value : (k : K) (a : A) → refused k ≡ value a → ⊥
  refused-not-value k a e = none-some k (sym (ap refused_by e))

  same-value : (a b : A) → ◌≡◌ {A = ResultBy K A} (value a) (value b) → a ≡ b
  same-value a b e = cc

  -- where there is a value, no row held, and it is the one behind the rows
  pub passed : (rows : List (RowBy K)) (a b : A) → (refuse rows else a) ≡ value b → Passed rows × (a ≡ b)
  passed [] a b = λ e. (all, same-value a b e)
  passed (r ∷ rows) a b =
      by_cases (λ q. q ≡ value b → Passed (r ∷ rows) × (a ≡ b)) r.1 (λ t e. absurd (refused-not-value r.0 b e))
      (λ t e. let p = passed rows a b e in (and t p.0, p.1))

  -- and where no row holds, it is
  pub value-given : (rows : List (RowBy K)) (a : A) → Passed rows → (refuse rows else a) ≡ value a
  value-given [] a all = refl
  value-given (r ∷ rows) a (and t p) = rw t (value-given rows a p)

  pub never-refused : (rows : List (RowBy K)) (a : A) → Passed rows → (k : K) → refused k ≡ (refuse rows else a) → ⊥
  never-refused rows a p k e = refused-not-value k a (e ∙ value-given rows a p)

-- two results by the same rows, each read in its way: alike where the values are, and every refusal
pub alike : {K A B T : Type 0} (h : ResultBy K A → T) (k : ResultBy K B → T)
    → ((n : K) → h (refused n) ≡ k (refused n)) → (a : A) (b : B) → h (value a) ≡ k (value b)
    → (rows : List (RowBy K)) → h (refuse rows else a) ≡ k (refuse rows else b)
alike h k same a b e [] = e
alike h k same a b e (r ∷ rows) =
    by-cases₂ (λ p q. h p ≡ k q) r.1 (λ t. same r.0) (λ t. alike h k same a b e rows)
