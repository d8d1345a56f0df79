-- 02, request 1: where a dot or a point is refused by 2 or 4, its index is that of the first element at fault
-- (`dot_at`, `point_at`). From the row that refused, and from what `first` gives. Assumes nothing.
use Prim.Native.Nat.{ℕ, zero, suc, ◌≤◌, ◌<◌}
use native.Mathlib.Nat.{not-suc-le-zero}
use native.Mathlib.Omega.{arith}
use mathlib.Core.Path.{◌≡◌, refl, sym, ap, subst, ◌∙◌}
use mathlib.Core.Bool.{Bool, true, false, not, ◌&&◌, ◌||◌, true≢false}
use mathlib.Core.List.{List, [], ◌∷◌}
use mathlib.Core.Logic.{◌⊎◌, inl, inr, ⊎_elim}
use borrow.Author.Tests.{ltb-true, ltb-false, eqb-true, not-true, not-false}
use lib.Dec.{ltb, eqb}
use lib.ListN.{length}
use lib.Ieee.{Float, of_bits}
use lib.Ieee.Scale.{finite}
use Rattle.floats.specs.Arithmetic.{◌⊗◌}
use Rattle.floats.proofs.Branches.{neither-first, neither-second, and_first}
use Rattle.refusals.specs.Results.{ResultBy, refused, RowBy, refuse◌else◌}
use Rattle.refusals.specs.Refusals.{refused_by}
use Rattle.refusals.proofs.Refusals.{First, this, later, given-first, by_rows}
use Rattle.vectors.specs.Faults.{Fault, alone, ◌at◌, number_in, first, IsFirst}
use Rattle.vectors.specs.Vectors.{bad_length, bad, bad_in_any, products, left_sum, sum_bad, moved, moved_by}
use Rattle.vectors.specs.Vectors.{dot_rows, dot_of, point_rows, point_of}
use Rattle.vectors.specs.Positions.{DotAt, OneCondition, AtFault, element, alpha-alone, PointAt}
use Rattle.vectors.proofs.Elements.{not-empty, zip_length}
use Rattle.vectors.proofs.First.{is-first, none_before, none_found}
use Rattle.vectors.proofs.PartialSums.{sums-stay, last_sum, last-shows}
use Rattle.vectors.proofs.Faults.{bad-nowhere, bad-in-none}

-- ---- which row refused, of a table of 1, 2 and 4 with any indices and conditions
module _ {x y i : ℕ} {c1 c2 c4 : Bool} where
  by_2 : First (2 at i) ((alone 1, c1) ∷ (2 at x, c2) ∷ (4 at y, c4) ∷ []) → (c1 ≡ false) × (c2 ≡ true) × (x ≡ i)
  by_2 (this e t) = let z = ap number_in e in absurd (omega arith)
  by_2 (later f (this e t)) = (f, t, cc)
  by_2 (later f (later g (this e t))) = let z = ap number_in e in absurd (omega arith)
  by_2 (later f (later g (later _ x17))) = elim x17 [ ]

  by_4 : First (4 at i) ((alone 1, c1) ∷ (2 at x, c2) ∷ (4 at y, c4) ∷ []) → (c1 ≡ false) × (c4 ≡ true) × (y ≡ i)
  by_4 (this e t) = let z = ap number_in e in absurd (omega arith)
  by_4 (later f (this e t)) = let z = ap number_in e in absurd (omega arith)
  by_4 (later f (later g (this e t))) = (f, t, cc)
  by_4 (later f (later g (later _ x17))) = elim x17 [ ]

row-given : {A : Type 0} (rows : List (RowBy Fault)) (v : A) (k : Fault) → (refuse rows else v) ≡ refused k
    → First k rows
row-given rows v k e = given-first k rows (sym (by_rows rows v) ∙ ap refused_by e)

-- ---- what `first` gives is the first index, or the test holds at none
first_or_none : (p : ℕ → Bool) (n i : ℕ) → first p n ≡ i → IsFirst p n i ⊎ (n ≤ first p n)
first_or_none p n i e = by-test _ refl
  where
    by-test : (b : Bool) → ltb (first p n) n ≡ b → IsFirst p n i ⊎ (n ≤ first p n)
    by-test true t = inl (subst (IsFirst p n) e (is-first p n (ltb-true _ _ t)))
    by-test false t = inr (ltb-false _ _ t)

first_then : (p : ℕ → Bool) (n i : ℕ) → first p n ≡ i → (n ≤ first p n → ⊥) → IsFirst p n i
first_then p n i e never = ⊎_elim (λ it. it) (λ over. absurd (never over)) (first_or_none p n i e)

-- ---- a dot

last-bad : (ps : List Float) (n : ℕ) → length ps ≡ n → 0 < n → finite (left_sum ps) ≡ false
    → n ≤ first (sum_bad ps) n → ⊥
last-bad ps zero long h e over = not-suc-le-zero h
last-bad ps (suc m) long h e over =
    let end = none_found (sum_bad ps) (suc m) _ refl over in
    let good : sum_bad ps m ≡ false = none_before (sum_bad ps) (suc m) m (omega arith) in
    true≢false (sym (not-false _ good) ∙ ap finite (last_sum ps m (omega arith)) ∙ e)

module _ (a b : List Float) where
  -- where row 1 does not refuse
  fit : (bad_length (length a) || not (eqb (length a) (length b))) ≡ false → (0 < length a) × (length a ≡ length b)
  fit e = (
    not-empty _ (neither-first (bad_length (length a)) _ e),
    eqb-true _ _ (not-false _ (neither-second (bad_length (length a)) _ e)),
  )

  supplied-at : (i : ℕ) → dot_of a b ≡ refused (2 at i) → IsFirst (bad_in_any a b) (length a) i
  supplied-at i e =
      let row = by_2 (row-given (dot_rows a b) _ (2 at i) e) in
      first_then (bad_in_any a b) (length a) i row.2
      (λ over. true≢false (sym (bad-in-none a b (fit row.0).1 _ refl over) ∙ not-true _ row.1))

  result-at : (i : ℕ) → dot_of a b ≡ refused (4 at i) → IsFirst (sum_bad (products a b)) (length a) i
  result-at i e =
      let row = by_4 (row-given (dot_rows a b) _ (4 at i) e) in
      let lengths = fit row.0 in
      first_then (sum_bad (products a b)) (length a) i row.2
      (last-bad (products a b) (length a) (zip_length ◌⊗◌ a b lengths.1) lengths.0 (not-true _ row.1))

pub dot_at : (a b : List Float) (told : ResultBy Fault Float) → told ≡ dot_of a b → DotAt a b told
dot_at a b told said = record {
  supplied = λ i e. supplied-at a b i (sym said ∙ e);
  result = λ i e. result-at a b i (sym said ∙ e);
}

some-sum : (ps : List Float) → finite (left_sum ps) ≡ false → (i : ℕ) × (i < length ps) × (sum_bad ps i ≡ true)
unfolding of_bits
some-sum [] e = absurd (true≢false e)
some-sum (p ∷ ps) e = (length ps, omega arith, ap not (ap finite (last_sum (p ∷ ps) (length ps) (omega arith)) ∙ e))

pub one-condition : (ps : List Float) → OneCondition ps
one-condition ps = record {
  stays = λ i j le e. ap not (sums-stay ps i j le (not-true _ e));
  some-sum = some-sum ps;
  dot-too = λ i e. last-shows ps i (not-true _ e);
}

-- ---- a point
alpha-bad : (alpha x d : Bool) → (alpha && x && d) ≡ false → (x && d) ≡ true → alpha ≡ false
alpha-bad true x d e t = absurd (true≢false (sym t ∙ e))
alpha-bad false x d e t = refl

module _ (x0 : List Float) (alpha : Float) (d : List Float) (m : ℕ) where
  same_length : (bad_length (length x0) || not (eqb (length x0) (length d) && eqb (length x0) m)) ≡ false
      → length x0 ≡ length d
  same_length e =
      eqb-true _ _ (and_first _ (eqb (length x0) m) (not-false _ (neither-second (bad_length (length x0)) _ e)))

  fault-at : (i : ℕ) → point_of x0 alpha d m ≡ refused (2 at i) → AtFault x0 alpha d i
  fault-at i e =
      let row = by_2 (row-given (point_rows x0 alpha d m) _ (2 at i) e) in
      ⊎_elim element
      (λ over.
      let end = none_found (bad_in_any x0 d) (length x0) _ refl over in
      let good = bad-in-none x0 d (same_length row.0) _ refl over in
      alpha-alone (sym row.2 ∙ end) (alpha-bad (finite alpha) _ _ (not-true _ row.1) good)
      (λ j h. none_before (bad_in_any x0 d) (length x0) j (omega arith)))
      (first_or_none (bad_in_any x0 d) (length x0) i row.2)

  element-at : (i : ℕ) → point_of x0 alpha d m ≡ refused (4 at i) → IsFirst (bad (moved x0 alpha d)) (length x0) i
  element-at i e =
      let row = by_4 (row-given (point_rows x0 alpha d m) _ (4 at i) e) in
      let long = zip_length (moved_by alpha) x0 d (same_length row.0) in
      first_then (bad (moved x0 alpha d)) (length x0) i row.2
      (λ over. true≢false (sym (bad-nowhere (moved x0 alpha d) _ long _ refl over) ∙ not-true _ row.1))

pub point_at : (x0 : List Float) (alpha : Float) (d : List Float) (m : ℕ) (told : ResultBy Fault (List Float))
    → told ≡ point_of x0 alpha d m → PointAt x0 alpha d told
point_at x0 alpha d m told said = record {
  supplied = λ i e. fault-at x0 alpha d m i (sym said ∙ e);
  result = λ i e. element-at x0 alpha d m i (sym said ∙ e);
}
