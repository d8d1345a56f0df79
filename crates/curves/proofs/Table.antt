-- The table's rules. The code's rows, end to end, are the table (`code-rows`), and a row is a curve of it
-- (`curve-of-row`). A test that holds of each entry holds at every place; so each coefficient is an i8
-- (`coefficient-fits`). And nothing is lost in the cast to f64: cast back, each coefficient is what it was
-- (`cast-back`). Assumes nothing.
use Rattle.std.proofs.Common.{◌≡◌, ℕ, zero, suc, ◌+◌, ◌*◌, ◌<◌, Bool, true, ◌&&◌, eqb, List, [], ◌∷◌, ◌++◌, map, length}
use Rattle.std.proofs.Common.{get_or, refl, ◌∙◌, ◌^◌, T, ltb, subst, arith, add-zero, eqb-true, ℤ, pos}
use Rattle.std.proofs.lemmas.List.{get_or_append_left, get_or-append-add}
use Rattle.std.specs.Float.{binary64}
use lib.Ieee.{of_int, to_signed}
use lib.Ieee.Fits.{and_l, and_r}
use lib.Signed.{mag}
use mir.Syntax.{w8}
use mir.Val.{SFits, hbits}
use mir.Facts.{sfits_lit}
use Rattle.floats.proofs.Branches.{and_first, and_second}
use Rattle.curves.specs.declared.TheConstants.{TABLE}
use Rattle.curves.specs.Curves.{table, curve_of_row, curve_at}

-- ---- the rows

abbrev pub end_to_end : List (List ℤ) → List ℤ
end_to_end [] = []
end_to_end (r ∷ rows) = r ++ end_to_end rows

abbrev pub of_five : List (List ℤ) → Bool
of_five [] = true
of_five (r ∷ rows) = eqb (length r) 5 && of_five rows

entry-of-row : (rows : List (List ℤ)) (i j : ℕ) (d : List ℤ) → of_five rows ≡ true → i < length rows → j < 5
    → get_or (end_to_end rows) (i * 5 + j) (pos 0) ≡ get_or (get_or rows i d) j (pos 0)
entry-of-row [] i j d f h l = absurd (omega arith)
entry-of-row (r ∷ rows) zero j d f h l =
    let five : length r ≡ 5 = eqb-true _ _ (and_first (eqb (length r) 5) (of_five rows) f) in
    let e : 0 * 5 + j ≡ j = omega arith in
    rw e (get_or_append_left r (end_to_end rows) (pos 0) j (omega arith))
entry-of-row (r ∷ rows) (suc i) j d f h l =
    let five : length r ≡ 5 = eqb-true _ _ (and_first (eqb (length r) 5) (of_five rows) f) in
    let e : suc i * 5 + j ≡ length r + (i * 5 + j) = omega arith in
    rw e
    (get_or-append-add r (end_to_end rows) (i * 5 + j) (pos 0)
    ∙ entry-of-row rows i j d (and_second (eqb (length r) 5) (of_five rows) f) (omega arith) l)

-- a row is the curve whose c0 is the entry at which it begins
pub curve-of-row : (rows : List (List ℤ)) (i : ℕ) (d : List ℤ) → end_to_end rows ≡ table → of_five rows ≡ true
    → i < length rows → curve_of_row (get_or rows i d) ≡ curve_at (i * 5)
curve-of-row rows i d e f h =
    let at : (j : ℕ) → j < 5 → get_or table (i * 5 + j) (pos 0) ≡ get_or (get_or rows i d) j (pos 0) =
    λ j l. subst (λ (t : List ℤ). get_or t (i * 5 + j) (pos 0) ≡ get_or (get_or rows i d) j (pos 0)) e
    (entry-of-row rows i j d f h l) in
    let first : get_or table (i * 5) (pos 0) ≡ get_or (get_or rows i d) 0 (pos 0) =
    rw add-zero at (at 0 (omega arith)) in
    rw (first, at 1 (omega arith), at 2 (omega arith), at 3 (omega arith), at 4 (omega arith))

-- the code's rows are the table
pub code-rows : end_to_end TABLE ≡ table
unfolding table
code-rows = refl

-- ---- the entries

abbrev every : (ℤ → Bool) → List ℤ → Bool
every test [] = true
every test (z ∷ zs) = test z && every test zs

every-at : (test : ℤ → Bool) (zs : List ℤ) (other : ℤ) → T (every test zs) → T (test other) → (i : ℕ)
    → T (test (get_or zs i other))
every-at test [] other t o i = o
every-at test (z ∷ zs) other t o zero = and_l (test z) (every test zs) t
every-at test (z ∷ zs) other t o (suc i) = every-at test zs other (and_r (test z) (every test zs) t) o i

pub coefficient-fits : (i : ℕ) → SFits w8 (get_or table i (pos 0))
unfolding table
coefficient-fits i = sfits_lit (every-at (λ (z : ℤ). ltb (mag z) (2 ^ hbits w8)) table (pos 0) tt tt i)

-- an i8 has seven bits and its sign
pub cast-back : map (λ (z : ℤ). to_signed 7 (of_int binary64 z)) table ≡ table
unfolding table of_int to_signed
cast-back = refl
