-- A partial sum that is not finite stays so to the end (`sums-stay`), so that one test of the last sum finds an
-- overflow at any place (`last-shows`). And the first that is not finite, as a loop finds it (`overflow-found`).
-- Assumes nothing.
use mathlib.Core.Path.{◌≡◌, refl, sym, ap, ◌∙◌}
use mathlib.Core.List.{List, [], ◌∷◌, ◌++◌, foldl, foldl-append}
use mathlib.Core.Bool.{Bool, true, false, not, cond, beq, true≢false}
use Prim.Native.Nat.{ℕ, zero, suc, ◌+◌, ◌-◌, ◌≤◌, ◌<◌, suc-le-suc}
use native.Mathlib.Nat.{le_of_suc-le-suc, not-suc-le-zero, zero-lt-suc}
use native.Mathlib.Omega.{arith}
use lib.ListN.{length, get_or, take, drop}
use lib.Seq.{take_all, take-suc, take-add}
use lib.Ieee.{Float, nan, inf, fin, add}
use lib.Ieee.Scale.{finite}
use Rattle.floats.specs.Arithmetic.{◌⊕◌}
use Rattle.vectors.specs.Faults.{first}
use Rattle.vectors.specs.Vectors.{left_sum, partial_sum, sum_bad}
use Rattle.vectors.proofs.First.{first-is}

infinities : (s t : Bool) → finite (cond (beq s t) (inf s) nan) ≡ false
infinities false false = refl
infinities false true = refl
infinities true false = refl
infinities true true = refl

one_more : (s p : Float) → finite s ≡ false → finite (s ⊕ p) ≡ false
unfolding add
one_more nan p e = refl
one_more (inf s) nan e = refl
one_more (inf s) (inf t) e = infinities s t
one_more (inf s) (fin t n d) e = refl
one_more (fin s m d) p e = absurd (true≢false e)

pub stays-not-finite : (s : Float) (ps : List Float) → finite s ≡ false → finite (foldl ◌⊕◌ s ps) ≡ false
stays-not-finite s [] e = e
stays-not-finite s (p ∷ ps) e = stays-not-finite (s ⊕ p) ps (one_more s p e)

-- ---- the partial sums of a dot: the first product, and then one product more each

pub sum_first : (ps : List Float) → 0 < length ps → left_sum (take 1 ps) ≡ get_or ps 0 nan
sum_first [] h = absurd (not-suc-le-zero h)
sum_first (p ∷ ps) h = refl

pub sum-next : (ps : List Float) (i : ℕ) → 0 < i → i < length ps
    → left_sum (take (suc i) ps) ≡ left_sum (take i ps) ⊕ get_or ps i nan
sum-next [] i h k = absurd (not-suc-le-zero k)
sum-next (p ∷ ps) zero h k = absurd (not-suc-le-zero h)
sum-next (p ∷ ps) (suc i) h k =
    ap (foldl ◌⊕◌ p) (take-suc ps i nan (le_of_suc-le-suc k)) ∙ foldl-append ◌⊕◌ p (take i ps) (get_or ps i nan ∷ [])

-- once a partial sum is not finite, every later one is not
pub sums-stay : (ps : List Float) (i j : ℕ) → i ≤ j → finite (partial_sum ps i) ≡ false
    → finite (partial_sum ps j) ≡ false
sums-stay [] i j le e = e
sums-stay (p ∷ ps) i j le e =
    let more : i + (j - i) ≡ j = omega arith in
    let rest = take (j - i) (drop i ps) in
    let split : take j ps ≡ take i ps ++ rest = ap (λ k. take k ps) (sym more) ∙ take-add i (j - i) ps in
    ap finite (ap (foldl ◌⊕◌ p) split ∙ foldl-append ◌⊕◌ p (take i ps) rest)
    ∙ stays-not-finite (foldl ◌⊕◌ p (take i ps)) rest e

-- the last one is the dot
pub last_sum : (ps : List Float) (i : ℕ) → length ps ≤ suc i → partial_sum ps i ≡ left_sum ps
last_sum ps i h = ap left_sum (take_all (suc i) ps h)

-- so it shows whether any was not finite
pub last-shows : (ps : List Float) (i : ℕ) → finite (partial_sum ps i) ≡ false → finite (left_sum ps) ≡ false
last-shows ps i e =
    ap finite (sym (last_sum ps (i + length ps) (omega arith))) ∙ sums-stay ps i (i + length ps) (omega arith) e

-- ---- the first that is not finite, by a loop that has added i products
pub overflow-found : (ps : List Float) (n i : ℕ) → 0 < i → i ≤ n → finite (left_sum (take i ps)) ≡ false
    → ((k : ℕ) → k < i → 0 < k → finite (left_sum (take k ps)) ≡ true) → i - 1 ≡ first (sum_bad ps) n
overflow-found ps n zero h le e before = absurd (not-suc-le-zero h)
overflow-found ps n (suc i) h le e before =
    let less : suc i - 1 ≡ i = omega arith in
    less
    ∙ sym
    (first-is (sum_bad ps) n i record {
      below = le;
      holds = ap not e;
      lowest = λ j l. ap not (before (suc j) (suc-le-suc l) (zero-lt-suc j));
    })
