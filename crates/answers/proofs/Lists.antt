-- A list of answers, read as arrays of three floats, and the search that an answer changes. Assumes nothing.
use Rattle.std.proofs.Common.{◌≡◌, ℕ, zero, suc, ◌%◌, ◌<◌, ◌≤◌, true, false, ◌&&◌, ltb, List, [], ◌∷◌}
use Rattle.std.proofs.Common.{◌++◌, length, get_or, set, refl, ap, le_of_suc-le-suc, not-suc-le-zero}
use Rattle.std.proofs.Common.{arith, ltb-true, ltb-false, le-ltb, lt-ltb, map, ◌/◌, Bool, cond, Some, None, sym, ◌∙◌}
use Rattle.std.specs.Prelude.{MatchOption}
use Rattle.std.specs.List.{list_all}
use Rattle.std.specs.Simd.{first_chunks}
use lib.Ieee.{Float, nan}
use Rattle.floats.proofs.Branches.{by_cases, both, and_first, and_second}
use Rattle.answers.specs.Many.{Answer, changed}
use Rattle.answers.specs.Answers.{search_number, search_named, answers_in, size_of, all_named}

-- ---- the answers as arrays of three floats
abbrev pub answer_of : List Float → Answer
answer_of a = (search_number (get_or a 0 nan), (get_or a 1 nan, get_or a 2 nan))

third : (m : ℕ) → suc (suc (suc m)) / 3 ≡ suc (m / 3)
third m = omega arith

pub answers-of-chunks : (xs : List Float) → answers_in xs ≡ map answer_of (first_chunks 3 (length xs / 3) xs)
unfolding answers_in
answers-of-chunks [] = refl
answers-of-chunks (x ∷ []) = refl
answers-of-chunks (x ∷ f ∷ []) = refl
answers-of-chunks (x ∷ f ∷ g ∷ xs) =
    rw (third (length xs)) (ap (λ ys. (search_number x, (f, g)) ∷ ys) (answers-of-chunks xs))

-- whether an array, an answer, names a search below n
abbrev pub names_below : ℕ → List Float → Bool
names_below n a = ltb (search_number (get_or a 0 nan)) n

all-named-of : (n : ℕ) (cs : List (List Float)) → list_all (names_below n) cs ≡ all_named n (map answer_of cs)
unfolding all_named
all-named-of n [] = refl
all-named-of n (c ∷ cs) = ap (λ b. names_below n c && b) (all-named-of n cs)

pub named-in-chunks : (n : ℕ) (xs : List Float)
    → list_all (names_below n) (first_chunks 3 (length xs / 3) xs) ≡ all_named n (answers_in xs)
named-in-chunks n xs = all-named-of n _ ∙ ap (all_named n) (sym (answers-of-chunks xs))

-- ---- the search with the number i, in place
pub changed-set : {S : Type 0} (t : List S) (i : ℕ) (h : S → S) (d : S) → i < length t
    → changed i h t ≡ set t i (h (get_or t i d))
unfolding changed
changed-set [] i h d l = absurd (not-suc-le-zero l)
changed-set (s ∷ t) zero h d l = refl
changed-set (s ∷ t) (suc i) h d l = ap (λ u. s ∷ u) (changed-set t i h d (le_of_suc-le-suc l))

pub changed-beyond : {S : Type 0} (t : List S) (i : ℕ) (h : S → S) → length t ≤ i → changed i h t ≡ t
unfolding changed
changed-beyond [] i h l = refl
changed-beyond (s ∷ t) zero h l = absurd (not-suc-le-zero l)
changed-beyond (s ∷ t) (suc i) h l = ap (λ u. s ∷ u) (changed-beyond t i h (le_of_suc-le-suc l))

pub length-changed : {S : Type 0} (t : List S) (i : ℕ) (h : S → S) → length (changed i h t) ≡ length t
unfolding changed
length-changed [] i h = refl
length-changed (s ∷ t) zero h = refl
length-changed (s ∷ t) (suc i) h = ap suc (length-changed t i h)

-- ---- two lists end to end
pub answers-of-both : (xs zs : List Float) → length xs % 3 ≡ 0 → answers_in (xs ++ zs) ≡ answers_in xs ++ answers_in zs
unfolding answers_in
answers-of-both [] zs h = refl
answers-of-both (x ∷ []) zs h = absurd (let n : 1 % 3 ≡ 0 = h in omega arith)
answers-of-both (x ∷ f ∷ []) zs h = absurd (let n : 2 % 3 ≡ 0 = h in omega arith)
answers-of-both (x ∷ f ∷ g ∷ xs) zs h =
    let n : suc (suc (suc (length xs))) % 3 ≡ 0 = h in
    ap (λ l. (search_number x, (f, g)) ∷ l) (answers-of-both xs zs (omega arith))

pub named-in-both : (n : ℕ) (ys zs : List Answer) → all_named n ys ≡ true → all_named n zs ≡ true
    → all_named n (ys ++ zs) ≡ true
unfolding all_named
named-in-both n [] zs p q = q
named-in-both n (a ∷ ys) zs p q =
    both (ltb a.0 n) (all_named n (ys ++ zs)) (and_first (ltb a.0 n) (all_named n ys) p)
    (named-in-both n ys zs (and_second (ltb a.0 n) (all_named n ys) p) q)

pub named-in-each : (n : ℕ) (ys zs : List Answer) → all_named n (ys ++ zs) ≡ true
    → (all_named n ys ≡ true) × (all_named n zs ≡ true)
unfolding all_named
named-in-each n [] zs e = (refl, e)
named-in-each n (a ∷ ys) zs e =
    let rest = named-in-each n ys zs (and_second (ltb a.0 n) (all_named n (ys ++ zs)) e) in
    (both (ltb a.0 n) (all_named n ys) (and_first (ltb a.0 n) (all_named n (ys ++ zs)) e) rest.0, rest.1)

pub size_fits : (n : ℕ) → size_of n ≤ 32
unfolding size_of
size_fits n = by_cases (λ (k : ℕ). k ≤ 32) (ltb n 32) (λ t. let l = ltb-true n 32 t in omega arith) (λ t. omega arith)

-- ---- whether a search is named

-- a number that x names is below 32, so below n only where it is below the size of n
within-size : (n s : ℕ) → s < 32 → ltb s n ≡ ltb s (size_of n)
unfolding size_of
within-size n s h =
    by_cases (λ (k : ℕ). ltb s n ≡ ltb s k) (ltb n 32) (λ t. refl)
    (λ f. let l = ltb-false n 32 f in lt-ltb s n (omega arith) ∙ sym (lt-ltb s 32 h))

below-by : (n s : ℕ) (b t : Bool) → ltb s 32 ≡ t
    → MatchOption (cond t (Some s) None) (b ≡ false) (λ k. b ≡ ltb k n) → b ≡ ltb s (size_of n)
below-by n s b true e m = m ∙ within-size n s (ltb-true s 32 e)
below-by n s b false e m =
    let h = ltb-false s 32 e in let l = size_fits n in m ∙ sym (le-ltb s (size_of n) (omega arith))

pub is-below : (n : ℕ) (x : Float) (b : Bool) → MatchOption (search_named x) (b ≡ false) (λ k. b ≡ ltb k n)
    → b ≡ ltb (search_number x) (size_of n)
is-below n x b m = below-by n (search_number x) b (ltb (search_number x) 32) refl m
