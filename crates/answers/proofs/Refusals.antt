-- What the rows of a list say, read both ways: a sound list has whole answers, each of which names a search. Assumes
-- nothing.
use Rattle.std.proofs.Common.{◌≡◌, ℕ, ◌%◌, true, not, eqb, List, ◌++◌, length, ap}
use Rattle.std.proofs.Common.{arith, length-append, eq-eqb, eqb-true}
use lib.Ieee.{Float}
use borrow.Author.Tests.{not-false}
use Rattle.refusals.proofs.Refusals.{Passed, all, and}
use Rattle.answers.specs.Answers.{answers_in, size_of, all_named, list_rows}
use Rattle.answers.proofs.Lists.{answers-of-both, named-in-both, named-in-each}

abbrev pub Sound-list : ℕ → List Float → Type 0
Sound-list n xs = (length xs % 3 ≡ 0) × (all_named (size_of n) (answers_in xs) ≡ true)

-- no row holds
pub passed-says : (n : ℕ) (xs : List Float) → Passed (list_rows n xs) → Sound-list n xs
passed-says n xs (and p (and q all)) = (eqb-true _ _ (not-false (eqb (length xs % 3) 0) p), not-false _ q)

pub passes : (n : ℕ) (xs : List Float) → Sound-list n xs → Passed (list_rows n xs)
passes n xs (p, q) = and (ap not (eq-eqb _ _ p)) (and (ap not q) all)

-- of two lists end to end
pub both-pass : (n : ℕ) (xs zs : List Float) → Passed (list_rows n xs) → Passed (list_rows n zs)
    → Passed (list_rows n (xs ++ zs))
both-pass n xs zs p q =
    let x = passed-says n xs p in
    let z = passed-says n zs q in
    let long = length-append xs zs in
    let whole = x.0 in
    let too = z.0 in
    passes n (xs ++ zs)
    (omega arith, rw (answers-of-both xs zs x.0) (named-in-both (size_of n) (answers_in xs) (answers_in zs) x.1 z.1))

pub each-passes : (n : ℕ) (xs zs : List Float) → length xs % 3 ≡ 0 → Passed (list_rows n (xs ++ zs))
    → Passed (list_rows n xs) × Passed (list_rows n zs)
each-passes n xs zs whole p =
    let b = passed-says n (xs ++ zs) p in
    let long = length-append xs zs in
    let all_of = b.0 in
    let named = named-in-each (size_of n) (answers_in xs) (answers_in zs) (rw (answers-of-both xs zs whole) at b).1 in
    (passes n xs (whole, named.0), passes n zs (omega arith, named.1))
