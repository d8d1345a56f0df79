-- What closes the needs of branching code against a definition by tests: `search tests` follows the tests that led to a
-- return. And what is known of a choice. Assumes nothing.
use mathlib.Core.Path.{◌≡◌, refl, sym, ap, ◌∙◌}
use mathlib.Core.Bool.{Bool, true, false, not, cond, ◌&&◌, ◌||◌, false≢true}
use borrow.Author.Tests.{not-true, not-false, lt-ltb, le-ltb, le-leb, lt-leb}

pub if_yes : {A : Type 0} (b : Bool) (x y r : A) → b ≡ true → r ≡ x → r ≡ cond b x y
if_yes b x y r e h = rw e h

pub if_no : {A : Type 0} (b : Bool) (x y r : A) → b ≡ false → r ≡ y → r ≡ cond b x y
if_no b x y r e h = rw e h

-- a test that is a call's result, or its denial
pub by_call : {A : Type 0} (t b v : A) → t ≡ b → t ≡ v → b ≡ v
by_call t b v e h = sym e ∙ h

pub and-by-call : (t b q v : Bool) → t ≡ b → (t && q) ≡ v → (b && q) ≡ v
and-by-call t b q v e f = ap (λ (x : Bool). x && q) (sym e) ∙ f

pub not-by-call : (t b : Bool) → t ≡ b → not t ≡ true → b ≡ false
not-by-call t b e h = sym e ∙ not-true t h

pub not-not-by-call : (t b : Bool) → t ≡ b → not t ≡ false → b ≡ true
not-not-by-call t b e h = sym e ∙ not-false t h

pub ruleset tests = (if_yes, if_no, by_call, not-by-call, not-not-by-call, lt-ltb, le-ltb, le-leb, lt-leb)

-- ---- a choice has what its two sides have, each where the test says so; and two choices by one test agree as their
-- sides do
pub by_cases {ℓ} : {A : Type 0} (P : A → Type ℓ) (b : Bool) {x y : A} → (b ≡ true → P x) → (b ≡ false → P y)
    → P (cond b x y)
by_cases P true p q = p refl
by_cases P false p q = q refl

pub by-cases₂ : {A B : Type 0} (P : A → B → Type 0) (b : Bool) {x y : A} {v w : B} → (b ≡ true → P x v)
    → (b ≡ false → P y w) → P (cond b x y) (cond b v w)
by-cases₂ P true p q = p refl
by-cases₂ P false p q = q refl

-- ---- the parts of a test of several
-- a test that cannot hold fails
pub false-if : (b : Bool) → (b ≡ true → ⊥) → b ≡ false
false-if true never = absurd (never refl)
false-if false never = refl

pub both : (a b : Bool) → a ≡ true → b ≡ true → (a && b) ≡ true
both a b e h = rw (e, h)

pub and_first : (a b : Bool) → (a && b) ≡ true → a ≡ true
and_first true b e = refl
and_first false b e = e

pub and_second : (a b : Bool) → (a && b) ≡ true → b ≡ true
and_second true b e = e
and_second false b e = absurd (false≢true e)

pub not-second : (a b : Bool) → (a && b) ≡ false → a ≡ true → b ≡ false
not-second a b e h = rw h at e

pub neither-first : (a b : Bool) → (a || b) ≡ false → a ≡ false
neither-first false b e = refl
neither-first true b e = e

pub neither-second : (a b : Bool) → (a || b) ≡ false → b ≡ false
neither-second a b e = rw (neither-first a b e) at e
