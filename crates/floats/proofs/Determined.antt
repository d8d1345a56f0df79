-- 01, "How tight the contracts are": any two results that a contract allows are identical. A contract that gives the
-- result itself does that. One that gives what is told of the result does it where the result can be read back from
-- what is told (`determined`). Assumes nothing.
use mathlib.Core.Path.{◌≡◌, sym, ap, ◌∙◌}

pub determined : {A T : Type 0} (told : A → T) (read : T → A) → ((a : A) → read (told a) ≡ a)
    → (r q : A) → told r ≡ told q → r ≡ q
determined told read back r q e = sym (back r) ∙ ap read e ∙ back q
