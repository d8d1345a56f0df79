-- A run of floats is written one by one. Assumes nothing.
use mathlib.Core.Path.{◌≡◌, refl, sym, ap, ◌∙◌}
use mathlib.Core.List.{List, [], ◌∷◌, ◌++◌, append_assoc}
use Prim.Native.Nat.{ℕ, ◌+◌, ◌<◌}
use native.Mathlib.Numerals.{add-one}
use lib.Ieee.{Float, nan}
use lib.ListN.{length, get_or, take}
use lib.Seq.{take-suc}
use Rattle.text.specs.declared.Cursor.{Cursor}
use Rattle.text.specs.Text.{Writes}
use Rattle.text.proofs.Writing.{then}
use Rattle.text.specs.Figures.{next_text, floats_text}

both : (xs ys : List Float) → floats_text (xs ++ ys) ≡ floats_text xs ++ floats_text ys
both [] ys = refl
both (x ∷ xs) ys =
    ap (λ t. next_text x ++ t) (both xs ys) ∙ sym (append_assoc (next_text x) (floats_text xs) (floats_text ys))

-- the first i floats, and one more
pub then-float : {p q r : Cursor} (xs : List Float) (i : ℕ) → i < length xs → Writes p (floats_text (take i xs)) q
    → Writes q (next_text (get_or xs i nan)) r → Writes p (floats_text (take (i + 1) xs)) r
then-float xs i h first next =
    rw (add-one, take-suc xs i nan h, both (take i xs) (get_or xs i nan ∷ [])) (then _ _ first next)
