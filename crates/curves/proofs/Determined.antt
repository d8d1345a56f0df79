-- Any two results that `numbered`'s contract allows are identical (01, "How tight the contracts are"). The other
-- contracts give the result itself. Assumes nothing.
use mathlib.Core.Path.{◌≡◌, sym, ◌∙◌}
use Prim.Native.Nat.{ℕ}
use Rattle.std.specs.Prelude as Rust
use Rattle.refusals.specs.declared.Refusal.{Refusal}
use Rattle.refusals.proofs.Determined.{same_told}
use Rattle.curves.specs.declared.Curve.{Curve}
use Rattle.curves.specs.Told.{NumberedSaid}

pub numbered-determined : (n : ℕ) (r q : Rust.Result Curve Refusal) → NumberedSaid n r → NumberedSaid n q → r ≡ q
numbered-determined n r q said said' = same_told r q (said ∙ sym said')
