-- Any two results that `checked`'s contract allows are identical (01, "How tight the contracts are"). The other
-- contracts give the result itself. Assumes nothing.
use mathlib.Core.Path.{◌≡◌, sym, ◌∙◌}
use Rattle.std.specs.Prelude as Rust
use Rattle.refusals.specs.declared.Refusal.{Refusal}
use Rattle.refusals.proofs.Determined.{same_told}
use Rattle.conditions.specs.declared.Condition.{Condition}
use Rattle.conditions.specs.Told.{CheckedSaid}

pub checked-determined : (C : Condition) (r q : Rust.Result Condition Refusal)
    → CheckedSaid C r → CheckedSaid C q → r ≡ q
checked-determined C r q said said' = same_told r q (said ∙ sym said')
