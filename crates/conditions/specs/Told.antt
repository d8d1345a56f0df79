-- What `checked`'s contract says (`CheckedSaid`).
use Rattle.std.specs.Prelude.{◌≡◌}
use Rattle.std.specs.Prelude as Rust
use Rattle.refusals.specs.declared.Refusal.{Refusal}
use Rattle.refusals.specs.Refusals.{by_number}
use Rattle.conditions.specs.declared.Condition.{Condition}
use Rattle.conditions.specs.Conditions.{checked_of}

-- what `checked`'s contract says of a result r, for the condition C
abbrev pub CheckedSaid : Condition → Rust.Result Condition Refusal → Type 0
CheckedSaid C r = by_number r ≡ checked_of C
