-- What `numbered`'s contract says (`NumberedSaid`).
use Rattle.std.specs.Prelude.{◌≡◌, ℕ}
use Rattle.std.specs.Prelude as Rust
use Rattle.refusals.specs.Refusals.{by_number}
use Rattle.refusals.specs.declared.Refusal.{Refusal}
use Rattle.curves.specs.declared.Curve.{Curve}
use Rattle.curves.specs.Curves.{numbered_of}

-- what `numbered`'s contract says of a result r, for the number n
abbrev pub NumberedSaid : ℕ → Rust.Result Curve Refusal → Type 0
NumberedSaid n r = by_number r ≡ numbered_of n
