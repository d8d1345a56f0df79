-- A start by a table of refusals: what a result of it stands for, and what it says, are the rules', where those of the
-- value are. Once for every search. Assumes nothing.
use mathlib.Core.Path.{◌≡◌, refl, ap}
use mathlib.Core.List.{List}
use Rattle.refusals.specs.Results.{Result, value, refused, Row, refuse◌else◌}
use Rattle.refusals.proofs.Refusals.{alike}
use Rattle.runs.specs.Outcomes.{refusal, Told, ends}
use Rattle.runs.specs.Asking.{Rest, shown, first_of}

module _ {T K : Type 0} (meant : T → Rest K) (tells : T → Told) where
  unfoldable pub stands : Result T → Result (Rest K)
  stands (value t) = value (meant t)
  stands (refused n) = refused n

  unfoldable pub says : Result T → Told
  says (value t) = tells t
  says (refused n) = ends (refusal n)

  module _ (rows : List Row) (t : T) (r : Rest K) where
    pub stands-so : meant t ≡ r → stands (refuse rows else t) ≡ (refuse rows else r)
    unfolding stands
    stands-so e = alike stands (λ v. v) (λ n. refl) t r (ap value e) rows

    pub says_so : tells t ≡ shown r → says (refuse rows else t) ≡ first_of (refuse rows else r)
    unfolding says
    says_so e = alike says first_of (λ n. refl) t r e rows
