-- `jobs::options` meets its contract: each field says what its body says, where it is there. Assumes nothing.
use mathlib.Core.Path.{◌≡◌}
use mathlib.Core.List.{List}
use Prim.Native.Nat.{ℕ}
use Rattle.std.proofs.Common.{rules, Bor}
use Rattle.std.specs.Prelude.{Option, Some, None, MatchOption}
use Rattle.std.specs.Option.{option_copied}
use Rattle.wire.specs.Wire.{float_of, pair_of}
use Rattle.jobs.specs.Format.{said, way_in, options_of}
use Rattle.jobs.proofs.options.Goals as goal

-- by what the body, where it is there, is known to give
says_so : {A : Type 0} (says : List ℕ → A) (o : Option (Bor (List ℕ))) (other r : A) {Q : Bor (List ℕ) → Type 0}
    → MatchOption o (r ≡ other) Q → ((x : Bor (List ℕ)) → Q x → r ≡ says x.now) → r ≡ said says (option_copied o) other
says_so says None other r m is = m
says_so says (Some x) other r m is = is x m

pub returns : goal.returns
unfolding options_of
returns c =
    rw (
      says_so float_of c.args.epsilon _ _ c.map_or.ensures (λ x p. search rules),
      says_so float_of c.args.start _ _ c.map_or-2.ensures (λ x p. search rules),
      says_so way_in c.args.bounds _ _ c.map_or-3.ensures (λ x p. search rules),
      says_so pair_of c.args.budget _ _ c.map_or-4.ensures (λ x p. search rules),
      says_so pair_of c.args.limit _ _ c.map_or-5.ensures (λ x p. search rules),
      c.defaults-d.ensures,
    )
