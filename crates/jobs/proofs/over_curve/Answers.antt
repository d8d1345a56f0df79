-- `jobs::over_curve` meets its contract. Assumes nothing.
use mathlib.Core.Path.{◌≡◌, sym, ap, ◌∙◌}
use lib.Ieee.{Float}
use Rattle.std.proofs.Common.{rules}
use Rattle.std.specs.Prelude.{Err}
use Rattle.floats.specs.Arithmetic.{0ᶠ}
use Rattle.hagerzhang_rules.specs.declared.Options.{Options}
use Rattle.hagerzhang_rules.specs.Parameters.{setup_of, start_rows}
use Rattle.curves.specs.declared.Curve.{Curve}
use Rattle.curves.specs.Curves.{value_of, slope_of}
use Rattle.refusals.specs.Refusals.{by_number}
use Rattle.hagerzhang.specs.Machine.{Started, fresh_of, StartSaid}
use Rattle.jobs.specs.Opening.{over_curve}
use Rattle.jobs.proofs.Refusals.{on, on-rows}
use Rattle.jobs.proofs.over_curve.Goals as goal

-- what the start said, with the curve beside it
beside : (c : Curve) (o : Options) (f0 s0 : Float) (r q : Started) → f0 ≡ value_of c 0ᶠ → s0 ≡ slope_of c 0ᶠ
    → StartSaid o f0 s0 r → r ≡ q → on c (by_number q) ≡ over_curve c o
beside c o f0 s0 r q e e' said same =
    let a = value_of c 0ᶠ in
    let b = slope_of c 0ᶠ in
    ap (λ (k : Started). on c (by_number k)) (sym same) ∙ ap (on c) said
    ∙ rw (e, e') (on-rows c (start_rows o a b) (fresh_of (setup_of o a b)))

pub returns-in_err-t : goal.returns-in_err-t
unfolding on
returns-in_err-t c =
    let a = c.args in
    let same : c.from_residual.result ≡ Err c.in_err-t.field-0.0 = search rules in
    rw same (beside a.c a.o _ _ _ _ c.value.ensures c.slope.ensures c.start.ensures.exact c.in_err-t.was)

pub returns : goal.returns
unfolding on
returns c =
    let a = c.args in
    beside a.c a.o _ _ _ _ c.value.ensures c.slope.ensures c.start.ensures.exact c.in_ok-t.was
