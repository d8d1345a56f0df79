-- `answers::number` meets its contract: the whole part is the number that is named, if any is. Assumes nothing.
use Rattle.std.proofs.Common.{◌∙◌, sym, ap, arith, true, false, true≢false}
use Rattle.floats.specs.Arithmetic.{◌=ᶠ◌}
use Rattle.answers.proofs.Numbers.{named-by}
use Rattle.answers.proofs.number.Goals as goal
use Rattle.answers.proofs.number.Goals.{else-n-lt32-via-then-n-lt32+else-x-from, else-n-lt32-via-else-n-lt32}

pub returns-then-x-from : goal.returns-then-x-from
returns-then-x-from c =
    named-by c.args.x _ true c.well_formed.0.1 c.saturating_f64_to_u32-n.ensures
    (λ t. (c.if-n-lt32.true, ap (λ y. c.args.x =ᶠ y) (sym c.from.ensures) ∙ c.if-x-from.true))
    (λ f. absurd (true≢false f))

pub returns-else-n-lt32 : goal.returns-else-n-lt32
returns-else-n-lt32 c =
    named-by c.args.x _ false c.well_formed.0.1 c.saturating_f64_to_u32-n.ensures
    (λ t. absurd (true≢false (sym t)))
    (λ f l. elim c.else-n-lt32.branch [
      | else-n-lt32-via-then-n-lt32+else-x-from w ↦
          ap (λ y. c.args.x =ᶠ y) (sym w.from.ensures) ∙ w.if-x-from.false
      | else-n-lt32-via-else-n-lt32 w ↦ absurd (let high = w.if-n-lt32.false in omega arith)
    ])
