-- `play::play` meets its contract: what is left of the play, and the page with all that it will write, stay the same
-- from turn to turn. Assumes nothing.
use Rattle.std.proofs.Common.{◌≡◌, ◌+◌, ◌-◌, ◌∙◌, arith}
use Rattle.text.specs.Text.{page}
use Rattle.play.proofs.Turns.{at-over, at_last, turn-left, turn-ahead}
use Rattle.play.proofs.play.Goals as goal

pub loop-preserved : goal.loop-preserved
loop-preserved c =
    let l = c.loop in
    let n = c.answered-played in
    let e = c.in-Some.is in
    let w = c.line.ensures in
    let left : c.args.turns - (l.counter + 1) ≡ c.args.turns - l.counter - 1 = omega arith in
    rw left (record {
      left = turn-left c.args.c _ l.played n.result _ (omega arith) e n.ensures ∙ l.invariant.left;
      same_buffer = w.same_buffer ∙ l.invariant.same_buffer;
      lines = turn-ahead c.args.c _ l.played n.result _ _ _ (omega arith) e n.ensures w.written ∙ l.invariant.lines;
    })

pub returns-in_default : goal.returns-in_default
returns-in_default c =
    let l = c.loop in
    let z = at-over c.args.c (c.args.turns - l.counter) l.played (page l.page.buffer.now l.page.at) c.in_default.is in
    record {
      left = z.0 ∙ l.invariant.left;
      lines = record { same_buffer = l.invariant.same_buffer; written = z.1 ∙ l.invariant.lines };
    }

pub returns-after-loop : goal.returns-after-loop
returns-after-loop c =
    let l = c.loop in
    let z = at_last c.args.c (c.args.turns - l.counter) l.played (page l.page.buffer.now l.page.at) (omega arith) in
    record {
      left = z.0 ∙ l.invariant.left;
      lines = record { same_buffer = l.invariant.same_buffer; written = z.1 ∙ l.invariant.lines };
    }
