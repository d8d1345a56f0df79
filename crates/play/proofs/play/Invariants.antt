-- What holds at each turn of `play::play`'s loop: what is left of the play, and the page with all that it will write,
-- are as at the start. Assumes nothing.
use Rattle.std.proofs.Common.{◌≡◌, ◌-◌}
use Rattle.text.specs.Text.{page}
use Rattle.play.specs.Playing.{left_after}
use Rattle.play.proofs.Turns.{ahead}
use Rattle.play.proofs.play.Given as goal

abbrev pub invariant-loop : goal.invariant-loop
invariant-loop l = record {
  left : left_after (l.turns - l.counter) l.c l.played ≡ left_after l.turns l.c l.initial.played;
  same_buffer : l.page.buffer.ghost_name ≡ l.initial.page.buffer.ghost_name;
  lines : ahead l.c (l.turns - l.counter) l.played (page l.page.buffer.now l.page.at)
      ≡ ahead l.c l.turns l.initial.played (page l.initial.page.buffer.now l.initial.page.at);
}
