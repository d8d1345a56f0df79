-- `streams::Sent::send` meets its contract. Assumes nothing.
use Rattle.std.proofs.Common.{◌-◌, length, arith}
use Rattle.streams.proofs.Sent.send.Goals as goal

-- what was taken are the bytes that are there without those that are left
pub returns-then-lost : goal.returns-then-lost
returns-then-lost g c = record {
  done = c.min-there.result - length c.write_out.new.rest.now;
  at_most = omega arith;
  comes-to = rw (c.if-self.false, c.saturating_add-bytes.ensures);
}
