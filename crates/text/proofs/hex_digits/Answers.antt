-- `text::hex_digits` meets its contract: sixteen digits, each in its place. Assumes nothing.
use Rattle.std.proofs.Common.{ℕ, ◌-◌, ◌*◌, ◌/◌, ◌%◌, ◌^◌, rules}
use Rattle.std.proofs.lemmas.List.FromFn.{fill_by_all}
use Rattle.text.specs.Text.{digit}
use Rattle.text.proofs.hex_digits.Goals as goal

pub returns : goal.returns
returns c =
    let nth = λ (k : ℕ). digit (c.args.w / 2 ^ (60 - 4 * k) % 16) in
    fill_by_all nth c.loop-i.d-items 16 0 c.loop-i.invariant.0 (search rules)
