-- `text::Cursor::decimal_up_to` meets its contract: the digits of the tenth part, then the last. Assumes nothing.
use Rattle.text.proofs.Digits.{more-digits}
use Rattle.text.proofs.Writing.{then}
use Rattle.text.proofs.Cursor.+decimal_up_to.Goals as goal

pub returns : goal.returns
returns t c =
    let a = c.args in
    rw (← more-digits a.k a.n c.if-k-eq0.false c.if-n-lt10.false, ← c.digit-2.ensures)
    (then _ _ c.decimal_up_to.ensures c.byte-2.ensures)
