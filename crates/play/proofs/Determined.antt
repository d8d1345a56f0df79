-- Any two results that `play`'s contract allows are identical, and so are the buffers and the places in them (01, "How
-- tight the contracts are"). Assumes nothing.
use mathlib.Core.Path.{◌≡◌, sym, ◌∙◌}
use Prim.Native.Nat.{ℕ}
use Rattle.std.specs.Prelude.{Option}
use Rattle.curves.specs.declared.Curve.{Curve}
use Rattle.hagerzhang.specs.Machine.{Turn}
use Rattle.text.specs.declared.Cursor.{Cursor}
use Rattle.text.proofs.Writing.{writes-determined}
use Rattle.play.specs.Playing.{PlaySaid}

pub play-determined : (c : Curve) (from : Option Turn) (turns : ℕ) (before : Cursor) (r q : Option Turn) (a b : Cursor)
    → PlaySaid c from turns before r a → PlaySaid c from turns before q b
    → (r ≡ q) × (a.buffer.now ≡ b.buffer.now) × (a.at ≡ b.at)
play-determined c from turns before r q a b h k =
    let same = writes-determined before _ a b h.lines k.lines in
    (h.left ∙ sym k.left, same.0, same.1)
