-- What is written is read, and what is read was written. Bytes that begin with a written field have its tag, its body,
-- and behind it the rest (`head-written`, `body-written`, `rest-written`); bytes that begin with a whole field are that
-- field, written, and the rest (`written_back`). Assumes nothing.
use mathlib.Core.Path.{◌≡◌, ap, ◌∙◌}
use mathlib.Core.List.{List, ◌++◌}
use Prim.Native.Nat.{ℕ, ◌/◌, ◌%◌, ◌≤◌, ◌<◌}
use native.Mathlib.Nat.{div-add-mod'}
use native.Mathlib.Omega.{arith}
use borrow.Author.Tests.{le-leb}
use lib.ListN.{length, drop, length-append, take-append-drop}
use lib.Seq.{take-append_seam, drop-append_seam, drop-drop}
use Rattle.wire.specs.Wire.{byte_at, pair_of}
use Rattle.fields.specs.Fields.{Field, written, head_with, head_of, body_of, end_of}
use Rattle.fields.proofs.Heads.{opened, body-there, body-length, end-there}

module _ (f : Field) (s : List ℕ) where
  pub head-written : head_of (written f ++ s) ≡ head_with f.tag (length f.body)
  unfolding head_of
  head-written =
      let n = length f.body in
      let size : pair_of (drop 1 (written f)) ≡ n = div-add-mod' n 256 in
      let long : n ≤ length (f.body ++ s) = simp length-append (omega arith) in
      rw (size, le-leb n (length (f.body ++ s)) long)

  pub body-written : body_of (written f ++ s) ≡ f.body
  body-written = body-there (written f ++ s) f.tag (length f.body) head-written ∙ take-append_seam f.body s

  pub rest-written : drop (end_of (written f ++ s)) (written f ++ s) ≡ s
  rest-written =
      let all = written f ++ s in
      let n = length f.body in
      rw (end-there all f.tag n head-written, ← drop-drop n 3 all, drop-append_seam f.body s)

module _ (s : List ℕ) (tag n : ℕ) (whole : head_of s ≡ head_with tag n) where
  -- the length of a short body stands in its low byte
  pub low_byte : n < 256 → byte_at s 2 < 256
  low_byte small =
      let o = opened s tag n whole in
      let low : o.low < 256 = omega arith in
      rw (ap (λ (l : List ℕ). byte_at l 2) o.bytes) low

  pub written_back : byte_at s 2 < 256 → s ≡ written (record { tag = tag; body = body_of s }) ++ drop (end_of s) s
  written_back byte =
      let o = opened s tag n whole in
      let low : o.low < 256 = rw o.bytes at byte in
      let high_is : n / 256 ≡ o.high = omega arith in
      let low-is : n % 256 ≡ o.low = omega arith in
      let rest-is : drop 3 s ≡ o.rest = ap (drop 3) o.bytes in
      rw (
        body-length s tag n whole,
        body-there s tag n whole,
        end-there s tag n whole,
        high_is,
        low-is,
        ← drop-drop n 3 s,
        take-append-drop n (drop 3 s),
        rest-is,
      ) o.bytes
