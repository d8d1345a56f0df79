-- Nothing is cut off: 512 turns write at most 99 bytes each, and a buffer of 65,536 bytes has room for all of them, so
-- that its front is then their text (`whole-lines`). Assumes nothing.
use mathlib.Core.Path.{◌≡◌, sym, ap, ◌∙◌, subst}
use mathlib.Core.List.{List, [], ◌∷◌, ◌++◌, append-nil}
use Prim.Native.Nat.{ℕ, zero, suc, ◌+◌, ◌*◌, ◌/◌, ◌≤◌}
use native.Mathlib.Omega.{arith}
use lib.Dec.{ltb}
use lib.ListN.{length, take, set, length-set, length-append}
use lib.Seq.{take-suc-set, append_snoc}
use native.Mathlib.Numerals.{add-one}
use borrow.Author.Tests.{lt-ltb}
use Rattle.std.specs.Prelude.{Option, Some, None}
use Rattle.floats.proofs.Branches.{by_cases}
use Rattle.runs.specs.Outcomes.{Word, met, wolfe, approximate, stop, limit, refusal, Told, asks, ends}
use Rattle.curves.specs.declared.Curve.{Curve}
use Rattle.hagerzhang.specs.Machine.{Turn}
use Rattle.text.specs.declared.Cursor.{Cursor}
use Rattle.text.specs.Text.{Page, page, put, write, Writes, decimal_up_to}
use Rattle.lines.specs.Lines.{verdict_text, outcome_line}
use Rattle.play.specs.Telling.{Said, text_of}
use Rattle.play.specs.Playing.{answered_of, said_in}

-- ---- lines are short
short-decimal : (k n : ℕ) → length (decimal_up_to k n) ≤ k
unfolding decimal_up_to
short-decimal zero n = omega arith
short-decimal (suc k) n =
    let h = short-decimal k (n / 10) in
    by_cases (λ (l : List ℕ). length l ≤ suc k) (ltb n 10) (λ e. omega arith) (λ e. simp length-append (omega arith))

short-verdict : (w : Word) → length (verdict_text w) ≤ 11
short-verdict met = omega arith
short-verdict wolfe = omega arith
short-verdict approximate = omega arith

short-line : (t : Told) (e i : ℕ) → length (outcome_line t e i) ≤ 99
short-line (asks x) e i = omega arith
short-line (ends (stop w x)) e i =
    simp length-append (omega (arith, short-verdict w, short-decimal 20 e, short-decimal 20 i))
short-line (ends (limit x)) e i = simp length-append (omega (arith, short-decimal 20 e, short-decimal 20 i))
short-line (ends (refusal n)) e i = simp length-append (omega (arith, short-decimal 20 n))

short-text : (l : List Said) → length (text_of l) ≤ 99 * length l
unfolding text_of
short-text [] = omega arith
short-text (s ∷ l) =
    let h = short-line s.told s.evaluations s.iterations in
    let m = short-text l in
    simp length-append (omega arith)

few-said : (n : ℕ) (c : Curve) (p : Option Turn) → length (said_in n c p) ≤ n
unfolding said_in
few-said zero c p = omega arith
few-said (suc n) c None = omega arith
few-said (suc n) c (Some t) = let h = few-said n c (answered_of c t) in omega arith

-- ---- a text for which there is room is written whole
written : (held : List ℕ) (at : ℕ) (t : List ℕ) → at + length t ≤ length held
    → ((write (page held at) t).at ≡ at + length t)
    × (take (at + length t) (write (page held at) t).held ≡ take at held ++ t)
unfolding write
written held at [] room =
    let z : at + 0 ≡ at = omega arith in
    (sym z, rw (z, append-nil (take at held)))
written held at (b ∷ t) room =
    let more = written (set held at b) (at + 1) t (simp length-set (omega arith)) in
    let n : at + suc (length t) ≡ at + 1 + length t = omega arith in
    let first : take (at + 1) (set held at b) ≡ take at held ++ (b ∷ []) =
    rw add-one (take-suc-set held at b (omega arith)) in
    let same : put (page held at) b ≡ page (set held at b) (at + 1) = rw (lt-ltb at (length held) (omega arith)) in
    subst
    (λ (q : Page). ((write q t).at ≡ at + suc (length t))
    × (take (at + suc (length t)) (write q t).held ≡ take at held ++ b ∷ t))
    (sym same)
    (rw n (more.0, more.1 ∙ ap (λ (l : List ℕ). l ++ t) first ∙ append_snoc (take at held) b t))

-- what is written from the front of the program's buffer is the text of these turns, with nothing cut off
pub whole-lines : (c : Curve) (p : Option Turn) (n : ℕ) (before after : Cursor) → n ≤ 512 → before.at ≡ 0
    → 65536 ≤ length before.buffer.now → Writes before (text_of (said_in n c p)) after
    → take after.at after.buffer.now ≡ text_of (said_in n c p)
whole-lines c p n before after few front room wrote =
    let text = text_of (said_in n c p) in
    let held = before.buffer.now in
    let fits : 0 + length text ≤ length held = omega (arith, short-text (said_in n c p), few-said n c p) in
    let w = written held 0 text fits in
    let e : page after.buffer.now after.at ≡ write (page held 0) text = rw front at wrote.written in
    let place : after.at ≡ 0 + length text = ap (λ (q : Page). q.at) e ∙ w.0 in
    let there : after.buffer.now ≡ (write (page held 0) text).held = ap (λ (q : Page). q.held) e in
    rw (place, there) w.1
