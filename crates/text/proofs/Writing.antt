-- What is known of a buffer once text is written to it: what is there is determined, text after text is the text of
-- both, and where there is room it stands at its place. Assumes nothing.
use mathlib.Core.Path.{◌≡◌, refl, ap, sym, ◌∙◌}
use mathlib.Core.List.{List, [], ◌∷◌, ◌++◌, append_assoc, foldl-append}
use Prim.Native.Nat.{ℕ, suc, ◌+◌, ◌<◌, ◌≤◌}
use native.Mathlib.Nat.{add-zero, add-suc, suc-add, le_trans, le-add_right}
use native.Mathlib.Numerals.{add-one}
use mathlib.Core.Bool.{Bool, true, false, cond}
use borrow.Author.Tests.{lt-ltb, ltb-true}
use native.Mathlib.Omega.{arith}
use lib.Dec.{ltb}
use lib.ListN.{length, get_or, take, drop, set, length-set}
use lib.Seq.{take-suc, sets, sets-eq, drop-drop}
use borrow.Rule.Slice.PartMut.{put_mid}
use Rattle.text.specs.declared.Cursor.{Cursor}
use Rattle.text.specs.Text.{Page, page, put, write, Writes}

-- ---- a page gives both the buffer and the place

pub told : (a b : List ℕ) (i j : ℕ) → page a i ≡ page b j → (a ≡ b) × (i ≡ j)
told a b i j e = (ap (λ p. p.held) e, ap (λ p. p.at) e)

-- 01: "any two results it allows are proved identical", of every contract that writes text
pub writes-determined : (p : Cursor) (text : List ℕ) (q r : Cursor) → Writes p text q → Writes p text r
    → (q.buffer.now ≡ r.buffer.now) × (q.at ≡ r.at)
writes-determined p text q r w w' = told q.buffer.now r.buffer.now q.at r.at (w.written ∙ sym w'.written)

-- ---- text after text

pub nothing-page : (p : Page) → p ≡ write p []
unfolding write
nothing-page p = refl

pub nothing : (p : Cursor) → Writes p [] p
nothing p = record { same_buffer = refl; written = nothing-page _ }

-- of three pages each is the former with a text written to it
pub then-page : (p : Page) {q r : Page} (s t : List ℕ) → q ≡ write p s → r ≡ write q t → r ≡ write p (s ++ t)
unfolding write
then-page p s t first next = next ∙ ap (λ q. write q t) first ∙ sym (foldl-append put p s t)

pub then : {p q r : Cursor} (s t : List ℕ) → Writes p s q → Writes q t r → Writes p (s ++ t) r
then s t first next = record {
  same_buffer = next.same_buffer ∙ first.same_buffer;
  written = then-page _ s t first.written next.written;
}

pub ruleset writing = (nothing, then)

-- the first i bytes of a word, and one more
pub then-byte : {p q r : Cursor} (w : List ℕ) (i : ℕ) → i < length w → Writes p (take i w) q
    → Writes q (get_or w i 0 ∷ []) r → Writes p (take (i + 1) w) r
then-byte w i h first next =
    rw (add-one, take-suc w i 0 h) (then (take i w) (get_or w i 0 ∷ []) first next)

-- ---- where there is room, the text stands at its place and all else is as it was

put-at : (held : List ℕ) (at b : ℕ) → at < length held → put (page held at) b ≡ page (set held at b) (suc at)
put-at held at b h = rw (lt-ltb at (length held) h, add-one)

-- one store for each byte
stores : (text held : List ℕ) (at : ℕ) → at + length text ≤ length held
    → write (page held at) text ≡ page (sets held at text) (at + length text)
unfolding write
stores [] held at h = rw add-zero
stores (b ∷ text) held at h =
    let e : at + suc (length text) ≡ suc at + length text = add-suc at (length text) ∙ sym (suc-add at (length text)) in
    let fits : suc at + length text ≤ length held = rw e at h in
    let more : suc at + length text ≤ length (set held at b) = rw length-set fits in
    let room : at < length held = le_trans (le-add_right (suc at) (length text)) fits in
    rw (put-at held at b room, e) (stores text (set held at b) (suc at) more)

pub with-room : (held text : List ℕ) (at : ℕ) → at + length text ≤ length held
    → write (page held at) text ≡ page (take at held ++ text ++ drop (at + length text) held) (at + length text)
with-room held text at h = stores text held at h ∙ ap (λ l. page l (at + length text)) (sets-eq text held at h)

-- so a copy of the whole text to its place writes it
pub copied : (held : List ℕ) (at : ℕ) {text now : List ℕ} {k : ℕ} → now ≡ text → k ≡ length text
    → at + length text ≤ length held → page (put_mid at k held now) (at + length text) ≡ write (page held at) text
copied held at {text} {now} {k} e size room =
    let end = at + length text in
    let behind = drop-drop (length text) at held in
    let whole = ap (λ l. take at held ++ (text ++ l)) behind ∙ sym (append_assoc (take at held) text _) in
    ap (λ l. page (put_mid at k held l) end) e ∙ ap (λ j. page (put_mid at j held text) end) size
    ∙ ap (λ l. page l end) whole ∙ sym (with-room held text at room)

-- ---- the place stays within the buffer

step-within : (held : List ℕ) (at b : ℕ) (room : Bool) → ltb at (length held) ≡ room → at ≤ length held
    → let p = cond room (page (set held at b) (at + 1)) (page held at) in p.at ≤ length p.held
step-within held at b true e h = let k = ltb-true at (length held) e in simp length-set (omega arith)
step-within held at b false e h = h

pub within : (p : Page) (t : List ℕ) → p.at ≤ length p.held → (write p t).at ≤ length (write p t).held
unfolding write
within p [] h = h
within p (b ∷ t) h = within (put p b) t (step-within p.held p.at b (ltb p.at (length p.held)) refl h)
