-- What the head of a field says, by the places of the bytes; and what is known of a field that is whole. Assumes
-- nothing.
use mathlib.Core.Path.{◌≡◌, refl, ap, ◌∙◌}
use mathlib.Core.Bool.{Bool, true, false, cond}
use mathlib.Core.List.{List, [], ◌∷◌, ◌++◌}
use Prim.Native.Nat.{ℕ, ◌+◌, ◌*◌, ◌≤◌, ◌<◌}
use native.Mathlib.Omega.{arith}
use borrow.Author.Tests.{le-leb, leb-true}
use lib.Dec.{leb}
use lib.ListN.{length, take, drop, length-append, length-drop}
use lib.Seq.{length-take-le, take-append-le, drop-append-le}
use Rattle.wire.specs.Wire.{byte_at, pair_of}
use Rattle.std.specs.Prelude.{Some, None}
use Rattle.std.specs.Bool.{then_some}
use Rattle.fields.specs.declared.Heading.{Heading}
use Rattle.fields.specs.Fields.{head_with, head_of, body_of, end_of}

-- ---- by the places of the bytes

pub short_cut : (s : List ℕ) → length s < 3 → None ≡ head_of s
unfolding head_of
short_cut [] h = refl
short_cut (tag ∷ []) h = refl
short_cut (tag ∷ high ∷ []) h = refl
short_cut (tag ∷ high ∷ low ∷ rest) h = absurd (omega arith)

some_if : (b : Bool) (x : Heading) → then_some b x ≡ cond b (Some x) None
some_if true x = refl
some_if false x = refl

-- where three bytes are in front of the rest
pub tagged : (n : ℕ) (s front rest : List ℕ) → front ≡ take 3 s → rest ≡ drop 3 s
    → length rest + 3 ≡ length s → n ≡ pair_of (take 2 (drop 1 front))
    → then_some (leb n (length rest)) (record { tag = byte_at front 0; size = n }) ≡ head_of s
unfolding head_of
tagged n [] front rest f r long e = absurd (omega arith)
tagged n (tag ∷ []) front rest f r long e = absurd (omega arith)
tagged n (tag ∷ high ∷ []) front rest f r long e = absurd (omega arith)
tagged n (tag ∷ high ∷ low ∷ left) front rest f r long e = rw (e, f, r) (some_if _ _)

-- ---- the bytes of a field that is whole

pub record Opens (s : List ℕ) (tag n : ℕ) : Type 0 where
  pub high : ℕ
  pub low : ℕ
  pub rest : List ℕ
  pub bytes : s ≡ tag ∷ high ∷ low ∷ rest
  pub size : high * 256 + low ≡ n
  pub long : n ≤ length rest

not-cut : {A : Type 0} (tag n : ℕ) → None ≡ head_with tag n → A
not-cut tag n h = let z : ◌≡◌ {A = ℕ} 0 1 = cc in absurd (omega arith)

the_heading : (x y : Heading) → Some x ≡ Some y → x ≡ y
the_heading x y h = cc

module _ (tag n : ℕ) where
  is_whole : (b : Bool) (k m : ℕ) → cond b (head_with k m) None ≡ head_with tag n → (b ≡ true) × (k ≡ tag) × (m ≡ n)
  is_whole true k m h =
      let e = the_heading (record { tag = k; size = m }) (record { tag = tag; size = n }) h in
      (refl, ap (λ (x : Heading). x.tag) e, ap (λ (x : Heading). x.size) e)
  is_whole false k m h = not-cut tag n h

  opens : (s : List ℕ) → head_of s ≡ head_with tag n → Opens s tag n
  unfolding head_of
  opens [] h = not-cut tag n h
  opens (k ∷ []) h = not-cut tag n h
  opens (k ∷ high ∷ []) h = not-cut tag n h
  opens (k ∷ high ∷ low ∷ rest) h =
      let m = high * 256 + low in
      let w = is_whole (leb m (length rest)) k m h in
      let l = leb-true m (length rest) w.0 in
      record { high = high; low = low; rest = rest; bytes = rw w.1; size = w.2; long = omega arith }

-- ---- a field that is whole: it lies within the bytes, and more bytes behind do not change it

module _ (s : List ℕ) (tag n : ℕ) (whole : head_of s ≡ head_with tag n) where
  pub opened : Opens s tag n
  opened = opens tag n s whole

  pub within : 3 + n ≤ length s
  within = let o = opened in rw o.bytes (omega arith)

  pub body-there : body_of s ≡ take n (drop 3 s)
  body-there = rw whole

  pub body-length : length (body_of s) ≡ n
  body-length =
      let l = within in
      ap length body-there ∙ length-take-le n (drop 3 s) (simp length-drop (omega arith))

  pub end-there : end_of s ≡ 3 + n
  end-there = rw whole

  pub head-front : (t : List ℕ) → head_of (s ++ t) ≡ head_with tag n
  unfolding head_of
  head-front t =
      let o = opened in
      let long : o.high * 256 + o.low ≤ length (o.rest ++ t) = simp length-append (omega arith) in
      rw (o.bytes, le-leb (o.high * 256 + o.low) (length (o.rest ++ t)) long, o.size)

  pub body-front : (t : List ℕ) → body_of (s ++ t) ≡ body_of s
  body-front t =
      let l = within in
      let three : 3 ≤ length s = omega arith in
      let long : n ≤ length (drop 3 s) = simp length-drop (omega arith) in
      rw (head-front t, whole, drop-append-le 3 s t three, take-append-le n (drop 3 s) t long)
