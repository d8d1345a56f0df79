-- A search in a table, of any kind: it sits in the next seat, and goes on by its own answers. Assumes nothing.
use mathlib.Core.Path.{◌≡◌, refl, sym, ap, ap₂, ◌∙◌, subst}
use mathlib.Core.List.{List, [], ◌∷◌, ◌++◌}
use mathlib.Core.Option.{some, none-ne-some}
use Rattle.std.specs.Prelude.{None}
use Prim.Native.Nat.{ℕ, zero, suc, ◌+◌, ◌<◌, ◌≤◌}
use native.Mathlib.Nat.{not-suc-le-zero, le_of_suc-le-suc}
use native.Mathlib.Omega.{arith}
use lib.Dec.{ltb}
use lib.ListN.{length, length-set, get_elem?, take, set}
use lib.Ieee.{Float}
use borrow.Author.Tests.{ltb-true, ltb-false, lt-ltb, le-ltb}
use Rattle.floats.proofs.Branches.{by_cases}
use Rattle.refusals.specs.Results.{value}
use Rattle.refusals.proofs.Refusals.{Passed, passed}
use Rattle.runs.specs.declared.Outcome.{Outcome}
use Rattle.runs.specs.Outcomes.{Told, told}
use Rattle.runs.specs.Asking.{Reply, Machine, reached, played}
use Rattle.answers.specs.Many.{under, given_all}
use Rattle.answers.specs.Answers.{answers_in, size_of, list_rows}
use Rattle.answers.proofs.Many.{given-part, reached-alone, told-alone}
use Rattle.seats.specs.declared.Held.{Held}
use Rattle.seats.specs.Seats.{Seat, seat_of, answered_by, answered_of}
use Rattle.seats.specs.Seats as seats
use Rattle.tables.specs.declared.Table.{Table}
use Rattle.tables.specs.declared.Seated.{Seated}
use Rattle.tables.specs.Tables.{searches_in, seated_of, given_to, scan_of}
use Rattle.demands.specs.ManyAnswers.{own_answers, outcomes_in, Kind, last_told, Sits}
use Rattle.demands.specs.ManyAnswers.{Since, at_once, a-list, a-search}

-- ---- a list that is taken: no row held, and the table has its answers

pub taken : (t u : Table) (xs : List Float) → scan_of t xs ≡ value u
    → Passed (list_rows t.size xs) × (given_to t (answers_in xs) ≡ u)
taken t u xs e = passed (list_rows t.size xs) (given_to t (answers_in xs)) u e

pub taken-whole : (t u : Table) (xs : List Float) → scan_of t xs ≡ value u
    → searches_in u ≡ given_all seats.machine (searches_in t) (answers_in xs)
taken-whole t u xs e =
    ap searches_in (sym (taken t u xs e).1) ∙ given-part seats.machine (size_of t.size) (answers_in xs) t.seats

pub search-own : (t u : Table) (xs : List Float) → scan_of t xs ≡ value u → (i : ℕ) (s : Seat)
    → get_elem? (searches_in t) i ≡ some s
    → get_elem? (searches_in u) i ≡ some (reached seats.machine s (own_answers i xs))
search-own t u xs e i s found =
    ap (λ (l : List Seat). get_elem? l i) (taken-whole t u xs e)
    ∙ reached-alone seats.machine (searches_in t) (answers_in xs) i s found

-- ---- answers in two lists

last-of-both : (o : Told) (ps qs : List Told) → last_told o (ps ++ qs) ≡ last_told (last_told o ps) qs
last-of-both o [] qs = refl
last-of-both o (p ∷ ps) qs = last-of-both p ps qs

module _ {S : Type 0} (kind : Machine S) where
  reached-by-both : (s : S) (ys zs : List Reply) → reached kind s (ys ++ zs) ≡ reached kind (reached kind s ys) zs
  unfolding reached
  reached-by-both s [] zs = refl
  reached-by-both s (y ∷ ys) zs = reached-by-both (kind.next s y.0 y.1) ys zs

  played-by-both : (s : S) (ys zs : List Reply)
      → played kind s (ys ++ zs) ≡ played kind s ys ++ played kind (reached kind s ys) zs
  unfolding reached played
  played-by-both s [] zs = refl
  played-by-both s (y ∷ ys) zs =
      ap (λ l. kind.says s y.0 y.1 ∷ l) (played-by-both (kind.next s y.0 y.1) ys zs)

-- what a seat shows is what was told last
pub shows-last : (s : Seat) (ys : List Reply)
    → told (reached seats.machine s ys).outcome ≡ last_told (told s.outcome) (played seats.machine s ys)
unfolding reached played
shows-last s [] = refl
shows-last s (y ∷ ys) = shows-last (answered_of s y.0 y.1) ys

-- ---- a seat goes as its search does

module _ {S : Type 0} (kind : Machine S) (held : S → Held) (is : Kind kind held) where
  -- one answer
  leaves-seat : (z : Seat) (s : S) (f g : Float) → z.search ≡ held s
      → (answered_of z f g).search ≡ held (kind.next s f g)
  leaves-seat z s f g e = ap (λ (h : Held). (answered_by h f g).search) e ∙ is.leaves s z.outcome f g

  tells-seat : (z : Seat) (s : S) (f g : Float) → z.search ≡ held s
      → told (answered_of z f g).outcome ≡ kind.says s f g
  tells-seat z s f g e = ap (λ (h : Held). told (answered_by h f g).outcome) e ∙ is.says s z.outcome f g

  -- any
  holds-seat : (z : Seat) (s : S) (ys : List Reply) → z.search ≡ held s
      → (reached seats.machine z ys).search ≡ held (reached kind s ys)
  unfolding reached
  holds-seat z s [] e = e
  holds-seat z s (y ∷ ys) e =
      holds-seat (answered_of z y.0 y.1) (kind.next s y.0 y.1) ys (leaves-seat z s y.0 y.1 e)

  plays-seat : (z : Seat) (s : S) (ys : List Reply) → z.search ≡ held s → played seats.machine z ys ≡ played kind s ys
  unfolding played
  plays-seat z s [] e = refl
  plays-seat z s (y ∷ ys) e =
      ap₂ ◌∷◌ (tells-seat z s y.0 y.1 e)
      (plays-seat (answered_of z y.0 y.1) (kind.next s y.0 y.1) ys (leaves-seat z s y.0 y.1 e))

  -- ---- a list

  by-list : (s : S) (o : Told) (ys : List Reply) (os : List Told) (t u : Table) (i : ℕ) (xs : List Float)
      → scan_of t xs ≡ value u → Sits kind held s o ys os t i
      → Sits kind held s o (ys ++ own_answers i xs) (os ++ under i (outcomes_in t xs)) u i
  by-list s o ys os t u i xs e at =
      let own = own_answers i xs in
      let tells : under i (outcomes_in t xs) ≡ played seats.machine at.seat own =
      told-alone seats.machine i (answers_in xs) (searches_in t) at.seat at.found in
      record {
        seat = reached seats.machine at.seat own;
        found = search-own t u xs e i at.seat at.found;
        holds = holds-seat at.seat (reached kind s ys) own at.holds ∙ ap held (sym (reached-by-both kind s ys own));
        plays = ap₂ ◌++◌ at.plays (tells ∙ plays-seat at.seat (reached kind s ys) own at.holds)
            ∙ sym (played-by-both kind s ys own);
        tells = shows-last at.seat own
            ∙ ap₂ last_told at.tells (sym tells)
            ∙ sym (last-of-both o os (under i (outcomes_in t xs)));
      }

-- ---- another search sits down

module _ {A : Type 0} where
  append-nothing : (l : List A) → l ++ [] ≡ l
  append-nothing [] = refl
  append-nothing (x ∷ l) = ap (λ r. x ∷ r) (append-nothing l)

  append-thrice : (k l r : List A) → (k ++ l) ++ r ≡ k ++ (l ++ r)
  append-thrice [] l r = refl
  append-thrice (x ∷ k) l r = ap (λ z. x ∷ z) (append-thrice k l r)

  -- what is found among the first n is found where the next place gets something
  kept : (n i : ℕ) (l : List A) (x z : A) → get_elem? (take n l) i ≡ some x
      → get_elem? (take (suc n) (set l n z)) i ≡ some x
  kept zero i l x z e = absurd (none-ne-some x e)
  kept (suc n) i [] x z e = absurd (none-ne-some x e)
  kept (suc n) zero (y ∷ l) x z e = e
  kept (suc n) (suc i) (y ∷ l) x z e = kept n i l x z e

  placed : (n : ℕ) (l : List A) (z : A) → n < length l → get_elem? (take (suc n) (set l n z)) n ≡ some z
  placed n [] z h = absurd (not-suc-le-zero h)
  placed zero (y ∷ l) z h = refl
  placed (suc n) (y ∷ l) z h = placed n l z (le_of_suc-le-suc h)

size_below : (n : ℕ) → n < 32 → size_of n ≡ n
unfolding size_of
size_below n h = rw (lt-ltb n 32 h)

size-next : (n : ℕ) → n < 32 → size_of (n + 1) ≡ suc n
unfolding size_of
size-next n h =
    by_cases (λ (k : ℕ). k ≡ suc n) (ltb (n + 1) 32) (λ t. omega arith)
    (λ t. let l = ltb-false (n + 1) 32 t in omega arith)

abbrev with_next : Table → Seat → Table
with_next t z = record { seats = set t.seats t.size z; size = t.size + 1 }

with-room : (t : Table) (z : Seat) → t.size < 32 → (seated_of t z).table ≡ with_next t z
unfolding seated_of
with-room t z h = rw (lt-ltb t.size 32 h)

next-searches : (t : Table) (z : Seat) → t.size < 32
    → searches_in (with_next t z) ≡ take (suc t.size) (set t.seats t.size z)
next-searches t z h = ap (λ (n : ℕ). take n (set t.seats t.size z)) (size-next t.size h)

stays-found : (t : Table) (z s : Seat) (i : ℕ) → get_elem? (searches_in t) i ≡ some s
    → get_elem? (searches_in (seated_of t z).table) i ≡ some s
unfolding seated_of
stays-found t z s i e =
    by_cases (λ (r : Seated). get_elem? (searches_in r.table) i ≡ some s) (ltb t.size 32)
    (λ b. let h = ltb-true t.size 32 b in
    ap (λ (l : List Seat). get_elem? l i) (next-searches t z h)
    ∙ kept t.size i t.seats s z
    (subst (λ (n : ℕ). get_elem? (take n t.seats) i ≡ some s) (size_below t.size h) e))
    (λ b. e)

pub seats-stay : (t : Table) (z : Seat) → length t.seats ≡ 32 → length (seated_of t z).table.seats ≡ 32
unfolding seated_of
seats-stay t z e =
    by_cases (λ (r : Seated). length r.table.seats ≡ 32) (ltb t.size 32)
    (λ b. length-set t.seats t.size z ∙ e) (λ b. e)

pub stays-full : (t : Table) (z : Seat) → 32 ≤ t.size → seated_of t z ≡ record { table = t; place = None }
unfolding seated_of
stays-full t z h = rw (le-ltb t.size 32 h)

-- ---- what the demands need

module _ {S : Type 0} (kind : Machine S) (held : S → Held) where
  pub sits-down : (s : S) (o : Outcome) (t : Table) → t.size < 32 → length t.seats ≡ 32
      → Sits kind held s (told o) [] [] (seated_of t (seat_of (held s) o)).table t.size
  unfolding reached played
  sits-down s o t h n =
      let z = seat_of (held s) o in
      record {
        seat = z;
        found = ap (λ (u : Table). get_elem? (searches_in u) t.size) (with-room t z h)
            ∙ ap (λ (l : List Seat). get_elem? l t.size) (next-searches t z h)
            ∙ placed t.size t.seats z (rw n h);
        holds = refl;
        plays = refl;
        tells = refl;
      }

  -- another search sits down
  pub stays-seated : (s : S) (o : Told) (ys : List Reply) (os : List Told) (t : Table) (i : ℕ) (z : Seat)
      → Sits kind held s o ys os t i → Sits kind held s o ys os (seated_of t z).table i
  stays-seated s o ys os t i z at = record {
    seat = at.seat;
    found = stays-found t z at.seat i at.found;
    holds = at.holds;
    plays = at.plays;
    tells = at.tells;
  }

  pub goes_on : Kind kind held → (s : S) (o : Told) (ys : List Reply) (os : List Told) (t : Table) (i : ℕ)
      (zs : List Reply) (ps : List Told) (u : Table)
      → Since i t zs ps u → Sits kind held s o ys os t i → Sits kind held s o (ys ++ zs) (os ++ ps) u i
  goes_on is s o ys os t i zs ps u at_once at =
      subst (λ l. Sits kind held s o l (os ++ []) t i) (sym (append-nothing ys))
      (subst (λ l. Sits kind held s o ys l t i) (sym (append-nothing os)) at)
  goes_on is s o ys os t i zs ps u (a-list {ys = ws} {os = qs} {u = v} xs since e) at =
      subst (λ l. Sits kind held s o l (os ++ (qs ++ under i (outcomes_in v xs))) u i)
      (append-thrice ys ws (own_answers i xs))
      (subst (λ l. Sits kind held s o ((ys ++ ws) ++ own_answers i xs) l u i)
      (append-thrice os qs (under i (outcomes_in v xs)))
      (by-list kind held is s o (ys ++ ws) (os ++ qs) v u i xs e (goes_on is s o ys os t i ws qs v since at)))
  goes_on is s o ys os t i zs ps u (a-search {u = v} z since) at =
      stays-seated s o (ys ++ zs) (os ++ ps) v i z (goes_on is s o ys os t i zs ps v since at)
