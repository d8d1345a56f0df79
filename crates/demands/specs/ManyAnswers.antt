-- 02, request 6, "Many answers in one call", of every table and every list. What a list says and what it is refused by
-- stand in answers/specs, Answers.antt and Many.antt; what it leaves of a table in tables/specs/Tables.antt; one answer
-- to a search of either kind in seats/specs/Seats.antt. Here is what follows.
use Rattle.std.specs.Prelude.{ℕ, ◌%◌, ◌≤◌, ◌<◌, ◌≡◌, true, List, [], ◌∷◌, ◌++◌, map, length, Float, Some, None, Err}
use Rattle.std.specs.Prelude as Rust
use Rattle.std.specs.Option.{unwrap_or}
use Rattle.std.proofs.Math.Option.{some}
use Rattle.std.proofs.Math.ListN.{get_elem?}
use Rattle.std.specs.Float.{nan, binary64}
use Rattle.std.specs.Float.Ieee.{neg, fits}
use Rattle.floats.specs.Arithmetic.{◌=ᶠ◌, 0ᶠ}
use Rattle.floats.specs.Numerals.{whole}
use Rattle.refusals.specs.Results.{value, refused}
use Rattle.refusals.specs.Refusals.{Table as RefusedByTable, refused_by}
use Rattle.refusals.specs.declared.Refusal.TheVariants.{AlreadyOver}
use Rattle.runs.specs.declared.Outcome.{Outcome}
use Rattle.runs.specs.declared.Outcome.TheVariants.{Refused as RefusedOutcome}
use Rattle.runs.specs.Outcomes.{Told, Ending, ends, told}
use Rattle.runs.specs.Asking.{Reply, Machine, reached, played, shown, outcomes, reported, after}
use Rattle.answers.specs.declared.Refusal.{Refusal}
use Rattle.answers.specs.Many.{under, told_all, Laws}
use Rattle.answers.specs.Answers.{search_number, search_named, answers_in, size_of, list_rows}
use Rattle.answers.specs.Answers.{checked_told, CheckedSaid}
use Rattle.seats.specs.declared.Held.{Held}
use Rattle.seats.specs.declared.Held.TheVariants.{HagerZhang, Backtracks}
use Rattle.seats.specs.Seats.{Seat, seat_of, answered_of, is_over, hager_zhang_seat, backtracking_seat}
use Rattle.seats.specs.Seats as seats
use Rattle.tables.specs.declared.Table.{Table}
use Rattle.tables.specs.declared.Scanned.{Scanned}
use Rattle.tables.specs.Tables.{searches_in, empty_table, seated_of, given_to, scan_of, table_told, ScanSaid}
use Rattle.hagerzhang_rules.specs.declared.Options.{Options}
use Rattle.hagerzhang_rules.specs.Parameters.{setup_of}
use Rattle.hagerzhang_rules.specs.Rules.{hager_zhang}
use Rattle.hagerzhang.specs.Machine.{Turn}
use Rattle.hagerzhang.specs.Meaning.{report}
use Rattle.backtracking.specs.declared.Options.{Options as TrialOptions}
use Rattle.backtracking.specs.Machine.{Turn as TrialTurn}
use Rattle.backtracking.specs.Backtracking.{setup_of as trial_setup, backtracking}
use Rattle.backtracking.specs.Machine.{start_of as trials_start}
use Rattle.demands.specs.Runs.{Gave, machine as hager_zhang_machine}
use Rattle.demands.specs.Demand2.{ByRules}
use Rattle.demands.specs.Demand3.{Bounded}
use Rattle.demands.specs.Backtracking.{Searches, machine as trials_machine}

-- a list's answers to the search i
abbrev pub own_answers : ℕ → List Float → List Reply
own_answers i xs = under i (answers_in xs)

-- what is told at a list's answers, each under the number of the search that tells it
abbrev pub outcomes_in : Table → List Float → List (ℕ × Told)
outcomes_in t xs = told_all seats.machine (searches_in t) (answers_in xs)

-- what was told last: o, where nothing was told since
abbrev pub last_told : Told → List Told → Told
last_told o [] = o
last_told o (p ∷ os) = last_told p os

-- ---- a search in a table, of any kind

-- a kind of search: a seat that holds its state s goes and tells as s does
pub record Kind {S : Type 0} (kind : Machine S) (held : S → Held) : Type 0 where
  pub leaves : (s : S) (o : Outcome) (f g : Float)
      → (answered_of (seat_of (held s) o) f g).search ≡ held (kind.next s f g)
  pub says : (s : S) (o : Outcome) (f g : Float)
      → told (answered_of (seat_of (held s) o) f g).outcome ≡ kind.says s f g
  pub over : (s : S) → is_over (held s) ≡ kind.over s

-- the search i of a table is where one stands that began with s, told o, and since then told os at the answers ys
pub record Sits {S : Type 0} (kind : Machine S) (held : S → Held) (s : S) (o : Told) (ys : List Reply) (os : List Told)
    (t : Table) (i : ℕ) : Type 0 where
  pub seat : Seat
  pub found : get_elem? (searches_in t) i ≡ some seat
  pub holds : seat.search ≡ held (reached kind s ys)
  pub plays : os ≡ played kind s ys
  pub tells : told seat.outcome ≡ last_told o os

-- of each kind
abbrev pub HagerZhangSits : Turn → List Reply → List Told → Table → ℕ → Type 0
HagerZhangSits r = Sits hager_zhang_machine HagerZhang r.search (told r.outcome)

abbrev pub BacktrackingSits : TrialTurn → List Reply → List Told → Table → ℕ → Type 0
BacktrackingSits r = Sits trials_machine Backtracks r.search (told r.outcome)

-- from one table to another, by whatever is added and by whatever lists are taken; ys are the answers to the search i
-- among them, and os what it tells at them. (What is refused changes nothing.)
pub data Since (i : ℕ) (t : Table) : List Reply → List Told → Table → Type 0 where
  at_once : Since i t [] [] t
  a-list : {ys : List Reply} {os : List Told} {u v : Table} (xs : List Float) → Since i t ys os u
      → scan_of u xs ≡ value v → Since i t (ys ++ own_answers i xs) (os ++ under i (outcomes_in u xs)) v
  a-search : {ys : List Reply} {os : List Told} {u : Table} (s : Seat) → Since i t ys os u
      → Since i t ys os (seated_of u s).table

-- a table that the library's calls made: from an empty one, by accepted starts and by lists that were taken
pub data Built : Table → Type 0 where
  nobody : Built empty_table
  hager-zhang : {t : Table} (o : Options) (f0 s0 : Float) (r : Turn) → Built t → Gave o f0 s0 r
      → Built (seated_of t (hager_zhang_seat r)).table
  backtracks : {t : Table} (o : TrialOptions) (f0 s0 : Float) (r : TrialTurn) → Built t → trials_start o f0 s0 ≡ value r
      → Built (seated_of t (backtracking_seat r)).table
  list-taken : {t u : Table} (xs : List Float) → Built t → scan_of t xs ≡ value u → Built u

-- the search i of a table is one that `start` gave, after answers of its own
pub data Somebody (t : Table) (i : ℕ) : Type 0 where
  of-hager-zhang : (o : Options) (f0 s0 : Float) (r : Turn) (ys : List Reply) (os : List Told) → Gave o f0 s0 r
      → HagerZhangSits r ys os t i → Somebody t i
  of-backtracking : (o : TrialOptions) (f0 s0 : Float) (r : TrialTurn) (ys : List Reply) (os : List Told)
      → trials_start o f0 s0 ≡ value r → BacktrackingSits r ys os t i → Somebody t i

-- ---- demands 2 and 3 of it: all that it told, first and at its answers, what it told last and what it holds are the
-- rules'. The demands themselves speak of the search that r began, at any answers; so at ys, after which the seat has
-- it (`holds` of `Sits`)

pub record HagerZhangIn (o : Options) (f0 s0 : Float) (r : Turn) (ys : List Reply) (os : List Told) : Type 0 where
  pub first : told r.outcome ≡ shown (hager_zhang (setup_of o f0 s0))
  pub told-all : os ≡ outcomes (hager_zhang (setup_of o f0 s0)) ys
  pub reports : report (reached hager_zhang_machine r.search ys) ≡ reported (after (hager_zhang (setup_of o f0 s0)) ys)
  pub demand-2 : ByRules o f0 s0 r
  pub demand-3 : Bounded o f0 s0 r

pub record BacktrackingIn (o : TrialOptions) (f0 s0 : Float) (r : TrialTurn) (ys : List Reply) (os : List Told)
    : Type 0 where
  pub first : told r.outcome ≡ shown (backtracking (trial_setup o f0 s0))
  pub told-all : os ≡ outcomes (backtracking (trial_setup o f0 s0)) ys
  pub demands : Searches o f0 s0 r

pub record ManyAnswers : Type 1 where
  -- ---- a list

  -- "Search numbers come as whole-valued floats 0 to 31; minus zero names search 0": of f64s, both ways; 32 is none
  pub named : (x : Float) (n : ℕ) → fits binary64 x ≡ true → n < 32 → x =ᶠ whole n ≡ true → search_number x ≡ n
  pub named-only : (x : Float) → search_number x < 32 → x =ᶠ whole (search_number x) ≡ true
  pub minus-zero : search_number (neg 0ᶠ) ≡ 0
  pub nan-names-none : search_number nan ≡ 32
  -- `number` tells the same as an Option
  pub named-told : (x : Float) → unwrap_or (search_named x) 32 ≡ search_number x
  -- "Refusals: 1 .., 3 ..; both are checked over the whole list first and change nothing": of `check`, and of `scan`
  pub check-refuses : (n : ℕ) (xs : List Float) (r : Rust.Result Unit Refusal) → CheckedSaid n xs r
      → RefusedByTable (refused_by (checked_told r)) (list_rows n xs)
  pub scan-refuses : (t : Table) (xs : List Float) (r : Scanned) → ScanSaid t xs r
      → RefusedByTable (refused_by (table_told r.checked r.table)) (list_rows t.size xs)
  pub untouched : (t : Table) (xs : List Float) (r : Scanned) → ScanSaid t xs r → (k : Refusal)
      → r.checked ≡ Err k → r.table ≡ t
  -- ---- "It shall equal the answers given one at a time in list order, a search named twice included."

  -- no answer, and one: it goes to the search that it names, or nothing is named and 3 is told
  pub empty-list : (t : Table) → scan_of t [] ≡ value t
  pub one_answer : (t : Table) (x f g : Float) → search_number x < size_of t.size
      → scan_of t (x ∷ f ∷ g ∷ []) ≡ value (given_to t ((search_number x, (f, g)) ∷ []))
  pub one-refused : (t : Table) (x f g : Float) → size_of t.size ≤ search_number x
      → scan_of t (x ∷ f ∷ g ∷ []) ≡ refused 3
  -- two lists, one after the other, are one; and one list is any two of which it is made. So a list is taken exactly
  -- where its answers are, one at a time, and leaves what they leave
  pub in-turn : (t u v : Table) (xs zs : List Float) → scan_of t xs ≡ value u → scan_of u zs ≡ value v
      → scan_of t (xs ++ zs) ≡ value v
  pub apart : (t v : Table) (xs zs : List Float) → length xs % 3 ≡ 0 → scan_of t (xs ++ zs) ≡ value v
      → (u : Table) × (scan_of t xs ≡ value u) × (scan_of u zs ≡ value v)
  -- as many searches sit in the table as before
  pub size-stays : (t u : Table) (xs : List Float) → scan_of t xs ≡ value u → u.size ≡ t.size
  -- ---- order, and one search by itself

  -- of any machine
  pub laws : {S : Type 0} (m : Machine S) → Laws m
  -- "answers to two different searches leave the same table in either order": any two neighbours of a list, taken or
  -- not
  pub either_order : (t : Table) (xs zs : List Float) (x f g y h k : Float) → length xs % 3 ≡ 0
      → (search_number x ≡ search_number y → ⊥)
      → scan_of t (xs ++ x ∷ f ∷ g ∷ y ∷ h ∷ k ∷ zs) ≡ scan_of t (xs ++ y ∷ h ∷ k ∷ x ∷ f ∷ g ∷ zs)
  -- hence any order that keeps each search's own
  pub any_order : (t : Table) (xs zs : List Float) → length xs ≡ length zs
      → ((i : ℕ) → own_answers i xs ≡ own_answers i zs) → scan_of t xs ≡ scan_of t zs
  -- "in an accepted list the outcomes of one search do not depend on another's answers": all of them in order are those
  -- of the search by itself at its own answers
  pub outcomes-own : (t u : Table) (xs : List Float) → scan_of t xs ≡ value u → (i : ℕ) (s : Seat)
      → get_elem? (searches_in t) i ≡ some s → under i (outcomes_in t xs) ≡ played seats.machine s (own_answers i xs)
  -- and so is what it then is, with the last of them. So "A refused answer ends only its own search."
  pub search-own : (t u : Table) (xs : List Float) → scan_of t xs ≡ value u → (i : ℕ) (s : Seat)
      → get_elem? (searches_in t) i ≡ some s
      → get_elem? (searches_in u) i ≡ some (reached seats.machine s (own_answers i xs))
  pub shows-last : (s : Seat) (ys : List Reply)
      → told (reached seats.machine s ys).outcome ≡ last_told (told s.outcome) (played seats.machine s ys)
  -- each answer is told something, by the search that it names; a table's array has 32 seats
  pub each-told : (t u : Table) (xs : List Float) → length t.seats ≡ 32 → scan_of t xs ≡ value u
      → map (λ x. x.0) (outcomes_in t xs) ≡ map (λ x. x.0) (answers_in xs)
  -- "A search that has ended is still in the table and its answers meet refusal 8." What is told to be an end ends it
  pub over-stays : (s : Seat) (f g : Float) → is_over s.search ≡ true
      → ((answered_of s f g).search ≡ s.search) × ((answered_of s f g).outcome ≡ RefusedOutcome AlreadyOver)
  pub ends_it : (s : Seat) (f g : Float) (e : Ending ℕ) → told (answered_of s f g).outcome ≡ ends e
      → is_over (answered_of s f g).search ≡ true
  -- ---- a seat

  pub seated-at : (t : Table) (s : Seat) → t.size < 32 → (seated_of t s).place ≡ Some t.size
  pub full : (t : Table) (s : Seat) → 32 ≤ t.size → seated_of t s ≡ record { table = t; place = None }
  -- once for every kind of search: one that is added sits in the next seat, and goes on by its own answers, whatever is
  -- added and given to others
  pub sits-down : {S : Type 0} (kind : Machine S) (held : S → Held) (s : S) (o : Outcome) (t : Table) → t.size < 32
      → length t.seats ≡ 32 → Sits kind held s (told o) [] [] (seated_of t (seat_of (held s) o)).table t.size
  pub goes_on : {S : Type 0} (kind : Machine S) (held : S → Held) → Kind kind held → (s : S) (o : Told)
      (ys zs : List Reply) (os ps : List Told) (t u : Table) (i : ℕ) → Since i t zs ps u → Sits kind held s o ys os t i
      → Sits kind held s o (ys ++ zs) (os ++ ps) u i
  pub hager-zhang : Kind hager_zhang_machine HagerZhang
  pub backtracks : Kind trials_machine Backtracks
  -- ---- demands 2 and 3 of every search in the table

  pub every-search : (t : Table) → Built t → (i : ℕ) → i < t.size → Somebody t i
  pub hager-zhang-in : (o : Options) (f0 s0 : Float) (r : Turn) (ys : List Reply) (os : List Told) (t : Table) (i : ℕ)
      → Gave o f0 s0 r → HagerZhangSits r ys os t i → HagerZhangIn o f0 s0 r ys os
  pub backtracking-in : (o : TrialOptions) (f0 s0 : Float) (r : TrialTurn) (ys : List Reply) (os : List Told)
      (t : Table) (i : ℕ) → trials_start o f0 s0 ≡ value r
      → BacktrackingSits r ys os t i → BacktrackingIn o f0 s0 r ys os
