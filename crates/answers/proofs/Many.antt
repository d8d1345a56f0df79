-- Many answers to many searches, over any machine: each search of a table has its own answers, whatever the others get.
-- All the rest follows from this one law, `alone`. Assumes nothing.
use Rattle.std.proofs.Common.{◌≡◌, ℕ, zero, suc, ◌<◌, ◌≤◌, Bool, true, false, cond, ◌&&◌, eqb, ltb, List, [], ◌∷◌, ◌++◌}
use Rattle.std.proofs.Common.{map, length, take, sym, refl, ap, ◌∙◌, subst, ap₂, le_of_suc-le-suc}
use Rattle.std.proofs.Common.{not-suc-le-zero, arith, ltb-false, ltb-true, eq-eqb, ne_eqb, eqb-true}
use mathlib.Core.List.{foldl-append, cons≢nil}
use mathlib.Core.Option.{Option, none, some, none-ne-some, some-injective}
use lib.ListN.{get_elem?}
use borrow.Author.Tests.{eqb-false}
use Rattle.floats.proofs.Branches.{and_first, and_second}
use Rattle.runs.specs.Outcomes.{Told}
use Rattle.runs.specs.Asking.{Reply, Machine, reached, played}
use Rattle.answers.specs.Many.{Answer, under, changed, given_one, given_all, told_at_one, told_all, Laws}
use Rattle.answers.specs.Answers.{all_named}
use Rattle.answers.proofs.Lists.{length-changed}

-- ---- a list in which one place is changed

unfoldable pub mapped : {A B : Type 0} → (A → B) → Option A → Option B
mapped h none = none
mapped h (some x) = some (h x)

mapped-twice : {A B C : Type 0} (h : A → B) (k : B → C) (o : Option A) → mapped k (mapped h o) ≡ mapped (λ x. k (h x)) o
unfolding mapped
mapped-twice h k none = refl
mapped-twice h k (some x) = refl

mapped-same : {A : Type 0} (o : Option A) → mapped (λ x. x) o ≡ o
unfolding mapped
mapped-same none = refl
mapped-same (some x) = refl

module _ {S : Type 0} where
  changed-here : (i : ℕ) (h : S → S) (t : List S) → get_elem? (changed i h t) i ≡ mapped h (get_elem? t i)
  unfolding changed mapped
  changed-here i h [] = refl
  changed-here zero h (s ∷ t) = refl
  changed-here (suc i) h (s ∷ t) = changed-here i h t

  changed-elsewhere : (i j : ℕ) (h : S → S) → (j ≡ i → ⊥) → (t : List S) → get_elem? (changed j h t) i ≡ get_elem? t i
  unfolding changed
  changed-elsewhere i j h apart [] = refl
  changed-elsewhere zero zero h apart (s ∷ t) = absurd (apart refl)
  changed-elsewhere zero (suc j) h apart (s ∷ t) = refl
  changed-elsewhere (suc i) zero h apart (s ∷ t) = refl
  changed-elsewhere (suc i) (suc j) h apart (s ∷ t) = changed-elsewhere i j h (λ e. apart (ap suc e)) t

  -- two lists with the same at every place are one
  same-everywhere : (t u : List S) → ((i : ℕ) → get_elem? t i ≡ get_elem? u i) → t ≡ u
  same-everywhere [] [] e = refl
  same-everywhere [] (s ∷ u) e = absurd (none-ne-some s (e 0))
  same-everywhere (s ∷ t) [] e = absurd (none-ne-some s (sym (e 0)))
  same-everywhere (s ∷ t) (v ∷ u) e =
      ap₂ ◌∷◌ (some-injective s v (e 0)) (same-everywhere t u (λ i. e (suc i)))

  -- a part from its beginning
  changed-part : (n i : ℕ) (h : S → S) (t : List S) → take n (changed i h t) ≡ changed i h (take n t)
  unfolding changed
  changed-part zero i h t = refl
  changed-part (suc n) i h [] = refl
  changed-part (suc n) zero h (s ∷ t) = refl
  changed-part (suc n) (suc i) h (s ∷ t) = ap (λ u. s ∷ u) (changed-part n i h t)

-- ---- what is listed under a number

module _ {A : Type 0} where
  -- two neighbours with different numbers change places
  two : (i : ℕ) (x y : ℕ × A) (r : List A) (b c : Bool) → eqb x.0 i ≡ b → eqb y.0 i ≡ c → (x.0 ≡ y.0 → ⊥)
      → cond b (x.1 ∷ cond c (y.1 ∷ r) r) (cond c (y.1 ∷ r) r)
      ≡ cond c (y.1 ∷ cond b (x.1 ∷ r) r) (cond b (x.1 ∷ r) r)
  two i x y r true true p q apart = absurd (apart (eqb-true _ _ p ∙ sym (eqb-true _ _ q)))
  two i x y r true false p q apart = refl
  two i x y r false c p q apart = refl

  pub neighbours : (i : ℕ) (x y : ℕ × A) → (x.0 ≡ y.0 → ⊥) → (l r : List (ℕ × A))
      → under i (l ++ x ∷ y ∷ r) ≡ under i (l ++ y ∷ x ∷ r)
  unfolding under
  neighbours i x y apart [] r = two i x y (under i r) (eqb x.0 i) (eqb y.0 i) refl refl apart
  neighbours i x y apart (z ∷ l) r =
      ap (λ (u : List A). cond (eqb z.0 i) (z.1 ∷ u) u) (neighbours i x y apart l r)

-- ---- whether all are named, by what is listed under each number

cons-not-nil : {A : Type 0} (x : A) (l : List A) → x ∷ l ≡ [] → ⊥
cons-not-nil x l e = cons≢nil e

none-beyond : (n i : ℕ) → n ≤ i → (ys : List Answer) → all_named n ys ≡ true → under i ys ≡ []
unfolding all_named under
none-beyond n i l [] e = refl
none-beyond n i l (a ∷ ys) e =
    let here = ltb-true a.0 n (and_first (ltb a.0 n) (all_named n ys) e) in
    rw (ne_eqb a.0 i (λ q. omega arith))
    (none-beyond n i l ys (and_second (ltb a.0 n) (all_named n ys) e))

within-one : (n : ℕ) (a : Answer) (ys : List Answer) → ((i : ℕ) → n ≤ i → under i (a ∷ ys) ≡ [])
    → (((i : ℕ) → n ≤ i → under i ys ≡ []) → all_named n ys ≡ true) → (b : Bool) → ltb a.0 n ≡ b
    → (b && all_named n ys) ≡ true
unfolding under
within-one n a ys none-at later true e =
    let here = ltb-true a.0 n e in
    later (λ i l. rw (ne_eqb a.0 i (λ q. omega arith)) at (none-at i l))
within-one n a ys none-at later false e =
    absurd (cons-not-nil a.1 (under a.0 ys)
    (rw (eq-eqb a.0 a.0 refl) at (none-at a.0 (ltb-false a.0 n e))))

all-within : (n : ℕ) (ys : List Answer) → ((i : ℕ) → n ≤ i → under i ys ≡ []) → all_named n ys ≡ true
unfolding all_named
all-within n [] none-at = refl
all-within n (a ∷ ys) none-at = within-one n a ys none-at (all-within n ys) (ltb a.0 n) refl

both_ways : (b c : Bool) → (b ≡ true → c ≡ true) → (c ≡ true → b ≡ true) → b ≡ c
both_ways true c p q = sym (p refl)
both_ways false true p q = q refl
both_ways false false p q = refl

pub named-alike : (n : ℕ) (ys zs : List Answer) → ((i : ℕ) → under i ys ≡ under i zs) → all_named n ys ≡ all_named n zs
named-alike n ys zs same =
    both_ways (all_named n ys) (all_named n zs)
    (λ e. all-within n zs (λ i l. sym (same i) ∙ none-beyond n i l ys e))
    (λ e. all-within n ys (λ i l. same i ∙ none-beyond n i l zs e))

-- ---- a table and its answers

module _ {S : Type 0} (m : Machine S) where
  -- one answer, to this search or to another
  once : (i : ℕ) (t : List S) (a : Answer) (ys : List Answer) (b : Bool) → eqb a.0 i ≡ b
      → mapped (λ s. reached m s (under i ys)) (get_elem? (given_one m t a) i)
      ≡ mapped (λ s. reached m s (cond b (a.1 ∷ under i ys) (under i ys))) (get_elem? t i)
  unfolding reached
  once i t a ys true e =
      subst (λ (j : ℕ). mapped (λ s. reached m s (under i ys)) (get_elem? (given_one m t (j, a.1)) i)
      ≡ mapped (λ s. reached m s (a.1 ∷ under i ys)) (get_elem? t i)) (sym (eqb-true a.0 i e))
      (ap (mapped (λ s. reached m s (under i ys))) (changed-here i (λ s. m.next s a.1.0 a.1.1) t)
      ∙ mapped-twice (λ s. m.next s a.1.0 a.1.1) (λ s. reached m s (under i ys)) (get_elem? t i))
  once i t a ys false e =
      ap (mapped (λ s. reached m s (under i ys)))
      (changed-elsewhere i a.0 (λ s. m.next s a.1.0 a.1.1) (eqb-false a.0 i e) t)

  -- each search is where its own answers bring it
  alone : (t : List S) (ys : List Answer) (i : ℕ)
      → get_elem? (given_all m t ys) i ≡ mapped (λ s. reached m s (under i ys)) (get_elem? t i)
  unfolding under reached
  alone t [] i = sym (mapped-same (get_elem? t i))
  alone t (a ∷ ys) i = alone (given_one m t a) ys i ∙ once i t a ys (eqb a.0 i) refl

  -- the search with a number, if there is one
  pub reached-alone : (t : List S) (ys : List Answer) (i : ℕ) (s : S) → get_elem? t i ≡ some s
      → get_elem? (given_all m t ys) i ≡ some (reached m s (under i ys))
  unfolding mapped
  reached-alone t ys i s e = alone t ys i ∙ ap (mapped (λ s. reached m s (under i ys))) e

  -- answers given in two lists are those given in one
  pub in-turn : (t : List S) (ys zs : List Answer) → given_all m t (ys ++ zs) ≡ given_all m (given_all m t ys) zs
  in-turn t ys zs = foldl-append (given_one m) t ys zs

  -- a part of the table from its beginning
  pub given-part : (n : ℕ) (ys : List Answer) (t : List S) → take n (given_all m t ys) ≡ given_all m (take n t) ys
  given-part n [] t = refl
  given-part n (a ∷ ys) t =
      given-part n ys (given_one m t a)
      ∙ ap (λ (u : List S). given_all m u ys) (changed-part n a.0 (λ s. m.next s a.1.0 a.1.1) t)

  -- lists that have the same answers to each search, in the same order, leave the same table
  pub any_order : (ys zs : List Answer) → ((i : ℕ) → under i ys ≡ under i zs) → (t : List S)
      → given_all m t ys ≡ given_all m t zs
  any_order ys zs same t =
      same-everywhere (given_all m t ys) (given_all m t zs)
      (λ i. alone t ys i ∙ ap (λ (rs : List Reply). mapped (λ s. reached m s rs) (get_elem? t i)) (same i)
      ∙ sym (alone t zs i))

  -- two neighbours to different searches
  pub either_order : (t : List S) (ys : List Answer) (a b : Answer) (zs : List Answer) → (a.0 ≡ b.0 → ⊥)
      → given_all m t (ys ++ a ∷ b ∷ zs) ≡ given_all m t (ys ++ b ∷ a ∷ zs)
  either_order t ys a b zs apart =
      any_order (ys ++ a ∷ b ∷ zs) (ys ++ b ∷ a ∷ zs) (λ i. neighbours i a b apart ys zs) t

  -- ---- what is told

  -- another search says nothing under the number i
  others : (i : ℕ) (a : Answer) (o : Option S) (rest : List (ℕ × Told)) → eqb a.0 i ≡ false
      → under i (told_at_one m a o ++ rest) ≡ under i rest
  unfolding under
  others i a none rest e = refl
  others i a (some s) rest e = rw e

  -- what is told under a number is what that search tells at its own answers
  told-by-one : (i : ℕ) (t : List S) (a : Answer) (ys : List Answer) (s : S) → get_elem? t i ≡ some s
      → ((u : List S) (v : S) → get_elem? u i ≡ some v → under i (told_all m u ys) ≡ played m v (under i ys))
      → (b : Bool) → eqb a.0 i ≡ b
      → under i (told_at_one m a (get_elem? t a.0) ++ told_all m (given_one m t a) ys)
      ≡ played m s (cond b (a.1 ∷ under i ys) (under i ys))
  unfolding under played mapped
  told-by-one i t a ys s at later true e =
      let n = eqb-true a.0 i e in
      let here : get_elem? t a.0 ≡ some s = ap (get_elem? t) n ∙ at in
      let next : get_elem? (given_one m t a) i ≡ some (m.next s a.1.0 a.1.1) =
      subst (λ (j : ℕ). get_elem? (given_one m t (j, a.1)) i ≡ some (m.next s a.1.0 a.1.1)) (sym n)
      (changed-here i (λ s. m.next s a.1.0 a.1.1) t
      ∙ ap (mapped (λ s. m.next s a.1.0 a.1.1)) at) in
      rw (here, e) (ap (λ l. m.says s a.1.0 a.1.1 ∷ l) (later (given_one m t a) _ next))
  told-by-one i t a ys s at later false e =
      others i a (get_elem? t a.0) (told_all m (given_one m t a) ys) e
      ∙ later (given_one m t a) s
      (changed-elsewhere i a.0 (λ s. m.next s a.1.0 a.1.1) (eqb-false a.0 i e) t ∙ at)

  pub told-alone : (i : ℕ) (ys : List Answer) (t : List S) (s : S) → get_elem? t i ≡ some s
      → under i (told_all m t ys) ≡ played m s (under i ys)
  unfolding under told_all played
  told-alone i [] t s at = refl
  told-alone i (a ∷ ys) t s at = told-by-one i t a ys s at (told-alone i ys) (eqb a.0 i) refl

  -- each answer that names a search is told something
  seated : (t : List S) (i : ℕ) → i < length t → (s : S) × (get_elem? t i ≡ some s)
  seated [] i l = absurd (not-suc-le-zero l)
  seated (s ∷ t) zero l = (s, refl)
  seated (s ∷ t) (suc i) l = seated t i (le_of_suc-le-suc l)

  pub each-told : (ys : List Answer) (t : List S) → all_named (length t) ys ≡ true
      → map (λ x. x.0) (told_all m t ys) ≡ map (λ x. x.0) ys
  unfolding told_all all_named
  each-told [] t e = refl
  each-told (a ∷ ys) t e =
      let here = and_first (ltb a.0 (length t)) (all_named (length t) ys) e in
      let rest = and_second (ltb a.0 (length t)) (all_named (length t) ys) e in
      let found = seated t a.0 (ltb-true _ _ here) in
      let size = length-changed t a.0 (λ s. m.next s a.1.0 a.1.1) in
      rw found.1 (ap (λ l. a.0 ∷ l) (each-told ys (given_one m t a) (rw size rest)))

  pub laws : Laws m
  laws = record {
    either_order = either_order;
    any_order = any_order;
    outcomes-own = told-alone;
    search-own = reached-alone;
  }
