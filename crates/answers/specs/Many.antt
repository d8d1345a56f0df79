-- 02, request 6, over any machine: a list of answers to the searches of a table, and the laws of it (`Laws`). Nothing
-- here looks at what a search is. It has states, an answer leads to the next one, and something is told.
use Rattle.std.specs.Prelude.{◌≡◌, ℕ, zero, suc, cond, List, [], ◌∷◌, ◌++◌, ◌==◌, ◌≢◌}
use mathlib.Core.List.{foldl}
use Rattle.std.proofs.Math.Option.{Option, none, some}
use Rattle.std.proofs.Math.ListN.{get_elem?}
use Rattle.runs.specs.Outcomes.{Told}
use Rattle.runs.specs.Asking.{Reply, Machine, reached, played}

-- "(search number, cost, slope)": an answer with the number of its search
abbrev pub Answer : Type 0
Answer = ℕ × Reply

-- what is listed under a number, in list order
unfoldable pub under : {A : Type 0} → ℕ → List (ℕ × A) → List A
under i [] = []
under i (x ∷ xs) = cond (x.0 == i) (x.1 ∷ under i xs) (under i xs)

-- the table with h applied to the search of this number, and the others as they were; where no search has it, the table
-- as it was
unfoldable pub changed : {S : Type 0} → ℕ → (S → S) → List S → List S
changed i h [] = []
changed zero h (s ∷ t) = h s ∷ t
changed (suc i) h (s ∷ t) = s ∷ changed i h t

module _ {S : Type 0} (m : Machine S) where
  -- one answer: the search with its number takes it
  abbrev pub given_one : List S → Answer → List S
  given_one t a = changed a.0 (λ s. m.next s a.1.0 a.1.1) t

  -- "the answers given one at a time in list order"
  abbrev pub given_all : List S → List Answer → List S
  given_all t ys = foldl given_one t ys

  -- what is told at one answer, if a search has its number
  abbrev pub told_at_one : Answer → Option S → List (ℕ × Told)
  told_at_one a none = []
  told_at_one a (some s) = (a.0, m.says s a.1.0 a.1.1) ∷ []

  -- what is told meanwhile, each under the number of the search that tells it
  unfoldable pub told_all : List S → List Answer → List (ℕ × Told)
  told_all t [] = []
  told_all t (a ∷ ys) = told_at_one a (get_elem? t a.0) ++ told_all (given_one t a) ys

  pub record Laws : Type 0 where
    -- "answers to two different searches leave the same table in either order": any two neighbours of a list
    pub either_order : (t : List S) (ys : List Answer) (a b : Answer) (zs : List Answer) → (a.0 ≢ b.0)
        → given_all t (ys ++ a ∷ b ∷ zs) ≡ given_all t (ys ++ b ∷ a ∷ zs)
    -- hence any order that keeps each search's own
    pub any_order : (ys zs : List Answer) → ((i : ℕ) → under i ys ≡ under i zs) → (t : List S)
        → given_all t ys ≡ given_all t zs
    -- "the outcomes of one search do not depend on another's answers": all of them, in order, are those of the search
    -- by itself at its own answers; and so is what it then is
    pub outcomes-own : (i : ℕ) (ys : List Answer) (t : List S) (s : S) → get_elem? t i ≡ some s
        → under i (told_all t ys) ≡ played m s (under i ys)
    pub search-own : (t : List S) (ys : List Answer) (i : ℕ) (s : S) → get_elem? t i ≡ some s
        → get_elem? (given_all t ys) i ≡ some (reached m s (under i ys))
