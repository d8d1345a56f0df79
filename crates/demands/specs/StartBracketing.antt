-- 02, request 3, "Start bracketing": what follows from demands 1 to 3 for the second way to start, in the request's own
-- words, of every search that `start` gave for it and every list of answers. It fixes no search by itself. The rules
-- stand in hagerzhang_rules/specs/Rules.antt (`grown_of`, `growth`, `starting`), with sums in StartSums.antt there, and
-- 3, 10 and 4 in Parameters.antt. That a search follows them is demand 2; when 11, 5, 6 and 7 come is demand 1
-- (`in-growth`, `in-U3`, `ended`).
use Rattle.std.specs.Prelude.{ℕ, ◌+◌, ◌*◌, ◌≤◌, ◌≡◌, true, false, List, ◌∷◌, ◌⊎◌, length, Float}
use Rattle.runs.specs.Outcomes.{refusal, asks, ends, told}
use Rattle.runs.specs.Asking.{Reply}
use Rattle.hagerzhang_rules.specs.declared.Way.TheVariants.{Growing}
use Rattle.hagerzhang_rules.specs.declared.Options.{Options}
use Rattle.hagerzhang_rules.specs.declared.Setup.{Setup}
use Rattle.hagerzhang_rules.specs.Parameters.{setup_of}
use Rattle.hagerzhang_rules.specs.Rules.{point, best_of, Summary, nothing_yet, last}
use Rattle.hagerzhang_rules.specs.Brackets.{premise, Ordered, Within}
use Rattle.hagerzhang_rules.specs.Iterations.{Opens}
use Rattle.hagerzhang.specs.declared.state.Search.{Search}
use Rattle.hagerzhang.specs.Machine.{Turn}
use Rattle.hagerzhang.specs.Meaning.{report, is_over}
use Rattle.demands.specs.Runs.{Gave, reached_by, told_after, and_then, points_asked, asked_at}

-- demand 3's three facts, and low step < high step
abbrev pub IsBracket : Setup → Summary → Type 0
IsBracket s p = (premise s.level p.bracket.a p.bracket.b ≡ true) × Ordered p.bracket

module _ (K : ℕ) (o : Options) (f0 s0 : Float) (t : Turn) where
  abbrev s : Setup
  s = setup_of o f0 s0

  abbrev b : Search
  b = t.search

  pub record Starts-growing : Type 0 where
    -- "the first trial is the start step"
    pub first-trial : told t.outcome ≡ asks o.params.start
    -- "The three start answers are replaced by at most 1+K+B": while the start lasts, and where it ended in it
    pub start-few : (ys : List Reply) → report (reached_by b ys) ≡ nothing_yet
        → length (points_asked b ys) ≤ 1 + K + o.budget
    -- so any search ends within 1+K+B+N(3+3B) answers
    pub search-ends : (ys : List Reply) → 1 + K + o.budget + o.limit * (3 + 3 * o.budget) ≤ length ys
        → is_over (reached_by b ys).stage ≡ true
    -- "demand 3's premise then holds without being assumed whenever this start succeeds": of the first bracket that is
    -- held. `Opens` says what else a finished start leaves: its ends are the point at 0 and trials of the start
    pub succeeds : (ys : List Reply) (y : Reply) (q : Summary) → report (reached_by b ys) ≡ nothing_yet
        → report (reached_by b (and_then ys y)) ≡ last q → Opens s (asked_at b ys y) q × IsBracket s q
    -- "The best's c is the first trial.": y is its answer
    pub best-of-first : (y : Reply) (ys : List Reply) (p : Summary) → report (reached_by b (y ∷ ys)) ≡ last p
        → p.best ≡ best_of p.bracket.a p.bracket.b (point o.params.start y.0 y.1)
    -- "A search ended within this start has no bracket and no best.": whatever refuses an answer of the start, but 5 of
    -- S1, where that answer has finished the start
    pub ended-within : (ys : List Reply) (y : Reply) (n : ℕ) → is_over (reached_by b ys).stage ≡ false
        → report (reached_by b ys) ≡ nothing_yet → told_after b ys y ≡ ends (refusal n)
        → (report (reached_by b (and_then ys y)) ≡ nothing_yet) ⊎ (n ≡ 5)
    -- hence demand 3 with no premise at all. "Then after each finished iteration the bracket meets the same three, low
    -- step < high step": of whatever bracket is held
    pub bracket-stays : (ys : List Reply) (p : Summary) → report (reached_by b ys) ≡ last p → IsBracket s p
    -- "and it lies within the former bracket"
    pub bracket-narrows : (ys : List Reply) (y : Reply) (p q : Summary) → report (reached_by b ys) ≡ last p
        → report (reached_by b (and_then ys y)) ≡ last q → q.iterations ≡ p.iterations + 1
        → Within p.bracket q.bracket

pub record StartBracketing : Type 0 where
  pub search-given : (K : ℕ) (o : Options) (f0 s0 : Float) (t : Turn) → o.way ≡ Growing K → Gave o f0 s0 t
      → Starts-growing K o f0 s0 t
