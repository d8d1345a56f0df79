-- 01, "How tight the contracts are": "Each contract determines result, next state and buffers for each input, refused
-- ones as well; any two results it allows are proved identical". The relations are those that the contracts cite. Every
-- other public function's contract has an equation of the result itself, `r ≡ ..`, and that is the field `equation`; a
-- bound may stand beside it. Two exceptions in form: `wire::from` and `fields::body` hand out a part of the slice that
-- they are lent, and `Cursor::new` the buffer. Their contracts say all that can be read there.
use Rattle.std.specs.Prelude.{ℕ, ◌≡◌, List, Float, Option}
use Rattle.text.specs.declared.Cursor.{Cursor}
use Rattle.text.specs.Text.{Writes}
use Rattle.vectors.specs.declared.Refusal as Vectors
use Rattle.std.specs.Prelude as Rust
use Rattle.vectors.specs.Told.{DotSaid, PointSaid}
use Rattle.runs.specs.declared.Outcome.{Outcome}
use Rattle.runs.specs.Outcomes.{told}
use Rattle.conditions.specs.declared.Condition.{Condition}
use Rattle.conditions.specs.Told.{CheckedSaid}
use Rattle.curves.specs.declared.Curve.{Curve}
use Rattle.curves.specs.Told.{NumberedSaid}
use Rattle.jobs.specs.Reader.{ReadSaid}
use Rattle.jobs.specs.Opening.{BeginSaid}
use Rattle.play.specs.Playing.{PlaySaid}
use Rattle.backtracking.specs.declared.Options.{Options as Trials}
use Rattle.backtracking.specs.declared.Backtracking.{Backtracking}
use Rattle.backtracking.specs.Machine as trials
use Rattle.hagerzhang_rules.specs.declared.Options.{Options}
use Rattle.hagerzhang.specs.declared.state.Search.{Search}
use Rattle.hagerzhang.specs.Machine.{Turn}
use Rattle.hagerzhang.specs.Machine.{StartSaid, AnswerSaid}
use Rattle.answers.specs.Answers.{CheckedSaid as ListSaid}
use Rattle.tables.specs.declared.Table.{Table}
use Rattle.tables.specs.Tables.{ScanSaid}

-- any two results that a relation allows are identical
abbrev pub One : {A : Type 0} → (A → Type 0) → Type 0
One {A} said = (r q : A) → said r → said q → r ≡ q

pub record Determined : Type 1 where
  pub equation : {A : Type 0} (d : A) → One (λ r. r ≡ d)
  pub dot : (a b : List Float) → One (DotSaid a b)
  pub checked : (C : Condition) → One (CheckedSaid C)
  pub numbered : (n : ℕ) → One (NumberedSaid n)
  pub read : (bytes : List ℕ) → One (ReadSaid bytes)
  pub begin : (bytes : List ℕ) → One (BeginSaid bytes)
  pub trials-start : (o : Trials) (f0 s0 : Float) → One (trials.StartSaid o f0 s0)
  pub trials-answer : (b : Backtracking) (f g : Float) → One (trials.AnswerSaid b f g)
  pub start : (o : Options) (f0 s0 : Float) → One (StartSaid o f0 s0)
  pub answer : (s : Search) (f g : Float) → One (AnswerSaid s f g)
  pub list-checked : (n : ℕ) (xs : List Float) → One (ListSaid n xs)
  pub scan : (t : Table) (xs : List Float) → One (ScanSaid t xs)
  -- with a lent buffer: its contents at exit too
  pub point : (x0 : List Float) (alpha : Float) (d held : List Float) (r q : Rust.Result Unit Vectors.Refusal)
      (now later : List Float)
      → PointSaid x0 alpha d held r now → PointSaid x0 alpha d held q later → (r ≡ q) × (now ≡ later)
  pub writing : (before : Cursor) (text : List ℕ) (after later : Cursor) → Writes before text after
      → Writes before text later → (after.buffer.now ≡ later.buffer.now) × (after.at ≡ later.at)
  pub play : (c : Curve) (from : Option Turn) (turns : ℕ) (before : Cursor) (r q : Option Turn) (a b : Cursor)
      → PlaySaid c from turns before r a → PlaySaid c from turns before q b
      → (r ≡ q) × (a.buffer.now ≡ b.buffer.now) × (a.at ≡ b.at)
  -- what is told of an outcome, by which the rules speak of it, tells it whole
  pub outcome : (r q : Outcome) → told r ≡ told q → r ≡ q
