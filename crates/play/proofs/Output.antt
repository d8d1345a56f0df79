-- What is written for a job is 01's text for it: a job that begins is played by the rules (`begun-plays`), its lines,
-- chunk after chunk, are the whole text once the play is over (`output-told`), there are at most 30,030,004 of them
-- (`few-lines`, `over-at-last`), and a job that does not begin has its refusal's line (`output-refused`). Assumes
-- nothing.
use mathlib.Core.Path.{◌≡◌, refl, sym, ap, ◌∙◌, subst}
use mathlib.Core.List.{List}
use mathlib.Core.Bool.{cond}
use Prim.Native.Nat.{ℕ, zero, suc, ◌+◌, ◌*◌, ◌≤◌, suc-le-suc}
use native.Mathlib.Omega.{arith}
use lib.ListN.{length}
use lib.Ieee.{Float}
use Rattle.std.specs.Prelude.{Some, None}
use Rattle.floats.proofs.Order.{finite→real}
use Rattle.refusals.specs.Results.{Result, value, refused, Row, refuse◌else◌}
use Rattle.runs.specs.Asking.{Rest, ask, end}
use Rattle.runs.proofs.Ends.{EndsWithin, at-end, at-ask}
use Rattle.refusals.proofs.Refusals.{value-given, alike}
use Rattle.hagerzhang_rules.specs.declared.Options.{Options}
use Rattle.hagerzhang_rules.specs.declared.Setup.{Setup}
use Rattle.hagerzhang_rules.specs.Parameters.{setup_of}
use Rattle.hagerzhang_rules.specs.Rules.{answer_finite, Report, hager_zhang}
use Rattle.curves.specs.Curves.{value_of, slope_of}
use Rattle.hagerzhang_rules.specs.Iterations.{most_in_start, most_in_iteration, most_ever}
use Rattle.hagerzhang_rules.proofs.Ranges.{Accepted, ever, level-finite, limit-fits, most-answers}
use Rattle.hagerzhang_rules.proofs.EndsInTime.{search-within}
use Rattle.curves.specs.declared.Curve.{Curve}
use Rattle.hagerzhang.specs.Machine.{Turn}
use Rattle.hagerzhang.specs.Machine.{fresh_of}
use Rattle.hagerzhang.proofs.Bridge.{begins-whole, first-asked}
use Rattle.lines.specs.Lines.{refused_line}
use Rattle.jobs.specs.declared.Job.{Job}
use Rattle.jobs.specs.Reader.{job_of}
use Rattle.jobs.specs.Opening.{f0_of, s0_of, setup_for, job_rows, begun_by, begin_of}
use Rattle.jobs.proofs.Begins.{Begins, begun}
use Rattle.play.specs.Telling.{Said, telling, text_of}
use Rattle.play.specs.Playing.{left_after, chunks, left_after_chunks}
use Rattle.play.specs.Output.{search_text, or_refused, job_text, output_of}
use Rattle.play.proofs.ByRules.{Fits, Stands, Matches, at-step, over-in-time, chunks-told}

-- ---- a start that no row refuses: where its search stands first
module _ (o : Options) (f0 s0 : Float) (ok : Accepted o f0 s0) where
  abbrev s : Setup
  s = setup_of o f0 s0

  most : ℕ
  most = most_in_start o + o.limit * most_in_iteration o

  at_most : most ≤ most_ever o.way
  unfolding most
  at_most = most-answers o f0 s0 ok

  pub start_fits : Fits s
  start_fits = record {
    limit = let l = limit-fits o f0 s0 ok in omega arith;
    level = finite→real s.level (level-finite o f0 s0 ok);
  }

  ends-in-time : EndsWithin answer_finite most (hager_zhang s)
  unfolding most
  ends-in-time = search-within o f0 s0 ok

  stands-first : (c : Curve) → Stands s start_fits c 0 most (fresh_of s) (hager_zhang s)
  stands-first c = record {
    same-setup = refl;
    tells = first-asked s;
    leaves = begins-whole s;
    counts = refl;
    within = ends-in-time;
    few = let m = at_most in let n = ever o.way in omega arith;
  }

-- ---- a search that ends within m answers has at most m + 1 outcomes to tell
tells-few : (c : Curve) (e m : ℕ) (r : Rest Report) → EndsWithin answer_finite m r → length (telling c e r) ≤ suc m
unfolding telling
tells-few c e m (end o) at-end = omega arith
tells-few c e (suc m) (ask k x then) (at-ask only more) =
    let f = value_of c x in
    let g = slope_of c x in
    suc-le-suc (tells-few c (e + cond (answer_finite f g) 1 0) m (then f g) (more f g))
tells-few c e zero (ask k x then) held = elim held [ ]

-- ---- a job that begins
module _ (bytes : List ℕ) (c : Curve) (t : Turn) (b : Begins bytes c t) where
  abbrev j : Job
  j = b.job

  pub begun-fits : Fits (setup_for j)
  begun-fits = start_fits j.options (f0_of j) (s0_of j) b.accepted

  abbrev pub told_by : List Said
  told_by = telling c 0 (hager_zhang (setup_for j))

  pub begun-plays : Matches (setup_for j) begun-fits c (Some t) told_by
  unfolding begun-fits
  begun-plays =
      subst (λ (u : Turn). Matches (setup_for j) begun-fits c (Some u) told_by) b.same_step
      (at-step (stands-first j.options (f0_of j) (s0_of j) b.accepted c))

  is-output : output_of bytes ≡ text_of told_by
  is-output =
      ap job_text b.is-job ∙ ap or_refused (value-given (job_rows j) (search_text j) b.passes)
      ∙ ap (λ (d : Curve). text_of (telling d 0 (hager_zhang (setup_for j)))) b.same-curve

  pub few-lines : length told_by ≤ 30030004
  few-lines =
      let o = j.options in
      let ok = b.accepted in
      let h = tells-few c 0 _ (hager_zhang (setup_for j)) (ends-in-time o (f0_of j) (s0_of j) ok) in
      let m = at_most o (f0_of j) (s0_of j) ok in
      let n : most_ever o.way ≡ 30030003 = ap most_ever b.bounded.1 in
      omega arith

module _ (bytes : List ℕ) (c : Curve) (t : Turn) (h : begin_of bytes ≡ value (c, t)) where
  abbrev b : Begins bytes c t
  b = begun bytes c t h

  -- once its play is over, what was written, chunk after chunk, is 01's text for the job
  pub output-told : (n k : ℕ) → left_after_chunks c n k (Some t) ≡ None → chunks c n k (Some t) ≡ output_of bytes
  output-told n k over =
      chunks-told (setup_for b.job) (begun-fits bytes c t b) c n k (Some t) (told_by bytes c t b)
      (begun-plays bytes c t b) over
      ∙ sym (is-output bytes c t b)

  -- and it is over after as many turns as there are lines
  pub over-at-last : (n : ℕ) → 30030004 ≤ n → left_after n c (Some t) ≡ None
  over-at-last n enough =
      let few = few-lines bytes c t b in
      over-in-time (setup_for b.job) (begun-fits bytes c t b) c n (Some t) (told_by bytes c t b)
      (begun-plays bytes c t b) (omega arith)

-- ---- one that does not
-- what is told in place of a search, where there is one
told-for : {A : Type 0} → List ℕ → Result A → Result (List ℕ)
told-for text (value a) = value text
told-for text (refused n) = refused n

refused-rows : {A : Type 0} (rows : List Row) (a : A) (text : List ℕ) (n : ℕ) → (refuse rows else a) ≡ refused n
    → (refuse rows else text) ≡ refused n
unfolding told-for
refused-rows rows a text n h =
    sym (alike (told-for text) (λ r. r) (λ m. refl) a text refl rows) ∙ ap (told-for text) h

refused-job : (a : Result Job) (n : ℕ) → begun_by a ≡ refused n → job_text a ≡ refused_line n
refused-job (value j) n h = ap or_refused (refused-rows (job_rows j) _ (search_text j) n h)
refused-job (refused m) n h = let e : m ≡ n = cc in ap refused_line e

pub output-refused : (bytes : List ℕ) (n : ℕ) → begin_of bytes ≡ refused n → output_of bytes ≡ refused_line n
output-refused bytes n h = refused-job (job_of bytes) n h
