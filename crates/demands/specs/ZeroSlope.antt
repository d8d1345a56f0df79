-- 02, request 4, "Zero slope at an end", of every search that `start` gave and every list of answers: it tells, holds
-- and awaits what the former search does, unless that one is ended by refusal 5 at S4's step. The former search, that
-- place (`Parts`) and what the request changes stand in hagerzhang_rules/specs/ZeroSlope.antt. That the search follows
-- the mended rule at any answers is demand 2.
use Rattle.std.specs.Prelude.{◌≡◌, List, ◌⊎◌, Float}
use Rattle.runs.specs.Asking.{Reply, reported, awaits, outcomes, after}
use Rattle.hagerzhang_rules.specs.declared.Options.{Options}
use Rattle.hagerzhang_rules.specs.declared.Setup.{Setup}
use Rattle.hagerzhang_rules.specs.Parameters.{setup_of}
use Rattle.hagerzhang_rules.specs.Rules.{hager_zhang}
use Rattle.hagerzhang_rules.specs.ZeroSlope.{formerly, marked, Parts}
use Rattle.hagerzhang.specs.Machine.{Turn}
use Rattle.hagerzhang.specs.Machine.{awaited_of}
use Rattle.hagerzhang.specs.Meaning.{report}
use Rattle.demands.specs.Runs.{Gave, reached_by, told_by}

-- at these answers the search t is the former one for the setup s
pub record AsBefore (s : Setup) (t : Turn) (ys : List Reply) : Type 0 where
  pub tells : told_by t.search ys ≡ outcomes (formerly s) ys
  pub holds : report (reached_by t.search ys) ≡ reported (after (formerly s) ys)
  pub expects : awaited_of (reached_by t.search ys) ≡ awaits (after (formerly s) ys)

pub record ZeroSlope : Type 0 where
  pub served-as-before : (o : Options) (f0 s0 : Float) (t : Turn) → Gave o f0 s0 t → (ys : List Reply)
      → let s = setup_of o f0 s0 in AsBefore s t ys ⊎ Parts (hager_zhang s) (formerly s) (marked s) ys
