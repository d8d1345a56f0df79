-- What the body of a case file's well-formed field says.
use Rattle.std.specs.Prelude.{ℕ, zero, suc, cond, List, [], ◌∷◌, eqb, drop, Float}
use Rattle.wire.specs.Wire.{byte_at, quad_of, float_of}
use Rattle.hagerzhang_rules.specs.declared.Options as hager_zhang
use Rattle.hagerzhang_rules.specs.declared.Params.{Params}
use Rattle.hagerzhang_rules.specs.declared.Bounds.{Bounds}
use Rattle.hagerzhang_rules.specs.declared.Way.{Way}
use Rattle.hagerzhang_rules.specs.declared.Way.TheVariants.{Bounded, Growing}
use Rattle.hagerzhang_rules.specs.Parameters.{bounds}
use Rattle.backtracking.specs.declared.Options as backtracking
use Rattle.conditions.specs.declared.Condition.{Condition}
use Rattle.conditions.specs.declared.Condition.TheVariants.{Armijo, Goldstein, Wolfe, StrongWolfe}
use Rattle.bodies.specs.declared.Start.{Start}
use Rattle.bodies.specs.declared.Reply.{Reply}

abbrev pub HagerZhangStart : Type 0
HagerZhangStart = Start hager_zhang.Options

abbrev pub BacktrackingStart : Type 0
BacktrackingStart = Start backtracking.Options

-- the float in the eight bytes from a place on
abbrev pub float_at : List ℕ → ℕ → Float
float_at body at = float_of (drop at body)

-- the number in the four bytes from a place on
abbrev pub quad_at : List ℕ → ℕ → ℕ
quad_at body at = quad_of (drop at body)

-- docs/FORMATS.md, 32: "delta, sigma, epsilon, theta, gamma, eta, min, max, start step, f0, s0 as floats; B and N in
-- four bytes each"; 16 begins with the same
unfoldable pub params_of : List ℕ → Params
params_of body = record {
  delta = float_at body 0;
  sigma = float_at body 8;
  epsilon = float_at body 16;
  theta = float_at body 24;
  gamma = float_at body 32;
  eta = float_at body 40;
  start = float_at body 64;
}

abbrev pub bounds_of : List ℕ → Bounds
bounds_of body = bounds (float_at body 48) (float_at body 56)

-- what both have alike, with a way and an N
unfoldable pub start_with : List ℕ → Way → ℕ → HagerZhangStart
start_with body way N = record {
  options = record { params = params_of body; way = way; budget = quad_at body 88; limit = N };
  f0 = float_at body 72;
  s0 = float_at body 80;
}

-- 32
abbrev pub hager_zhang_of : List ℕ → HagerZhangStart
hager_zhang_of body = start_with body (Bounded (bounds_of body)) (quad_at body 92)

-- 16: "the way of starting in one byte, 0 three answers, 1 growing; K in four bytes". Another byte than 0 and 1 is
-- malformed, and never comes here. Where it is growing, min and max are not read.
unfoldable pub way_of : List ℕ → Way
way_of body = cond (eqb (byte_at body 96) 0) (Bounded (bounds_of body)) (Growing (quad_at body 97))

-- "R in four bytes", which has to be 0: any other is refusal 3. No search has an R, so another one is handed on as an N
-- of 0, which no search may have, and 3 comes in its place.
unfoldable pub limit_of : List ℕ → ℕ
limit_of body = cond (eqb (quad_at body 101) 0) (quad_at body 92) 0

abbrev pub whole_of : List ℕ → HagerZhangStart
whole_of body = start_with body (way_of body) (limit_of body)

-- "1 Armijo, 2 Goldstein, 3 Wolfe, 4 strong Wolfe; c or c1; c2, not read for 1 and 2". Another byte than 1 to 4 is
-- malformed, and never comes here.
unfoldable pub condition_of : ℕ → Float → Float → Condition
condition_of kind c1 c2 =
    cond (eqb kind 1) (Armijo c1)
    (cond (eqb kind 2) (Goldstein c1)
    (cond (eqb kind 3) (Wolfe c1 c2)
    (StrongWolfe c1 c2)))

-- 33: "the condition in one byte ..; c or c1; c2 ..; rho; alpha; f0; s0; N in four bytes"
unfoldable pub backtracking_of : List ℕ → BacktrackingStart
backtracking_of body = record {
  options = record {
    condition = condition_of (byte_at body 0) (float_at body 1) (float_at body 9);
    rho = float_at body 17;
    alpha = float_at body 25;
    limit = quad_at body 49;
  };
  f0 = float_at body 33;
  s0 = float_at body 41;
}

-- 17: "cost, slope"
abbrev pub answer_of : List ℕ → Reply
answer_of body = record { cost = float_at body 0; slope = float_at body 8 }

-- k floats, one behind the other
abbrev pub floats_of : ℕ → List ℕ → List Float
floats_of zero s = []
floats_of (suc k) s = float_of s ∷ floats_of k (drop 8 s)
