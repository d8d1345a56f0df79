-- What a finite answer leads to, in the start or in an iteration. Bookkeeping.
use Rattle.std.specs.Prelude.{Float, None, Ok, Err}
use Rattle.std.specs.Prelude as Rust
use Rattle.refusals.specs.declared.Refusal.{Refusal}
use Rattle.runs.specs.declared.Outcome.TheVariants.{Refused}
use Rattle.runs.specs.Counters.{iterations}
use Rattle.hagerzhang_rules.specs.declared.Setup.{Setup}
use Rattle.hagerzhang_steps.specs.declared.state.Waiting.{Waiting}
use Rattle.hagerzhang_steps.specs.declared.state.Waiting.TheVariants.{Starting, Running}
use Rattle.hagerzhang_steps.specs.declared.state.Next.{Next}
use Rattle.hagerzhang_steps.specs.declared.opening.Opened.{Opened}
use Rattle.hagerzhang_steps.specs.declared.opening.Opened.TheVariants.{More, Done}
use Rattle.hagerzhang_steps.specs.State.{asks_of, ended_of}
use Rattle.hagerzhang_steps.specs.Moves.{settled_of}
use Rattle.hagerzhang_steps.specs.Iteration.{running_of}
use Rattle.hagerzhang_steps.specs.Opening.{opens_of}

-- what an answer of the start leads to
unfoldable pub starts_of : Setup → Rust.Result Opened Refusal → Next
starts_of s (Ok (More w x)) = asks_of (Starting w) x
starts_of s (Ok (Done w c)) = settled_of s w c (iterations 0)
starts_of s (Err r) = ended_of None (Refused r)

unfoldable pub react_of : Setup → Waiting → Float → Float → Next
react_of s (Starting w) f g = starts_of s (opens_of s w f g)
react_of s (Running t last asked) f g = running_of s last t asked f g
