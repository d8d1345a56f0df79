-- What a program's standard input and output may do. A system call's answer is not determined; what follows from it is.
use Rattle.std.specs.Prelude.{ℕ, ◌+◌, ◌<◌, ◌≤◌, min, ◌≡◌, false, cond, ltb, Option, Some, None, Result, Ok, Err}
use Rattle.streams.specs.declared.Sent.{Sent}
use Rattle.streams.specs.declared.Lost.{Lost}

abbrev pub nothing_sent : Sent
nothing_sent = record { bytes = 0; lost = false }

-- n bytes more, as far as 64 bits count
abbrev pub counted : ℕ → ℕ → ℕ
counted bytes n = min (bytes + n) 18446744073709551615

-- n bytes were to be written, and `done` of them were taken before a write failed: a loss, where they are fewer. After
-- a loss nothing is written.
abbrev pub sent_of : Sent → ℕ → ℕ → Sent
sent_of sent n done = cond sent.lost sent (record { bytes = counted sent.bytes done; lost = ltb done n })

-- what the system decides is `done`, and nothing else
pub record Sends (sent : Sent) (n : ℕ) (r : Sent) : Type 0 where
  pub done : ℕ
  pub at_most : done ≤ n
  pub comes-to : r ≡ sent_of sent n done

-- a read into n bytes: some of them, at most all; or the end; or it fails
abbrev pub Receives : ℕ → Result (Option ℕ) Lost → Type 0
Receives n (Ok (Some k)) = (0 < k) × (k ≤ n)
Receives n (Ok None) = Unit {0}
Receives n (Err lost) = Unit {0}

-- reads until n bytes are there or the input ends, or one fails
abbrev pub Fills : ℕ → Result ℕ Lost → Type 0
Fills n (Ok k) = k ≤ n
Fills n (Err lost) = Unit {0}
