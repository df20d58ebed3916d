-- Verdicts by computation: the examples of request 7.
use Rattle.std.specs.Prelude.{◌≡◌, List, [], ◌∷◌, ◌++◌, map, ℕ, zero, suc, ◌+◌, ◌-◌, ◌*◌, ◌^◌}
use Rattle.ground.specs.Answer.{Answer, refused, given}
use Rattle.ground.specs.Walk.{Every}
use Rattle.buffer.specs.Verdict.{Finding, passes, overruns, lingers, verdict_of}
use Rattle.buffer.specs.declared.Record.{Record}

-- a record of a PID at a tick
abbrev pub came : ℕ → ℕ → Record
came pid t = record { tick = t; pid = record { 0 = pid } }

-- records of a PID from a tick on, so far apart and so many
abbrev pub evenly : ℕ → ℕ → ℕ → ℕ → List Record
evenly pid t step zero = []
evenly pid t step (suc n) = came pid t ∷ evenly pid (t + step) step n

-- the verdict on some records, for a PID
pub record Example : Type 0 where
  pub records : List Record
  pub pid : ℕ
  pub answer : Answer Finding

infix 20 ◌for◌is◌
abbrev pub ◌for◌is◌ : List Record → ℕ → Answer Finding → Example
records for pid is answer = record { records = records; pid = pid; answer = answer }

abbrev pub verdict_examples : List Example
verdict_examples =
    ([] for 5 is given passes)
    ∷ (map (came 6) (9 ∷ 8 ∷ []) for 5 is given passes)
    ∷ (map (came 5) (0 ∷ 0 ∷ []) for 5 is given passes)
    ∷ (map (came 5) (0 ∷ 0 ∷ 0 ∷ []) for 5 is given (overruns 2))
    -- a level of 55,297, and of 55,296
    ∷ (map (came 5) (0 ∷ 0 ∷ 5615 ∷ []) for 5 is given (overruns 2))
    ∷ (map (came 5) (0 ∷ 0 ∷ 5616 ∷ []) for 5 is given passes)
    ∷ (map (came 5) (0 ∷ 2808 ∷ 5616 ∷ 8424 ∷ []) for 5 is given (overruns 3))
    -- idle time makes no room
    ∷ (map (came 5) (0 ∷ 100000 ∷ 100000 ∷ 100000 ∷ []) for 5 is given (overruns 3))
    -- a busy time of 1,329 packets, of more, and one in which the 1,330th breaks both rules
    ∷ (evenly 5 0 20303 1329 for 5 is given passes)
    ∷ (evenly 5 0 20303 1331 for 5 is given (lingers 1329))
    ∷ (evenly 5 0 20303 1328 ++ evenly 5 (1327 * 20303) 0 2 for 5 is given (overruns 1329))
    ∷ (evenly 5 0 20304 2048 for 5 is given passes)
    -- the last ticks
    ∷ (evenly 5 (2 ^ 64 - 1) 0 2 for 5 is given passes)
    ∷ (evenly 5 (2 ^ 64 - 1) 0 3 for 5 is given (overruns 2))
    ∷ (map (came 5) (0 ∷ (2 ^ 64 - 1) ∷ []) for 5 is given passes)
    -- a tick below the one before, behind a record that breaks a rule
    ∷ (map (came 5) (0 ∷ 0 ∷ 0 ∷ 9 ∷ 8 ∷ []) for 5 is refused 70)
    -- other PIDs
    ∷ (came 5 9 ∷ came 6 8 ∷ came 5 9 ∷ [] for 5 is given passes)
    ∷ (came 6 9 ∷ came 5 0 ∷ came 6 0 ∷ came 5 0 ∷ came 5 0 ∷ [] for 5 is given (overruns 4))
    -- any number is a PID
    ∷ (evenly 0x1FFF 0 0 3 for 0x1FFF is given (overruns 2))
    ∷ (evenly 65535 0 0 3 for 65535 is given (overruns 2))
    ∷ []

abbrev pub Examples : Type 0
Examples = Every (λ (x : Example). verdict_of x.pid x.records ≡ x.answer) verdict_examples
