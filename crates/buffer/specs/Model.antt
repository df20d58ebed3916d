-- What `step` keeps from record to record: the buffer without the tick of the last packet that found it empty, and instead how many have come since; and the verdict so far.
use Rattle.std.specs.Prelude.{Bool, true, false, cond, not, List, [], ◌∷◌, ℕ, suc, ◌+◌, ◌-◌, ltb, eqb, Ok, Err}
use Rattle.std.specs.declared.result.Result.{Result}
use Rattle.ground.specs.declared.Refusal.{Refusal}
use Rattle.ground.specs.declared.Refusal.TheVariants as refusal
use Rattle.buffer.specs.declared.Record.{Record}
use Rattle.buffer.specs.declared.Verdict.{Verdict}
use Rattle.buffer.specs.declared.Verdict.TheVariants as verdict
use Rattle.buffer.specs.declared.model.Judging.{Judging}

-- before any record
abbrev pub begin_of : ℕ → Judging
begin_of pid = record { pid = pid; last = 0; level = 0; busy = 0; verdict = Ok verdict.Passes }

-- what is left of the level at a tick
abbrev pub left_of : Judging → ℕ → ℕ
left_of j t = j.level - (t - j.last)

-- how many packets have come since the buffer was found empty, with one that finds this level left
abbrev pub busy_with : ℕ → ℕ → ℕ
busy_with left busy = cond (eqb left 0) 1 (suc busy)

-- a packet after which the verdict is settled
abbrev pub moved : Judging → ℕ → Result Verdict Refusal → Judging
moved j t v = record { pid = j.pid; last = t; level = j.level; busy = j.busy; verdict = v }

-- one that breaks no rule
abbrev pub filled : Judging → ℕ → Judging
filled j t = record { pid = j.pid; last = t; level = left_of j t + 20304; busy = busy_with (left_of j t) j.busy; verdict = Ok verdict.Passes }

-- a packet, none before it having broken a rule
unfoldable pub arrived_at : Judging → ℕ → ℕ → Judging
arrived_at j i t =
    cond (ltb 55296 (left_of j t + 20304)) (moved j t (Ok (verdict.Overruns i)))
    (cond (ltb 1329 (busy_with (left_of j t) j.busy)) (moved j t (Ok (verdict.Lingers i))) (filled j t))

-- a record has broken a rule, or a tick is below its one before
abbrev pub is_settled : Result Verdict Refusal → Bool
is_settled (Ok verdict.Passes) = false
is_settled (Ok (verdict.Overruns k)) = true
is_settled (Ok (verdict.Lingers k)) = true
is_settled (Err e) = true

-- a packet, after others
abbrev pub came_after : Judging → ℕ → ℕ → Result Verdict Refusal → Judging
came_after j i t v = cond (is_settled v) (moved j t v) (arrived_at j i t)

-- the record with the index i
unfoldable pub step_of : Judging → ℕ → ℕ → ℕ → Judging
step_of j i t pid =
    cond (not (eqb pid j.pid)) j (cond (ltb t j.last) (moved j t (Err refusal.TickOrder)) (came_after j i t j.verdict))

-- the records from the index i on, one after the other
unfoldable pub walked : Judging → ℕ → List Record → Judging
walked j i [] = j
walked j i (r ∷ rs) = walked (step_of j i r.tick r.pid.0) (suc i) rs
