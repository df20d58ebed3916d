-- Document 02, ticket 7; H.222.0 2.4.2.3 and 2.4.2.6: the verdict of the transport buffer on the packets of a PID.
use Rattle.std.specs.Prelude.{Bool, false, cond, ◌||◌, List, [], ◌∷◌, ℕ, suc, ◌+◌, ◌-◌, ltb, eqb}
use Rattle.std.specs.declared.result.Result.{Result}
use Rattle.ground.specs.Told.{told}
use Rattle.ground.specs.declared.Refusal.{Refusal}
use Rattle.ground.specs.Answer.{Answer, refused, given}
use Rattle.ground.specs.Refusal.{Row, judge, ◌when◌}
use Rattle.buffer.specs.declared.Record.{Record}
use Rattle.buffer.specs.declared.Verdict.{Verdict}
use Rattle.buffer.specs.declared.Verdict.TheVariants as verdict

-- "The verdict names the first record that breaks a rule, and which"
pub data Finding : Type 0 where
  passes : Finding
  overruns : ℕ → Finding
  lingers : ℕ → Finding

-- what a verdict says in document 02's terms
abbrev pub finding_of : Verdict → Finding
finding_of verdict.Passes = passes
finding_of (verdict.Overruns i) = overruns i
finding_of (verdict.Lingers i) = lingers i

-- what the calls say
abbrev pub told_verdict : Result Verdict Refusal → Answer Finding
told_verdict = told finding_of

-- ---- the packets
-- a packet of the PID: its record's index in the lent list, and its tick
pub record Arrival : Type 0 where
  pub index : ℕ
  pub tick : ℕ

-- a record of the PID
abbrev pub is_of : ℕ → Record → Bool
is_of pid r = eqb r.pid.0 pid

-- "Records of other PIDs don't matter": the packets of the PID, where the first record has the index i
abbrev pub arrivals : ℕ → ℕ → List Record → List Arrival
arrivals pid i [] = []
arrivals pid i (r ∷ rs) = cond (is_of pid r) (record { index = i; tick = r.tick } ∷ arrivals pid (suc i) rs) (arrivals pid (suc i) rs)

-- ---- the buffer
-- as a packet leaves it: the packet's tick, the level in 108ths of a byte, and "the tick of the last packet that found the buffer empty"
pub record Buffer : Type 0 where
  pub tick : ℕ
  pub level : ℕ
  pub since : ℕ

-- "The buffer starts empty"
abbrev pub empty_buffer : Buffer
empty_buffer = record { tick = 0; level = 0; since = 0 }

-- "draining at 2,000,000 bit/s, which is one byte in 108 ticks": what is left of the level at a tick
abbrev pub left_at : Buffer → ℕ → ℕ
left_at b t = b.level - (t - b.tick)

-- "Each packet of the PID counts as 188 bytes arriving at its tick": 188 · 108 = 20,304
abbrev pub arrive : Buffer → ℕ → Buffer
arrive b t = record { tick = t; level = left_at b t + 20304; since = cond (eqb (left_at b t) 0) t b.since }

-- ---- the rules
-- "the level, in 108ths of a byte, never passes 55,296": 512 · 108 = 55,296
abbrev pub is_too_high : Buffer → Bool
is_too_high b = ltb 55296 b.level

-- "no packet leaves a level that, from the tick of the last packet that found the buffer empty, can't drain within 27,000,000 ticks": it is drained at the tick and the level together
abbrev pub is_too_late : Buffer → Bool
is_too_late b = ltb 27000000 (b.tick + b.level - b.since)

-- "the first record that breaks a rule .. the level comes first if both"; "An empty list passes"
abbrev pub first_break : Buffer → List Arrival → Finding
first_break b [] = passes
first_break b (a ∷ more) =
    cond (is_too_high (arrive b a.tick)) (overruns a.index)
    (cond (is_too_late (arrive b a.tick)) (lingers a.index) (first_break (arrive b a.tick) more))

-- "a tick of the PID below its one before", the one before the first packet being t
abbrev pub goes_back : ℕ → List Arrival → Bool
goes_back t [] = false
goes_back t (a ∷ more) = ltb a.tick t || goes_back a.tick more

-- "70, a tick of the PID below its one before, anywhere in the list, ahead of any verdict": no tick is below 0
abbrev pub verdict_refusals : ℕ → List Record → List Row
verdict_refusals pid rs = (70 when goes_back 0 (arrivals pid 0 rs)) ∷ []

abbrev pub verdict_of : ℕ → List Record → Answer Finding
verdict_of pid rs = judge refused (verdict_refusals pid rs) (given (first_break empty_buffer (arrivals pid 0 rs)))
