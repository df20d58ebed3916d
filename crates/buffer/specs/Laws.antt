-- Document 02, ticket 7: what a verdict says, and what it does not go by.
use Rattle.std.specs.Prelude.{◌≡◌, cond, List, [], ◌∷◌, ◌++◌, ◌↔◌, ℕ, suc, ◌+◌, ◌-◌, ◌*◌, ◌≤◌, ltb, length, take}
use Rattle.ground.specs.Answer.{Answer, refused, given}
use Rattle.ground.specs.Walk.{count, keep, Every}
use Rattle.buffer.specs.Verdict.{Finding, passes, overruns, lingers, told_verdict, Arrival, is_of, arrivals, Buffer, empty_buffer, left_at, arrive, is_too_late, verdict_of}
use Rattle.buffer.specs.Model.{begin_of, walked}
use Rattle.buffer.specs.Ticks.{drains, up_to, LastEmpty, FirstTo, Finds, Successive, Falls, Rises}
use Rattle.buffer.specs.Examples.{Examples}
use Rattle.buffer.specs.declared.Record.{Record}

-- the buffer after some packets
abbrev pub buffer_after : Buffer → List Arrival → Buffer
buffer_after b [] = b
buffer_after b (a ∷ more) = buffer_after (arrive b a.tick) more

-- how many packets came since the last that found the buffer empty, that one counted
abbrev pub busy_count : {packets : List Arrival} {e : Arrival} → LastEmpty packets e → ℕ
busy_count l = suc (length l.after)

-- it names the record i
abbrev pub Names : Finding → ℕ → Type 0
Names passes i = ⊥
Names (overruns k) i = k ≡ i
Names (lingers k) i = k ≡ i

-- the record i is one of the PID, and stands between these
pub record Stands (pid : ℕ) (rs : List Record) (i : ℕ) : Type 0 where
  pub front : List Record
  pub own : Record
  pub back : List Record
  pub split : rs ≡ front ++ own ∷ back
  pub place : length front ≡ i
  pub is_own : own.pid.0 ≡ pid

-- the same finding, with another index for the record that it names
abbrev pub renamed : (ℕ → ℕ) → Finding → Finding
renamed f passes = passes
renamed f (overruns i) = overruns (f i)
renamed f (lingers i) = lingers (f i)

-- and the same answer
abbrev pub retold : (ℕ → ℕ) → Answer Finding → Answer Finding
retold f (refused n) = refused n
retold f (given x) = given (renamed f x)

-- how many records of the PID stand before the record i
abbrev pub own_before : ℕ → List Record → ℕ → ℕ
own_before pid rs i = count (is_of pid) (take i rs)

-- the index of a record where k more stand behind the first n
abbrev pub moved_on : ℕ → ℕ → ℕ → ℕ
moved_on n k i = cond (ltb i n) i (i + k)

pub record BufferLaws : Type 0 where
  -- ---- "Each packet of the PID counts": its record's index, and its tick; no other does, and there are no more
  pub counts : (pid i : ℕ) (r : Record) (rs : List Record) → r.pid.0 ≡ pid → arrivals pid i (r ∷ rs) ≡ record { index = i; tick = r.tick } ∷ arrivals pid (suc i) rs
  pub skips : (pid i : ℕ) (r : Record) (rs : List Record) → (r.pid.0 ≡ pid → ⊥) → arrivals pid i (r ∷ rs) ≡ arrivals pid (suc i) rs
  pub ends : (pid i : ℕ) → arrivals pid i [] ≡ []
  -- ---- "Refusals: 70, a tick of the PID below its one before, anywhere in the list, ahead of any verdict"
  pub refused_exactly : (pid : ℕ) (rs : List Record) (n : ℕ) → (verdict_of pid rs ≡ refused n) ↔ ((n ≡ 70) × Falls (arrivals pid 0 rs))
  -- ---- "It passes exactly if ..", "The verdict names the first record that breaks a rule, and which", tick by tick
  pub given_exactly : (pid : ℕ) (rs : List Record) (f : Finding) → (verdict_of pid rs ≡ given f) ↔ (Rises (arrivals pid 0 rs) × Finds (arrivals pid 0 rs) f)
  -- the level between two packets is what so many ticks leave of it
  pub drained : (b : Buffer) (t : ℕ) → left_at b t ≡ drains b.level (t - b.tick)
  -- ---- "within 27,000,000 ticks"
  -- the level is gone 20,304 ticks for each packet since the last that found the buffer empty
  pub busy_time : (packets : List Arrival) (e : Arrival) (l : LastEmpty packets e) → Rises packets
      → (buffer_after empty_buffer packets).tick + (buffer_after empty_buffer packets).level ≡ e.tick + 20304 * busy_count l
  -- so a packet breaks the second rule where it is more than the 1,329th of them
  pub late_exactly : (packets : List Arrival) (e : Arrival) (l : LastEmpty packets e) → Rises packets
      → is_too_late (buffer_after empty_buffer packets) ≡ ltb 1329 (busy_count l)
  -- and the first to break it is the 1,330th
  pub first_to_linger : (pid : ℕ) (rs : List Record) (i : ℕ) → verdict_of pid rs ≡ given (lingers i)
      → FirstTo (λ (earlier : List Arrival) (a : Arrival). (e : Arrival) × (l : LastEmpty (up_to earlier a) e) × (busy_count l ≡ 1330)) (arrivals pid 0 rs) i
  -- ---- which record is named
  -- one of the PID; the list passes that ends before it, and is judged the same where it ends behind it
  pub named : (pid : ℕ) (rs : List Record) (f : Finding) (i : ℕ) → Names f i → verdict_of pid rs ≡ given f
      → (s : Stands pid rs i) × (verdict_of pid s.front ≡ given passes) × (verdict_of pid (s.front ++ s.own ∷ []) ≡ given f)
  -- later records don't matter, but for 70
  pub later : (pid : ℕ) (rs more : List Record) (f : Finding) (i : ℕ) → Names f i → verdict_of pid rs ≡ given f
      → (verdict_of pid (rs ++ more) ≡ refused 70 → ⊥) → verdict_of pid (rs ++ more) ≡ given f
  -- ---- "Records of other PIDs don't matter"
  -- two lists with the same packets of the PID have one verdict, and the records that they name are the same one of these
  pub others : (pid : ℕ) (xs ys : List Record) → keep (is_of pid) xs ≡ keep (is_of pid) ys
      → retold (own_before pid xs) (verdict_of pid xs) ≡ retold (own_before pid ys) (verdict_of pid ys)
  -- records of other PIDs that are put in, or left out, move the index of what stands behind them, and nothing else
  pub put_in : (pid : ℕ) (front out back : List Record) → Every (λ (r : Record). r.pid.0 ≡ pid → ⊥) out
      → verdict_of pid (front ++ out ++ back) ≡ retold (moved_on (length front) (length out)) (verdict_of pid (front ++ back))
  -- ---- spacings
  -- packets that come when the one before has drained pass
  pub apart : (pid : ℕ) (rs : List Record) → ((a b : Arrival) → Successive (arrivals pid 0 rs) a b → a.tick + 20304 ≤ b.tick) → verdict_of pid rs ≡ given passes
  -- three at one tick never do
  pub three : (pid : ℕ) (rs : List Record) (front back : List Arrival) (a b c : Arrival) → arrivals pid 0 rs ≡ front ++ a ∷ b ∷ c ∷ back
      → a.tick ≡ b.tick → b.tick ≡ c.tick → verdict_of pid rs ≡ given passes → ⊥
  -- ---- what the code keeps from record to record comes to the same verdict
  pub walk : (pid : ℕ) (rs : List Record) → told_verdict (walked (begin_of pid) 0 rs).verdict ≡ verdict_of pid rs
  -- ---- verdicts by computation
  pub examples : Examples
