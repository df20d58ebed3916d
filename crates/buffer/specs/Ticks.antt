-- The rules of document 02, ticket 7, tick by tick: no level is computed here over more than one tick, and each packet is judged by those before it.
use Rattle.std.specs.Prelude.{◌≡◌, List, [], ◌∷◌, ◌++◌, map, ℕ, zero, suc, ◌+◌, ◌*◌, ◌≤◌, ◌<◌, eqb}
use Rattle.ground.specs.Walk.{count}
use Rattle.buffer.specs.Verdict.{Finding, passes, overruns, lingers, Arrival}

-- ---- the level
-- a tick takes a 108th of a byte, if there is one
abbrev pub after_tick : ℕ → ℕ
after_tick zero = zero
after_tick (suc level) = level

-- so many ticks
abbrev pub drains : ℕ → ℕ → ℕ
drains level zero = level
drains level (suc ticks) = after_tick (drains level ticks)

-- of packets that come at these ticks: the level at a tick, once the packets of that tick have come
abbrev pub level_at : List ℕ → ℕ → ℕ
level_at ticks zero = 20304 * count (eqb zero) ticks
level_at ticks (suc t) = after_tick (level_at ticks t) + 20304 * count (eqb (suc t)) ticks

-- ---- a packet, and those of the PID that came before it
abbrev pub up_to : List Arrival → Arrival → List Arrival
up_to earlier a = earlier ++ a ∷ []

abbrev pub ticks_of : List Arrival → List ℕ
ticks_of packets = map (λ (a : Arrival). a.tick) packets

-- the level that it finds
abbrev pub found_by : List Arrival → Arrival → ℕ
found_by earlier a = level_at (ticks_of earlier) a.tick

-- the level that it leaves
abbrev pub left_by : List Arrival → Arrival → ℕ
left_by earlier a = level_at (ticks_of (up_to earlier a)) a.tick

-- P holds of each of some packets and those before it, where `earlier` came before them all
abbrev pub Along : (List Arrival → Arrival → Type 0) → List Arrival → List Arrival → Type 0
Along P earlier [] = Unit {0}
Along P earlier (a ∷ more) = P earlier a × Along P (up_to earlier a) more

-- ---- the rules
-- "the last packet that found the buffer empty": e is that of these packets, and each after it found something
pub record LastEmpty (packets : List Arrival) (e : Arrival) : Type 0 where
  pub before : List Arrival
  pub after : List Arrival
  pub split : packets ≡ before ++ e ∷ after
  pub empty : found_by before e ≡ 0
  pub busy : Along (λ (earlier : List Arrival) (a : Arrival). 0 < found_by earlier a) (up_to before e) after

-- what is left, of the packets up to a, 27,000,000 ticks after the last that found the buffer empty
pub record AtTheEnd (earlier : List Arrival) (a : Arrival) (level : ℕ) : Type 0 where
  pub packet : Arrival
  pub last : LastEmpty (up_to earlier a) packet
  pub left : level_at (ticks_of (up_to earlier a)) (packet.tick + 27000000) ≡ level

-- "the level .. never passes 55,296"; "no packet leaves a level that .. can't drain within 27,000,000 ticks"
pub record KeepsRules (earlier : List Arrival) (a : Arrival) : Type 0 where
  pub low : left_by earlier a ≤ 55296
  pub drained : AtTheEnd earlier a 0

-- it breaks the first rule
abbrev pub TooHigh : List Arrival → Arrival → Type 0
TooHigh earlier a = 55296 < left_by earlier a

-- it breaks the second rule and not the first: "the level comes first if both"
pub record TooLate (earlier : List Arrival) (a : Arrival) : Type 0 where
  pub low : left_by earlier a ≤ 55296
  pub rest : ℕ
  pub left : AtTheEnd earlier a (suc rest)

-- ---- the verdict
-- the record i is the packet's that breaks a rule in this way, and all before it keep both
pub record FirstTo (Breaks : List Arrival → Arrival → Type 0) (packets : List Arrival) (i : ℕ) : Type 0 where
  pub earlier : List Arrival
  pub packet : Arrival
  pub later : List Arrival
  pub split : packets ≡ earlier ++ packet ∷ later
  pub index : packet.index ≡ i
  pub kept : Along KeepsRules [] earlier
  pub breaks : Breaks earlier packet

-- "It passes exactly if ..": every packet keeps both rules. "The verdict names the first record that breaks a rule, and which"
abbrev pub Finds : List Arrival → Finding → Type 0
Finds packets passes = Along KeepsRules [] packets
Finds packets (overruns i) = FirstTo TooHigh packets i
Finds packets (lingers i) = FirstTo TooLate packets i

-- ---- "a tick of the PID below its one before"
-- b is the packet right after a
pub record Successive (packets : List Arrival) (a b : Arrival) : Type 0 where
  pub front : List Arrival
  pub back : List Arrival
  pub split : packets ≡ front ++ a ∷ b ∷ back

abbrev pub Falls : List Arrival → Type 0
Falls packets = (a : Arrival) × (b : Arrival) × Successive packets a b × (b.tick < a.tick)

abbrev pub Rises : List Arrival → Type 0
Rises packets = (a b : Arrival) → Successive packets a b → a.tick ≤ b.tick
