-- Request 10 of document 02, "How many sections can one packet start?": what is claimed of the count.
use Rattle.std.specs.Prelude.{◌≡◌, true, false, List, [], ℕ, ◌+◌, ◌≤◌, length, drop}
use Rattle.ground.specs.House.{payload_bytes}
use Rattle.gather.specs.declared.kind.Kind.TheVariants.{Nothing, Part, Overlong, Whole}
use Rattle.gather.specs.Kind.{classify, contradicting}
use Rattle.gather.specs.Rule.{State, blank, Packet, Outcome, unfinished, walk, begun_in, rule}
use Rattle.gather.specs.Sum.{AddsUp}
use Rattle.gather.specs.Run.{run}
use Rattle.gather.specs.Examples.{Counted}

-- "all but the held terms are 0", and what was held still is
pub record CountsNone (s : State) (o : Outcome) : Type 0 where
  pub begun : o.begun ≡ 0
  pub sections : o.sections ≡ []
  pub given_up : o.given_up ≡ 0
  pub held : o.next.held ≡ s.held

pub record BegunHolds : Type 0 where
  -- "how many times a byte was taken as a table_id", by what stands first in some bytes: no byte where they end or 0xFF stands, else one, and after a whole section those of the rest
  pub at_nothing : (s : List ℕ) → classify s ≡ Nothing → begun_in s ≡ 0
  pub at_part : (s : List ℕ) → classify s ≡ Part → begun_in s ≡ 1
  pub at_overlong : (s : List ℕ) → classify s ≡ Overlong → begun_in s ≡ 1
  pub at_whole : (s : List ℕ) (n : ℕ) → classify s ≡ Whole n → begun_in s ≡ 1 + begun_in (drop n s)
  -- as many sections as some bytes begin are finished, given up or held
  pub each : (s : List ℕ) → begun_in s ≡ length (walk s).sections + (walk s).given_up + unfinished (walk s).held
  -- unit start 0 begins none
  pub unstarted : (s : State) (p : Packet) → p.start ≡ false → (rule s p).begun ≡ 0
  -- of every packet the counts add up, where the held bytes do not contradict themselves
  pub adds_up : (s : State) (p : Packet) → contradicting s.held ≡ false
      → let o = rule s p in
      AddsUp o.begun (length s.held) (length o.sections) o.given_up (length o.next.held)
  -- "it is at most 61"
  pub most : (s : State) (p : Packet) → length p.payload ≤ payload_bytes → (rule s p).begun ≤ 61
  -- "This holds for repeats too, where all but the held terms are 0", and for packets without payload
  pub repeat : (s : State) (p : Packet) → (rule s p).repeat ≡ true → CountsNone s (rule s p)
  pub without : (s : State) (p : Packet) → p.payload ≡ [] → CountsNone s (rule s p)
  -- of packets one after the other the counts add up too; from a blank area on all that were begun are all finished, all given up, and one more where bytes are held
  pub packets : (s : State) (ps : List Packet) → contradicting s.held ≡ false
      → let r = run s ps in
      AddsUp r.begun (length s.held) (length r.sections) r.given_up (length r.next.held)
  pub from_blank : (ps : List Packet) → let r = run blank ps in r.begun ≡ length r.sections + r.given_up + unfinished r.next.held
  -- 61 are reached, all of them whole, and with the last one held
  pub counted : Counted
