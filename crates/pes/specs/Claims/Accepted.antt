-- Document 01, "PES headers" and "Numbers of the house": what holds of every accepted header of an id with an optional header.
use Rattle.std.specs.Prelude.{◌≡◌, List, ℕ, ◌+◌, ◌≤◌, ◌<◌, length}
use Rattle.ground.specs.Answer.{given}
use Rattle.clock.specs.Range.{stamp_turn}
use Rattle.pes.specs.Stamps.{Times, none, pts, both}
use Rattle.pes.specs.Header.{Full, full, read_header}

-- "Stamp: 0 to 2^33 − 1"
abbrev pub InRange : Times → Type 0
InRange none = Unit {0}
InRange (pts p) = p < stamp_turn
InRange (both p d) = (p < stamp_turn) × (d < stamp_turn)

-- of bytes s that read as the header h
pub record Accepted (s : List ℕ) (h : Full) : Type 0 where
  -- the whole header is there
  pub whole : 9 + h.header_length ≤ length s
  -- and the packet says that it is
  pub counted : (h.packet_length ≡ 0 → ⊥) → 3 + h.header_length ≤ h.packet_length
  -- a header with both stamps is at least 19 bytes
  pub long : (p d : ℕ) → h.stamps ≡ both p d → 19 ≤ length s
  -- the stamps are in range
  pub in_range : InRange h.stamps

-- every such header
abbrev pub EveryAccepted : Type 0
EveryAccepted = (s : List ℕ) (h : Full) → read_header s ≡ given (full h) → Accepted s h
