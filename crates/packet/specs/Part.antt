-- Document 01, "The packet": "private data 1 + n, extension 1 + n", a length byte n and then that many bytes.
use Rattle.std.specs.Prelude.{Bool, List, ℕ, ◌+◌, get_or, Some, None}
use Rattle.std.specs.declared.option.Option.{Option}
use Rattle.std.specs.Option.{option_map}
use Rattle.ground.specs.Perhaps.{perhaps}
use Rattle.packet.specs.declared.adaptation.Part.{Part}

-- bytes of the packet: where they begin and how many they are
pub record Span : Type 0 where
  pub start : ℕ
  pub size : ℕ

-- what the part of the code says in document 01's terms
abbrev pub told_part : Option Part → Option Span
told_part = option_map (λ (p : Part). record { start = p.start; size = p.size })

-- a part with its length byte at place i: its own bytes come after that
abbrev pub part_at : List ℕ → ℕ → Bool → Option Span
part_at s i flagged = perhaps flagged (record { start = i + 1; size = get_or s i 0 })

-- "private data 1 + n, extension 1 + n"
abbrev pub part_size : Option Span → ℕ
part_size None = 0
part_size (Some part) = 1 + part.size
