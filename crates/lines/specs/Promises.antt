-- What each public call promises.
use Rattle.std.specs.Prelude.{◌≡◌, List, ℕ, Option, Result}
use Rattle.packet_call.specs.Packet.{told_handling, pid_of}
use Rattle.packet_call.specs.declared.Report.{Report}
use Rattle.ground.specs.declared.Refusal.{Refusal}
use Rattle.text.specs.Text.{Text, with_bytes}
use Rattle.lines.specs.Lines.{header_line, lines_of}

-- `header`: its outcome is every lent byte after it, and where the text ends then
abbrev pub WritesHeader : Text → Text → Type 0
WritesHeader t r = r ≡ with_bytes t header_line

-- `packet`: the same
abbrev pub WritesLines : Text → ℕ → List ℕ → Result (Option Report) Refusal → List ℕ → Text → Type 0
WritesLines t index packet answer out r = r ≡ with_bytes t (lines_of index (pid_of packet) (told_handling answer) out)
