-- What is claimed of the definitions and the promises, and proved.
use Rattle.std.specs.Prelude.{List, ℕ, ◌≤◌, length, Option, Result}
use Rattle.ground.specs.Outcome.{Determined}
use Rattle.packet_call.specs.Packet.{pid_of, packet_of}
use Rattle.state.specs.declared.State.{State}
use Rattle.packet_call.specs.declared.Report.{Report}
use Rattle.ground.specs.declared.Refusal.{Refusal}
use Rattle.text.specs.Text.{Text}
use Rattle.lines.specs.Lines.{lines_of, most}
use Rattle.lines.specs.Promises.{WritesHeader, WritesLines}

pub record Claims : Type 0 where
  -- any two outcomes that a promise admits are equal
  pub writes_header : (t : Text) → Determined (WritesHeader t)
  pub writes_lines : (t : Text) (index : ℕ) (packet : List ℕ) (answer : Result (Option Report) Refusal) (out : List ℕ) → Determined (WritesLines t index packet answer out)
  -- a packet's lines are never longer than this
  pub fit : (s : State) (p store out sets : List ℕ) (index : ℕ)
      → let a = packet_of s p store out sets in length (lines_of index (pid_of p) a.answer a.out) ≤ most
