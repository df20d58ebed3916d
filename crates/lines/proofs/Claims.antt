-- Each promise is an equation; a packet's lines fit by their law.
-- Assumes nothing.
use Rattle.ground.proofs.Outcome.{determined}
use Rattle.packet_call.specs.Packet.{told_handling, pid_of}
use Rattle.text.specs.Text.{with_bytes}
use Rattle.lines.specs.Lines.{header_line, lines_of}
use Rattle.lines.specs.Claims.{Claims}
use Rattle.lines.proofs.Room.{lines_fit}

pub claims : Claims
claims =
    record {
      writes_header = λ t. determined (with_bytes t header_line);
      writes_lines = λ t index packet answer out. determined (with_bytes t (lines_of index (pid_of packet) (told_handling answer) out));
      fit = lines_fit;
    }
