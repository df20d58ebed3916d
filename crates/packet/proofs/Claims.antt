-- Nothing of an outcome is left untold, the table is exact as every table is, and an accepted packet passed it.
-- Assumes nothing.
use Rattle.ground.proofs.Judged.{exact}
use Rattle.ground.proofs.Outcome.{determined}
use Rattle.ground.proofs.Told.{determined_answer}
use Rattle.packet.specs.Packet.{told_packet, packet_refusals, contents, read_packet}
use Rattle.packet.specs.Payload.{start_after, payload_part}
use Rattle.packet.specs.Claims.{Claims}
use Rattle.packet.proofs.Accepted.{accepted, nothing_lost}
use Rattle.packet.proofs.ReadBack.{read_back, as_before}
use Rattle.packet.proofs.Told.{packet_made, back_packet}

pub claims : Claims
claims =
    record {
      reads_packet = λ s. determined_answer told_packet packet_made back_packet (read_packet s);
      finds_payload_start = λ p. determined (start_after (told_packet p).field.size);
      gives_payload = λ l. determined (payload_part l);
      exact = λ s. exact (packet_refusals s) (contents s);
      accepted = accepted;
      nothing_lost = nothing_lost;
      read_back = read_back;
      as_before = as_before;
    }
