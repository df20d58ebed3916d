-- Each crate's claims are proved there.
-- Assumes nothing.
use Rattle.ground.proofs.Outcome.{stated}
use Rattle.ground.proofs.Claims as refusals
use Rattle.octets.proofs.Claims as bytes
use Rattle.pid.proofs.Claims as pids
use Rattle.section.proofs.Claims as lengths
use Rattle.clock.proofs.Claims as times
use Rattle.rates.proofs.Claims as speeds
use Rattle.buffer.proofs.Claims as arriving
use Rattle.crc_table.proofs.Claims as entries
use Rattle.crc.proofs.Claims as checks
use Rattle.packet.proofs.Claims as packets
use Rattle.psi.proofs.Claims as sections
use Rattle.pat.proofs.Claims as programs
use Rattle.loops.proofs.Claims as bodies
use Rattle.pmt.proofs.Claims as streams
use Rattle.pes.proofs.Claims as headers
use Rattle.gather.proofs.Claims as gathering
use Rattle.state.proofs.Claims as states
use Rattle.sound.proofs.Claims as soundness
use Rattle.open_call.proofs.Claims as opening
use Rattle.close_call.proofs.Claims as closing
use Rattle.packet_call.proofs.Claims as handling
use Rattle.driver.proofs.Claims as filters
use Rattle.text.proofs.Claims as texts
use Rattle.lines.proofs.Claims as listed
use Rattle.pieces.proofs.Claims as inputs
use Rattle.runs.specs.Promises.{DemandThreeHolds, AsNewHolds}
use Rattle.stars.specs.Stars.{EveryCase}
use Rattle.claims.specs.Claims.{EveryClaim}

pub every_claim : EveryClaim
every_claim =
    record {
      ground = refusals.claims;
      octets = bytes.claims;
      pid = pids.claims;
      section = lengths.claims;
      clock = times.claims;
      rates = speeds.claims;
      buffer = arriving.claims;
      crc_table = entries.claims;
      crc = checks.claims;
      packet = packets.claims;
      psi = sections.claims;
      pat = programs.claims;
      loops = bodies.claims;
      pmt = streams.claims;
      pes = headers.claims;
      gather = gathering.claims;
      state = states.claims;
      sound = soundness.claims;
      open_call = opening.claims;
      close_call = closing.claims;
      packet_call = handling.claims;
      driver = filters.claims;
      text = texts.claims;
      lines = listed.claims;
      pieces = inputs.claims;
      demand_three = stated DemandThreeHolds;
      as_new = stated AsNewHolds;
      every_case = stated EveryCase;
    }
