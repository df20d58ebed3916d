-- The first and the second demand: every public call has one outcome, every table of refusals is exact, a refused call leaves everything as it was, and what the bytes say beyond the calls' promises.
use Rattle.ground.specs.Outcome.{Determined, Stated}
use Rattle.ground.specs.Claims as refusals
use Rattle.octets.specs.Claims as bytes
use Rattle.pid.specs.Claims as pids
use Rattle.section.specs.Claims as lengths
use Rattle.clock.specs.Claims as times
use Rattle.rates.specs.Claims as speeds
use Rattle.buffer.specs.Claims as arriving
use Rattle.crc_table.specs.Claims as entries
use Rattle.crc.specs.Claims as checks
use Rattle.packet.specs.Claims as packets
use Rattle.psi.specs.Claims as sections
use Rattle.pat.specs.Claims as programs
use Rattle.loops.specs.Claims as bodies
use Rattle.pmt.specs.Claims as streams
use Rattle.pes.specs.Claims as headers
use Rattle.gather.specs.Claims as gathering
use Rattle.state.specs.Claims as states
use Rattle.sound.specs.Claims as soundness
use Rattle.open_call.specs.Claims as opening
use Rattle.close_call.specs.Claims as closing
use Rattle.packet_call.specs.Claims as handling
use Rattle.driver.specs.Claims as filters
use Rattle.text.specs.Claims as texts
use Rattle.lines.specs.Claims as listed
use Rattle.pieces.specs.Claims as inputs
use Rattle.runs.specs.Promises.{DemandThreeHolds, AsNewHolds}
use Rattle.stars.specs.Stars.{EveryCase}

pub record EveryClaim : Type 0 where
  -- the refusals' names and numbers
  pub ground : refusals.Claims
  -- numbers of several bytes, a byte or 0, the lesser of two
  pub octets : bytes.Claims
  -- PIDs
  pub pid : pids.Claims
  -- section_length
  pub section : lengths.Claims
  -- stamps and clock references: read, written, read back, and their differences
  pub clock : times.Claims
  -- rates between clock references
  pub rates : speeds.Claims
  -- the transport buffer's verdict
  pub buffer : arriving.Claims
  -- CRC_32, and its table
  pub crc_table : entries.Claims
  pub crc : checks.Claims
  -- packets and their payload
  pub packet : packets.Claims
  -- what a PAT and a PMT share
  pub psi : sections.Claims
  -- PAT
  pub pat : programs.Claims
  -- PMT: its loops and the walk over them, and what is answered
  pub loops : bodies.Claims
  pub pmt : streams.Claims
  -- PES headers
  pub pes : headers.Claims
  -- from payload to sections
  pub gather : gathering.Claims
  -- the state, and what is searched in it
  pub state : states.Claims
  -- soundness
  pub sound : soundness.Claims
  -- open
  pub open_call : opening.Claims
  -- close
  pub close_call : closing.Claims
  -- the packet call
  pub packet_call : handling.Claims
  -- the three calls together
  pub driver : filters.Claims
  -- the text that a program prints
  pub text : texts.Claims
  -- the lines that the listing prints
  pub lines : listed.Claims
  -- its input, however it is cut into reads
  pub pieces : inputs.Claims
  -- the functions that state something have one answer too
  pub demand_three : Determined (Stated DemandThreeHolds)
  pub as_new : Determined (Stated AsNewHolds)
  pub every_case : Determined (Stated EveryCase)
