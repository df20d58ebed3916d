-- Document 01, "Examples (★ to be proved)": all ★ cases, by layer. Each layer's cases, with what they claim, stand in its own Stars.antt.
use Rattle.std.specs.Prelude.{List, ◌++◌, map}
use Rattle.ground.specs.Walk.{Every}
use Rattle.clock.specs.Stars as time
use Rattle.packet.specs.Stars as packets
use Rattle.gather.specs.Stars as gathering
use Rattle.driver.specs.Stars as filters

pub data Case : Type 0 where
  -- stamps, clock references and differences
  in_time : time.Case → Case
  -- a packet read alone
  in_packet : packets.Case → Case
  -- from payload to sections
  in_gathering : gathering.Case → Case
  -- open and the packet call
  in_filters : filters.Case → Case

-- what a case claims of the definitions
abbrev pub Right : Case → Type 0
Right (in_time c) = time.Right c
Right (in_packet c) = packets.Right c
Right (in_gathering c) = gathering.Right c
Right (in_filters c) = filters.Right c

abbrev pub cases : List Case
cases =
    -- "stamp 0 .. 90,000 .. 2^33 − 1", "reference 27,000,000 .. largest .. refusal 8", "stamp 0 less 2^33 − 1 .. 2^32 less 0"
    map in_time time.cases
    -- "control 11 .. ★ length 183: refusal 7"
    ++ map in_packet packets.cases
    -- "control 11, length 182, unit start", "control 01, pointer 183", "pointer 182, last byte 0x80: one byte held"
    ++ map in_gathering gathering.cases
    -- "eight PIDs held", and the two refusals 11 and the one byte held as the packet call gives them
    ++ map in_filters filters.cases

-- each of them is right
abbrev pub EveryCase : Type 0
EveryCase = Every Right cases
