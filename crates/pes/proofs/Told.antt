-- What a reading tells leaves nothing of it untold: each field of it is made again of what it tells.
-- Assumes nothing.
use mathlib.Core.Path.{◌≡◌, refl}
use Rattle.pes.specs.Stamps.{Times, none, pts, both, told_stamps}
use Rattle.pes.specs.Header.{Full, HeaderContents, full, bare, told_contents}
use Rattle.pes.specs.declared.stamps.Stamps.{Stamps}
use Rattle.pes.specs.declared.stamps.Stamps.TheVariants as stamps
use Rattle.pes.specs.declared.Header.{Header}
use Rattle.pes.specs.declared.Reading.{Reading}
use Rattle.pes.specs.declared.Reading.TheVariants as reading

abbrev made_stamps : Times → Stamps
made_stamps none = stamps.Absent
made_stamps (pts p) = stamps.Pts (record { 0 = p })
made_stamps (both p d) = stamps.Both (record { 0 = p }) (record { 0 = d })

back_stamps : (x : Stamps) → made_stamps (told_stamps x) ≡ x
back_stamps stamps.Absent = refl
back_stamps (stamps.Pts p) = refl
back_stamps (stamps.Both p d) = refl

abbrev made_header : Full → Header
made_header h =
    record {
      stream_id = h.stream_id;
      packet_length = h.packet_length;
      header_length = h.header_length;
      stamps = made_stamps h.stamps;
      escr = h.escr;
      rate = h.rate;
      trick = h.trick;
      copy = h.copy;
      crc = h.crc;
      extension = h.extension;
    }

abbrev pub contents_made : HeaderContents → Reading
contents_made (full h) = reading.Full (made_header h)
contents_made (bare id size) = reading.Bare id size

pub back_contents : (r : Reading) → contents_made (told_contents r) ≡ r
back_contents (reading.Full h) = rw (back_stamps h.stamps)
back_contents (reading.Bare id size) = refl
