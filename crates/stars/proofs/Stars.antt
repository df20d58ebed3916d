-- Every ★ case holds, since the cases of each layer do.
-- Assumes nothing.
use mathlib.Core.List.{map, ◌++◌}
use Rattle.ground.specs.Walk.{Every}
use Rattle.ground.proofs.Walk.{every_map, every_append}
use Rattle.stars.specs.Stars.{Right, cases, in_time, in_packet, in_gathering, in_filters}
use Rattle.clock.specs.Stars as time
use Rattle.packet.specs.Stars as packets
use Rattle.gather.specs.Stars as gathering
use Rattle.driver.specs.Stars as filters
use Rattle.clock.proofs.Stars as time_proved
use Rattle.packet.proofs.Stars as packets_proved
use Rattle.gather.proofs.Stars as gathering_proved
use Rattle.driver.proofs.Stars as filters_proved

pub stars : Every Right cases
stars =
    every_append Right (map in_time time.cases) (map in_packet packets.cases ++ map in_gathering gathering.cases ++ map in_filters filters.cases)
    (every_map Right in_time time.cases time_proved.stars)
    (every_append Right (map in_packet packets.cases) (map in_gathering gathering.cases ++ map in_filters filters.cases)
    (every_map Right in_packet packets.cases packets_proved.stars)
    (every_append Right (map in_gathering gathering.cases) (map in_filters filters.cases)
    (every_map Right in_gathering gathering.cases gathering_proved.stars)
    (every_map Right in_filters filters.cases filters_proved.stars)))
