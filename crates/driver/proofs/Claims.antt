-- What is claimed of the calls together are laws of them.
-- Assumes nothing.
use Rattle.driver.specs.Claims.{Claims}
use Rattle.driver.proofs.Limits.{packet_limits}
use Rattle.driver.proofs.Accounts.{packet_accounted}
use Rattle.driver.proofs.Choices.{packet_listed, joined_set, nobody_else}
use Rattle.driver.proofs.StaysSound.{fresh_sound, open_sound, close_sound, packet_sound, packet_own_area}

pub claims : Claims
claims =
    record {
      limits = packet_limits;
      accounted = packet_accounted;
      listed = packet_listed;
      joined = joined_set;
      nobody_else = nobody_else;
      sound_fresh = fresh_sound;
      sound_open = open_sound;
      sound_close = close_sound;
      sound_packet = packet_sound;
      only_area = packet_own_area;
    }
