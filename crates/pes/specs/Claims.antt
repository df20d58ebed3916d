-- What is claimed of the definitions and the promise, and proved.
pub mod Accepted
pub mod Dsmcc
use Rattle.std.specs.Prelude.{List, ℕ}
use Rattle.ground.specs.Outcome.{Determined}
use Rattle.ground.specs.Refusal.{Exact}
use Rattle.pes.specs.Header.{pes_refusals, read_header}
use Rattle.pes.specs.Promises.{ReadsHeader}
use Rattle.pes.specs.Claims.Accepted.{EveryAccepted}
use Rattle.pes.specs.Claims.Dsmcc.{DsmccGoes}

pub record Claims : Type 0 where
  -- any two outcomes that the promise admits are equal
  pub reads_header : (s : List ℕ) → Determined (ReadsHeader s)
  -- "PES: 30 (under 6 bytes), 31, 32, 37, 30 (under 9), 33, 34, 35, 30 (under 9 + PES_header_data_length), 36", and "38, right after 32": a number is given exactly when it is the first that applies
  pub exact : (s : List ℕ) → Exact (pes_refusals s) (read_header s)
  -- what holds of every accepted header of an id with an optional header
  pub accepted : EveryAccepted
  -- "A PES packet with stream_id 0xF2 is now refused", and nothing else has changed
  pub dsmcc_goes : DsmccGoes
