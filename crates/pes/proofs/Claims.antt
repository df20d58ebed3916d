-- Nothing of a reading is left untold, the table is exact as every table is, an accepted header passed it, and one row makes the difference to document 01's.
-- Assumes nothing.
use Rattle.ground.proofs.Judged.{exact}
use Rattle.ground.proofs.Told.{determined_answer}
use Rattle.pes.specs.Header.{told_contents, header_contents, pes_refusals, read_header}
use Rattle.pes.specs.Claims.{Claims}
use Rattle.pes.proofs.Accepted.{accepted}
use Rattle.pes.proofs.Dsmcc.{dsmcc_goes}
use Rattle.pes.proofs.Told.{contents_made, back_contents}

pub claims : Claims
claims =
    record {
      reads_header = λ s. determined_answer told_contents contents_made back_contents (read_header s);
      exact = λ s. exact (pes_refusals s) (header_contents s);
      accepted = accepted;
      dsmcc_goes = dsmcc_goes;
    }
