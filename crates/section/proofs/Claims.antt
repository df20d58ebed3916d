-- A promise that is an equation leaves one outcome.
-- Assumes nothing.
use lib.ListN.{drop}
use Rattle.ground.proofs.Outcome.{determined}
use Rattle.section.specs.Section.{table_of, length_field, section_size}
use Rattle.section.specs.Claims.{Claims}

pub claims : Claims
claims =
    record {
      says_length = λ second third. determined (length_field second third);
      says_table = λ bytes place. determined (table_of (drop place bytes));
      says_size = λ bytes place. determined (section_size (drop place bytes));
    }
