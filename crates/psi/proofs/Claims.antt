-- Nothing of an answer is left untold, and the table is exact as every table is.
-- Assumes nothing.
use mathlib.Core.Path.{refl}
use Rattle.ground.proofs.Judged.{exact}
use Rattle.ground.proofs.Outcome.{determined_told}
use Rattle.ground.proofs.Told.{determined_answer}
use Rattle.psi.specs.Answers.{Heading, told_head}
use Rattle.psi.specs.Refusals.{shared, verdict_of}
use Rattle.psi.specs.Claims.{Claims}
use Rattle.psi.specs.declared.Head.{Head}

-- the head that says what was told
abbrev pub made_head : Heading → Head
made_head h = record { id = h.id; version = h.version; current = h.current; number = h.section_number; last = h.last_number }

pub claims : Claims
claims =
    record {
      reads_head = λ five. determined_told told_head made_head (λ r. refl) _;
      judges = λ s asked least. determined_answer (λ (leave : Unit {0}). leave) (λ leave. leave) (λ leave. refl) (verdict_of (shared asked least s));
      judges_exact = λ s asked least. exact (shared asked least s) tt;
    }
