-- What an answer tells leaves nothing of it untold, and a table's answer is the first row that applies.
-- Assumes nothing.
use mathlib.Core.Path.{refl}
use Rattle.ground.proofs.Judged.{exact}
use Rattle.ground.proofs.Outcome.{stated}
use Rattle.ground.proofs.Told.{determined_answer}
use Rattle.rates.specs.Rate.{byte_rate, ticks_of, with_rate, rate_refusals, rated}
use Rattle.rates.specs.Laws.{RateLaws}
use Rattle.rates.specs.Claims.{Claims}
use Rattle.rates.specs.declared.Rates.{Rates}

pub claims : Claims
claims =
    record {
      gives_rate = λ k bytes later earlier. determined_answer (λ (r : Rates). r) (λ r. r) (λ r. refl) (rated k bytes later earlier);
      rate_laws = stated RateLaws;
      refusals = λ k bytes later earlier. exact (rate_refusals k bytes later earlier) (with_rate k (byte_rate bytes (ticks_of later earlier)));
    }
