-- Each name is found again by its number.
-- Assumes nothing.
use Rattle.std.proofs.Common.{◌∙◌, sym, ap}
use Rattle.ground.specs.Told.{number_of}
use Rattle.ground.specs.Claims.{Claims}
use Rattle.ground.proofs.Outcome.{determined}
use Rattle.ground.proofs.Told.{refusal_of, back_number}

pub claims : Claims
claims =
    record {
      tells_number = λ e. determined (number_of e);
      numbers_apart = λ e f same. sym (back_number e) ∙ ap refusal_of same ∙ back_number f;
    }
