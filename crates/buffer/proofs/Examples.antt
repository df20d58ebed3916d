-- Each by computation.
-- Assumes nothing.
use mathlib.Core.Path.{refl}
use Rattle.buffer.specs.Examples.{Examples}

pub examples : Examples
examples = (refl, (refl, (refl, (refl, (refl, (refl, (refl, (refl, (refl, (refl, (refl, (refl, (refl, (refl, (refl, (refl, (refl, (refl, (refl, (refl, tt))))))))))))))))))))
