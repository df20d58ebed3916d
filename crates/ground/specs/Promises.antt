-- What each public call promises.
use Rattle.std.specs.Prelude.{◌≡◌, ℕ}
use Rattle.ground.specs.Told.{number_of}
use Rattle.ground.specs.declared.Refusal.{Refusal}

-- `Refusal::number`
abbrev pub TellsNumber : Refusal → ℕ → Type 0
TellsNumber e r = r ≡ number_of e
