-- What the public call promises.
use Rattle.std.specs.Prelude.{◌≡◌, ℕ}
use Rattle.rates.specs.declared.Rates.{Rates}
use Rattle.rates.specs.Rate.{told_rates, rated}
use Rattle.std.specs.declared.option.Option.{Option}
use Rattle.std.specs.declared.result.Result.{Result}
use Rattle.ground.specs.declared.Refusal.{Refusal}

-- `rate` of what is known, so many bytes, and two clock references
abbrev pub GivesRate : Option Rates → ℕ → ℕ → ℕ → Result Rates Refusal → Type 0
GivesRate k bytes later earlier r = told_rates r ≡ rated k bytes later earlier
