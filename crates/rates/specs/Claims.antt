-- What is claimed of the definitions and the promises, and proved.
use Rattle.std.specs.Prelude.{ℕ}
use Rattle.ground.specs.Outcome.{Determined, Stated}
use Rattle.ground.specs.Refusal.{Exact}
use Rattle.rates.specs.declared.Rates.{Rates}
use Rattle.rates.specs.Rate.{rate_refusals, rated}
use Rattle.rates.specs.Promises.{GivesRate}
use Rattle.rates.specs.Laws.{RateLaws}
use Rattle.std.specs.declared.option.Option.{Option}

pub record Claims : Type 0 where
  -- any two outcomes that the promise admits are equal
  pub gives_rate : (k : Option Rates) (bytes later earlier : ℕ) → Determined (GivesRate k bytes later earlier)
  -- and so are those of the function that states what a rate is
  pub rate_laws : Determined (Stated RateLaws)
  -- a refusal is given exactly when it is the first that applies
  pub refusals : (k : Option Rates) (bytes later earlier : ℕ) → Exact (rate_refusals k bytes later earlier) (rated k bytes later earlier)
