-- What only private functions and the laws cite: no public promise and no claim reaches it. The table from its fourth row on.
use Rattle.std.specs.Prelude.{List, [], ◌∷◌, ℕ, eqb}
use Rattle.ground.specs.Answer.{Answer, refused, given}
use Rattle.ground.specs.Refusal.{Row, judge, ◌when◌}
use Rattle.rates.specs.Rate.{byte_rate, is_too_many, with_rate}
use Rattle.rates.specs.declared.Rates.{Rates}
use Rattle.std.specs.declared.option.Option.{Option}

-- the rows that stand behind those of the references
abbrev pub last_rows : ℕ → ℕ → List Row
last_rows bytes ticks = (80 when is_too_many bytes) ∷ (81 when eqb ticks 0) ∷ []

-- the record with the rate of so many bytes in so many ticks, or one of these refusals
abbrev pub rated_over : Option Rates → ℕ → ℕ → Answer Rates
rated_over k bytes ticks = judge refused (last_rows bytes ticks) (given (with_rate k (byte_rate bytes ticks)))
