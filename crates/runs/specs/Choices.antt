-- Request 2 of document 02, "One table only": of a filter that chose all the third demand says what it said before.
use Rattle.std.specs.Prelude.{◌≡◌, List, ℕ, length, Some}
use Rattle.ground.specs.House.{store_bytes}
use Rattle.state.specs.Choice.{through}
use Rattle.state.specs.declared.Choice.TheVariants.{All}
use Rattle.runs.specs.Run.{Driver, Call}
use Rattle.runs.specs.History.{OpenedFilter, opening_of, packets, since, up_to_close, handed, completed}
use Rattle.runs.specs.Demand.{history}

pub record AllOfThem (d : Driver) : Type 0 where
  -- all lets every section through
  pub through : (sections : List (List ℕ)) → through All sections ≡ sections
  -- "What an open filter is handed is exactly the sections that demand 2's rule completes, since its open, from the accepted packets of its PID since the area was taken"
  pub hands : (store : List ℕ) (calls : List Call) → length store ≡ store_bytes → (f : OpenedFilter) → f.choice ≡ All → opening_of f.number (history d store calls) ≡ Some f
      → handed f (history d store calls)
      ≡ completed (since f (up_to_close f.number (history d store calls))) (packets f.pid (up_to_close f.number (history d store calls)))
