-- What is claimed of the call, and proved.
use Rattle.std.specs.Prelude.{ℕ}
use Rattle.ground.specs.Answer.{refused}
use Rattle.ground.specs.Outcome.{Determined}
use Rattle.ground.specs.Refusal.{ExactCall}
use Rattle.state.specs.declared.Choice.{Choice}
use Rattle.state.specs.declared.State.{State}
use Rattle.open_call.specs.Open.{AfterOpen, open_refusals, open_of}
use Rattle.open_call.specs.Promises.{OpensFilter}

pub record Claims : Type 0 where
  -- any two outcomes that the promise admits are equal
  pub opens_filter : (s : State) (pid : ℕ) (choice : Choice) → Determined (OpensFilter s pid choice)
  -- the table is exact, and a refused call "returns the state as given"
  pub exact_open : (s : State) (pid : ℕ) (choice : Choice)
      → ExactCall (open_refusals s pid choice) (λ (o : AfterOpen). o.answer) (λ n. record { answer = refused n; state = s }) (open_of s pid choice)
