-- What is claimed of the call, and proved.
use Rattle.std.specs.Prelude.{ℕ}
use Rattle.ground.specs.Answer.{refused}
use Rattle.ground.specs.Outcome.{Determined}
use Rattle.ground.specs.Refusal.{ExactCall}
use Rattle.state.specs.declared.State.{State}
use Rattle.close_call.specs.Close.{AfterClose, close_refusals, close_of}
use Rattle.close_call.specs.Promises.{ClosesFilter}

pub record Claims : Type 0 where
  -- any two outcomes that the promise admits are equal
  pub closes_filter : (s : State) (number : ℕ) → Determined (ClosesFilter s number)
  -- the table is exact, and a refused call "returns the state as given"
  pub exact_close : (s : State) (number : ℕ)
      → ExactCall (close_refusals s number) (λ (o : AfterClose). o.answer) (λ n. record { answer = refused n; state = s }) (close_of s number)
