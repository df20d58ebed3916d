-- What the public call promises.
use Rattle.std.specs.Prelude.{◌≡◌, ℕ}
use Rattle.std.specs.declared.result.Result.{Result}
use Rattle.ground.specs.declared.Refusal.{Refusal}
use Rattle.state.specs.declared.After.{After}
use Rattle.state.specs.declared.State.{State}
use Rattle.close_call.specs.Close.{told_closed, close_of}

-- `close`: its outcome is the answer with the state after it
abbrev pub ClosesFilter : State → ℕ → After (Result (Unit {0}) Refusal) → Type 0
ClosesFilter s number r = told_closed r ≡ close_of s number
