-- What the public call promises.
use Rattle.std.specs.Prelude.{◌≡◌, ℕ}
use Rattle.state.specs.declared.Choice.{Choice}
use Rattle.state.specs.declared.State.{State}
use Rattle.open_call.specs.Open.{told_opened, open_of}
use Rattle.std.specs.declared.result.Result.{Result}
use Rattle.ground.specs.declared.Refusal.{Refusal}
use Rattle.state.specs.declared.After.{After}
use Rattle.open_call.specs.declared.Opening.{Opening}

-- `open`: its outcome is the answer with the state after it
abbrev pub OpensFilter : State → ℕ → Choice → After (Result Opening Refusal) → Type 0
OpensFilter s pid choice r = told_opened r ≡ open_of s pid choice
