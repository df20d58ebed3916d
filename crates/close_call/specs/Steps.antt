-- What the private functions of the crate promise; no public promise cites it.
use Rattle.std.specs.Prelude.{Ok, Err}
use Rattle.std.specs.declared.result.Result.{Result}
use Rattle.ground.specs.declared.Refusal.{Refusal}
use Rattle.state.specs.declared.After.{After}
use Rattle.state.specs.declared.State.{State}

-- what a close leaves: the state without the filter, or the given one where the call was refused
abbrev pub closed_by : State → Result State Refusal → After (Result (Unit {0}) Refusal)
closed_by given (Ok after) = record { state = after; answer = Ok tt }
closed_by given (Err why) = record { state = given; answer = Err why }
