-- All lets every section through, so that what the demand hands to such a filter is what the rule completes.
-- Assumes nothing.
use mathlib.Core.Path.{◌∙◌, ap}
use Rattle.ground.proofs.Walk.{keep_all}
use Rattle.state.specs.Choice.{through}
use Rattle.state.specs.declared.Choice.{Choice}
use Rattle.runs.specs.Run.{ours}
use Rattle.runs.specs.History.{packets, since, up_to_close, completed}
use Rattle.runs.specs.Demand.{history}
use Rattle.runs.specs.Choices.{AllOfThem}
use Rattle.runs.proofs.Demand.{statement}

pub all_of_them : AllOfThem ours
all_of_them =
    record {
      through = keep_all;
      hands = λ store calls e f all came.
          let h = up_to_close f.number (history ours store calls) in
          let done = completed (since f h) (packets f.pid h) in
          (statement store calls e).hands f came ∙ ap (λ (c : Choice). through c done) all ∙ keep_all done;
    }
