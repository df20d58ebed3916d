-- The answer is true by computation, and the demand is proved in Demand.antt.
-- Assumes nothing.
use mathlib.Core.Path.{refl}
use Rattle.runs.specs.Run.{ours}
use Rattle.runs.proofs.Demand as demand
use Rattle.runs.proofs.InOrder.{in_order}
use Rattle.runs.proofs.Wrong.{excluded}
use Rattle.runs.proofs.Accounts.{accounts}
use Rattle.runs.proofs.Choices.{all_of_them}
use Rattle.runs.proofs.demand_three.Goals as goal

pub returns : goal.returns
returns c = (refl, record { holds = demand.statement; in_order = in_order ours; excluded = excluded; accounts = accounts; all = all_of_them })
