-- What is promised of the third demand, and of losses.
use Rattle.runs.specs.Run.{ours}
use Rattle.runs.specs.Demand.{Statement, InOrder}
use Rattle.runs.specs.Accounts.{Accounts}
use Rattle.runs.specs.Choices.{AllOfThem}
use Rattle.runs.specs.Wrong.{Excluded}
use Rattle.runs.specs.AsNew.{Completes, AsNew}
use Rattle.runs.specs.WrongAtJumps.{ExcludedAtJumps}

-- the demand holds of our driver, for calls in either order, and of none of the wrong ones; its log accounts for the sections begun, and a filter that chose all is handed all
pub record DemandThreeHolds : Type 0 where
  pub holds : Statement ours
  pub in_order : InOrder ours
  pub excluded : Excluded
  pub accounts : Accounts ours
  pub all : AllOfThem ours

-- after a jump our driver is as good as new, and none of the wrong ones is; and what the rule completes from a jump on hangs on nothing before it
pub record AsNewHolds : Type 0 where
  pub holds : AsNew ours
  pub completes : Completes
  pub excluded : ExcludedAtJumps
