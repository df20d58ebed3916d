-- What is claimed of the definitions and the promises, and proved.
use Rattle.std.specs.Prelude.{ℕ}
use Rattle.ground.specs.Outcome.{Determined}
use Rattle.ground.specs.Refusal.{Exact}
use Rattle.pid.specs.Pid.{pid_refusals, make_pid}
use Rattle.pid.specs.Promises.{MakesPid}

pub record Claims : Type 0 where
  -- any two outcomes that a promise admits are equal
  pub makes_pid : (n : ℕ) → Determined (MakesPid n)
  -- a number is refused exactly if it is above 0x1FFF
  pub exact : (n : ℕ) → Exact (pid_refusals n) (make_pid n)
