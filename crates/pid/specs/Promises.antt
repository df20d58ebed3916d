-- What each public call promises.
use Rattle.std.specs.Prelude.{◌≡◌, ℕ}
use Rattle.std.specs.declared.result.Result.{Result}
use Rattle.ground.specs.declared.Refusal.{Refusal}
use Rattle.pid.specs.Pid.{told_pid, make_pid}
use Rattle.pid.specs.declared.Pid.{Pid}

-- `Pid::new`
abbrev pub MakesPid : ℕ → Result Pid Refusal → Type 0
MakesPid n r = told_pid r ≡ make_pid n
