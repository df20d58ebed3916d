-- Document 01, "Time" and "Refusal numbers": the PID type's checked constructor.
use Rattle.std.specs.Prelude.{List, [], ◌∷◌, ℕ, ltb}
use Rattle.std.specs.declared.result.Result.{Result}
use Rattle.ground.specs.House.{last_pid}
use Rattle.ground.specs.Answer.{Answer, refused, given}
use Rattle.ground.specs.Refusal.{Row, judge, ◌when◌}
use Rattle.ground.specs.Told.{told}
use Rattle.ground.specs.declared.Refusal.{Refusal}
use Rattle.pid.specs.declared.Pid.{Pid}

-- what a making says in document 01's terms
abbrev pub told_pid : Result Pid Refusal → Answer ℕ
told_pid = told (λ (p : Pid). p.0)

-- "12: making a PID above 0x1FFF"
abbrev pub pid_refusals : ℕ → List Row
pid_refusals n = (12 when ltb last_pid n) ∷ []

abbrev pub make_pid : ℕ → Answer ℕ
make_pid n = judge refused (pid_refusals n) (given n)
