-- Nothing of a making is left untold, and the table is exact as every table is.
-- Assumes nothing.
use mathlib.Core.Path.{refl}
use Prim.Native.Nat.{ℕ}
use Rattle.ground.proofs.Judged.{exact}
use Rattle.ground.proofs.Told.{determined_answer}
use Rattle.pid.specs.Pid.{pid_refusals, make_pid}
use Rattle.pid.specs.Claims.{Claims}
use Rattle.pid.specs.declared.Pid.{Pid}

pub claims : Claims
claims =
    record {
      makes_pid = λ n. determined_answer (λ (p : Pid). p.0) (λ (v : ℕ). record { 0 = v }) (λ p. refl) (make_pid n);
      exact = λ n. exact (pid_refusals n) n;
    }
