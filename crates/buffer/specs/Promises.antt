-- What the public calls promise.
use Rattle.std.specs.Prelude.{◌≡◌, List, ℕ}
use Rattle.std.specs.declared.result.Result.{Result}
use Rattle.ground.specs.declared.Refusal.{Refusal}
use Rattle.buffer.specs.Verdict.{told_verdict, verdict_of}
use Rattle.buffer.specs.declared.Record.{Record}
use Rattle.buffer.specs.declared.Verdict.{Verdict}

-- `judge` and `judge_first` of a PID and a list of records
abbrev pub Judges : ℕ → List Record → Result Verdict Refusal → Type 0
Judges pid rs r = told_verdict r ≡ verdict_of pid rs
