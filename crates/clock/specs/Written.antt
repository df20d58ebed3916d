-- Document 01, "Refusal numbers": what a write of a field leaves.
use Rattle.std.specs.Prelude.{ℕ, List}
use Rattle.std.specs.declared.result.Result.{Result}
use Rattle.ground.specs.Answer.{Answer, refused}
use Rattle.ground.specs.Told.{told}
use Rattle.ground.specs.declared.Refusal.{Refusal}

-- what a write leaves: its answer, and every byte that was lent
pub record Wrote : Type 0 where
  pub answer : Answer (Unit {0})
  pub bytes : List ℕ

-- the same of the call's answer and the bytes after it
abbrev pub wrote : Result (Unit {0}) Refusal → List ℕ → Wrote
wrote r s = record { answer = told (λ u. u) r; bytes = s }

-- "A refusal gives its number alone .. and writes nothing"
abbrev pub unwritten : List ℕ → ℕ → Wrote
unwritten s n = record { answer = refused n; bytes = s }
