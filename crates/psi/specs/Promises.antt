-- What each public call promises.
use Rattle.std.specs.Prelude.{◌≡◌, List, ℕ}
use Rattle.std.specs.declared.result.Result.{Result}
use Rattle.ground.specs.declared.Refusal.{Refusal}
use Rattle.psi.specs.Answers.{told_head, told_judged}
use Rattle.psi.specs.Section.{byte_at, head_of}
use Rattle.psi.specs.Refusals.{shared, verdict_of}
use Rattle.psi.specs.declared.Head.{Head}

-- `head_of`, of the bytes 3 to 7
abbrev pub ReadsHead : List ℕ → Head → Type 0
ReadsHead five r = told_head r ≡ head_of (byte_at five 0) (byte_at five 1) (byte_at five 2) (byte_at five 3) (byte_at five 4)

-- `judge`, of a section with the table_id that is asked for and the least section_length
abbrev pub Judges : List ℕ → ℕ → ℕ → Result (Unit {0}) Refusal → Type 0
Judges s asked least r = told_judged r ≡ verdict_of (shared asked least s)
