-- What the public call promises.
use Rattle.std.specs.Prelude.{◌≡◌, List, ℕ}
use Rattle.std.specs.declared.result.Result.{Result}
use Rattle.ground.specs.declared.Refusal.{Refusal}
use Rattle.pes.specs.Header.{told_reading, read_header}
use Rattle.pes.specs.declared.Reading.{Reading}

-- `read` of the bytes that a header begins
abbrev pub ReadsHeader : List ℕ → Result Reading Refusal → Type 0
ReadsHeader s r = told_reading r ≡ read_header s
