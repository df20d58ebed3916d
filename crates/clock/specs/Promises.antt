-- What each public call promises.
use Rattle.std.specs.Prelude.{◌≡◌, ℕ, List, ℤ}
use Rattle.clock.specs.Stamp.{told_stamp, read_stamp, told_any_stamp, read_any_stamp, write_stamp}
use Rattle.clock.specs.Reference.{told_reference, read_reference, write_reference}
use Rattle.clock.specs.Difference.{told_signed, told_forward, stamp_difference, reference_forward}
use Rattle.clock.specs.Written.{wrote}
use Rattle.std.specs.declared.result.Result.{Result}
use Rattle.ground.specs.declared.Refusal.{Refusal}
use Rattle.clock.specs.declared.stamp.Stamp.{Stamp}
use Rattle.clock.specs.declared.stamp.AnyStamp.{AnyStamp}
use Rattle.clock.specs.declared.reference.Reference.{Reference}

-- `stamp::read` of lent bytes, behind a prefix
abbrev pub ReadsStamp : List ℕ → ℕ → Result Stamp Refusal → Type 0
ReadsStamp s prefix r = told_stamp r ≡ read_stamp s prefix

-- `stamp::read_any` of lent bytes
abbrev pub ReadsAnyStamp : List ℕ → Result AnyStamp Refusal → Type 0
ReadsAnyStamp s r = told_any_stamp r ≡ read_any_stamp s

-- `stamp::write`: its outcome is the answer, with all lent bytes after it
abbrev pub WritesStamp : List ℕ → ℕ → ℕ → Result (Unit {0}) Refusal × List ℕ → Type 0
WritesStamp s prefix v o = wrote o.0 o.1 ≡ write_stamp s prefix v

-- `stamp::difference`
abbrev pub TellsApart : ℕ → ℕ → Result ℤ Refusal → Type 0
TellsApart a b r = told_signed r ≡ stamp_difference a b

-- `reference::read` of lent bytes
abbrev pub ReadsReference : List ℕ → Result Reference Refusal → Type 0
ReadsReference s r = told_reference r ≡ read_reference s

-- `reference::write`: its outcome is the answer, with all lent bytes after it
abbrev pub WritesReference : List ℕ → ℕ → Result (Unit {0}) Refusal × List ℕ → Type 0
WritesReference s v o = wrote o.0 o.1 ≡ write_reference s v

-- `reference::forward`
abbrev pub TellsAhead : ℕ → ℕ → Result ℕ Refusal → Type 0
TellsAhead a b r = told_forward r ≡ reference_forward a b
