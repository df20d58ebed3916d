-- What each public call's answer says in document 01's terms.
use Rattle.std.specs.Prelude.{Bool, ℕ}
use Rattle.std.specs.declared.result.Result.{Result}
use Rattle.ground.specs.Answer.{Answer}
use Rattle.ground.specs.Told.{told}
use Rattle.ground.specs.declared.Refusal.{Refusal}
use Rattle.psi.specs.declared.Head.{Head}

-- "Bytes 3 to 7 of a section: id (16 bits), reserved, version (5), current/next, section number, last number"
pub record Heading : Type 0 where
  pub id : ℕ
  pub version : ℕ
  pub current : Bool
  pub section_number : ℕ
  pub last_number : ℕ

-- what the code's header says
abbrev pub told_head : Head → Heading
told_head h = record { id = h.id; version = h.version; current = h.current; section_number = h.number; last_number = h.last }

-- A verdict is a refusal, or nothing but leave to go on
abbrev pub Verdict : Type 0
Verdict = Answer (Unit {0})

-- what the code's verdict says
abbrev pub told_judged : Result (Unit {0}) Refusal → Verdict
told_judged = told (λ (leave : Unit {0}). leave)
