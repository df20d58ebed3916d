-- What each public call's answer says in document 01's terms: "A refusal gives its number alone", any other answer has named values.
use Rattle.std.specs.Prelude.{ℕ}
use Rattle.std.specs.declared.result.Result.{Result}
use Rattle.ground.specs.Answer.{Answer}
use Rattle.ground.specs.Told.{told}
use Rattle.ground.specs.declared.Refusal.{Refusal}
use Rattle.psi.specs.Answers.{Heading, told_head}
use Rattle.pat.specs.declared.PatHeader.{PatHeader}
use Rattle.pat.specs.declared.Program.{Program}

-- the header, and how many entries follow it
pub record PatHeading : Type 0 where
  pub heading : Heading
  pub entries : ℕ

-- what the code's header says
abbrev pub heading_by : PatHeader → PatHeading
heading_by h = record { heading = told_head h.head; entries = h.entries }

-- what `pat_header` answers
abbrev pub told_pat_header : Result PatHeader Refusal → Answer PatHeading
told_pat_header = told heading_by

-- "program_number 16, PID 13"
pub record Association : Type 0 where
  pub program_number : ℕ
  pub pid : ℕ

-- what the code's entry says
abbrev pub association_by : Program → Association
association_by p = record { program_number = p.number; pid = p.pid.0 }

-- what `pat_entry` answers
abbrev pub told_pat_entry : Result Program Refusal → Answer Association
told_pat_entry = told association_by
