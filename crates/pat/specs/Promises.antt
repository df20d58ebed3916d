-- What each public call promises of a section s.
use Rattle.std.specs.Prelude.{◌≡◌, List, ℕ}
use Rattle.std.specs.declared.result.Result.{Result}
use Rattle.ground.specs.declared.Refusal.{Refusal}
use Rattle.pat.specs.Answers.{told_pat_header, told_pat_entry}
use Rattle.pat.specs.Pat.{pat_header_of, pat_entry_of}
use Rattle.pat.specs.Listed.{listed, pat_list_of}
use Rattle.pat.specs.declared.PatHeader.{PatHeader}
use Rattle.pat.specs.declared.Program.{Program}

-- `pat_header`
abbrev pub ReadsPatHeader : List ℕ → Result PatHeader Refusal → Type 0
ReadsPatHeader s r = told_pat_header r ≡ pat_header_of s

-- `pat_entry`
abbrev pub ReadsPatEntry : List ℕ → ℕ → Result Program Refusal → Type 0
ReadsPatEntry s i r = told_pat_entry r ≡ pat_entry_of s i

-- `pat_entries`: its outcome is the answer, with both lent lists after it
abbrev pub ListsPatEntries : List ℕ → List ℕ → List ℕ → Result PatHeader Refusal × List ℕ × List ℕ → Type 0
ListsPatEntries s programs pids o = listed o.0 o.1 o.2 ≡ pat_list_of s programs pids
