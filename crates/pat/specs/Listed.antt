-- All of a PAT's entries, written to two lent lists in one reading (document 01, Tables).
use Rattle.std.specs.Prelude.{List, ◌∷◌, map, ℕ, ltb, length}
use Rattle.std.specs.declared.result.Result.{Result}
use Rattle.ground.specs.Answer.{Answer, refused, given}
use Rattle.ground.specs.Refusal.{Row, judge, ◌when◌}
use Rattle.ground.specs.Write.{put}
use Rattle.ground.specs.declared.Refusal.{Refusal}
use Rattle.pat.specs.Answers.{PatHeading, told_pat_header}
use Rattle.pat.specs.Pat.{pat_of, pat_refusals, pat_heading_of, association_of}
use Rattle.pat.specs.declared.PatHeader.{PatHeader}

-- the program_number of each entry, one after the other
abbrev pub programs_of : List ℕ → List ℕ
programs_of s = map (λ (four : List ℕ). (association_of four).program_number) (pat_of s).items

-- the PID of each
abbrev pub pids_of : List ℕ → List ℕ
pids_of s = map (λ (four : List ℕ). (association_of four).pid) (pat_of s).items

-- what the reading leaves: its answer, and both lists
pub record Listed : Type 0 where
  pub answer : Answer PatHeading
  pub programs : List ℕ
  pub pids : List ℕ

-- the same of the call's answer and the lists after it
abbrev pub listed : Result PatHeader Refusal → List ℕ → List ℕ → Listed
listed r programs pids = record { answer = told_pat_header r; programs = programs; pids = pids }

-- "A refusal gives its number alone .. and writes nothing"
abbrev pub unlisted : List ℕ → List ℕ → ℕ → Listed
unlisted programs pids n = record { answer = refused n; programs = programs; pids = pids }

-- refusal 3, of lists without a place for each of the entries, "at most 253"; then 20, 23, 21, 25, 22, 24, 26
abbrev pub pat_list_refusals : List ℕ → List ℕ → List ℕ → List Row
pat_list_refusals s programs pids = (3 when ltb (length programs) 253) ∷ (3 when ltb (length pids) 253) ∷ pat_refusals s

-- the header, and both lists written from their start on; or the first refusal that applies
abbrev pub pat_list_of : List ℕ → List ℕ → List ℕ → Listed
pat_list_of s programs pids =
    judge (unlisted programs pids) (pat_list_refusals s programs pids)
    (record { answer = given (pat_heading_of s); programs = put programs 0 (programs_of s); pids = put pids 0 (pids_of s) })
