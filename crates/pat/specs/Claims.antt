-- What is claimed of the definitions and the promises, and proved.
use Rattle.std.specs.Prelude.{◌≡◌, List, ℕ, ◌≤◌, ◌<◌, get_or}
use Rattle.ground.specs.Answer.{given}
use Rattle.ground.specs.Outcome.{Determined}
use Rattle.ground.specs.Refusal.{Exact, ExactCall}
use Rattle.ground.specs.Write.{Rest}
use Rattle.psi.specs.Section.{before}
use Rattle.psi.specs.Loop.{joined}
use Rattle.pat.specs.Answers.{PatHeading}
use Rattle.pat.specs.Pat.{pat_of, pat_refusals, pat_header_of, pat_entry_refusals, pat_entry_of}
use Rattle.pat.specs.Listed.{Listed, unlisted, pat_list_refusals, pat_list_of}
use Rattle.pat.specs.Promises.{ReadsPatHeader, ReadsPatEntry, ListsPatEntries}

pub record Claims : Type 0 where
  -- any two outcomes that the promise of `pat_header` admits are equal
  pub pat_header : (s : List ℕ) → Determined (ReadsPatHeader s)
  -- any two outcomes that the promise of `pat_entry` admits are equal
  pub pat_entry : (s : List ℕ) (i : ℕ) → Determined (ReadsPatEntry s i)
  -- a PAT's header is refused, and by which number, exactly as its table says
  pub pat_header_exact : (s : List ℕ) → Exact (pat_refusals s) (pat_header_of s)
  -- a PAT's entry is refused, and by which number, exactly as its table says
  pub pat_entry_exact : (s : List ℕ) (i : ℕ) → Exact (pat_entry_refusals s i) (pat_entry_of s i)
  -- "at most 253": an accepted PAT has no more entries
  pub pat_limit : (s : List ℕ) (h : PatHeading) → pat_header_of s ≡ given h → h.entries ≤ 253
  -- no byte of an accepted PAT is skipped or read twice: side by side its entries are the bytes from 8 up to CRC_32
  pub pat_bytes : (s : List ℕ) (h : PatHeading) → pat_header_of s ≡ given h → joined (λ four. four) (pat_of s).items ≡ before 8 s
  -- any two outcomes that the promise of `pat_entries` admits are equal
  pub pat_list : (s programs pids : List ℕ) → Determined (ListsPatEntries s programs pids)
  -- a PAT's lists are refused, and by which number, exactly as their table says, and a refused call writes nothing
  pub pat_list_exact : (s programs pids : List ℕ)
      → ExactCall (pat_list_refusals s programs pids) (λ (l : Listed). l.answer) (unlisted programs pids) (pat_list_of s programs pids)
  -- where it is not refused, the header is the one that `pat_header` answers
  pub pat_list_header : (s programs pids : List ℕ) (h : PatHeading) → (pat_list_of s programs pids).answer ≡ given h → pat_header_of s ≡ given h
  -- and item i of both lists is the entry that `pat_entry` answers for the index i
  pub pat_list_entry : (s programs pids : List ℕ) (h : PatHeading) → (pat_list_of s programs pids).answer ≡ given h → (i : ℕ) → i < h.entries
      → pat_entry_of s i ≡ given (record { program_number = get_or (pat_list_of s programs pids).programs i 0; pid = get_or (pat_list_of s programs pids).pids i 0 })
  -- places past the entries stay, and neither list gets longer or shorter
  pub pat_list_rest : (s programs pids : List ℕ) (h : PatHeading) → (pat_list_of s programs pids).answer ≡ given h
      → Rest h.entries programs (pat_list_of s programs pids).programs × Rest h.entries pids (pat_list_of s programs pids).pids
