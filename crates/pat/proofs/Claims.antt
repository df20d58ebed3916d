-- Nothing of an answer is left untold, and the tables are exact as every table is; the rest is cited.
-- Assumes nothing.
use mathlib.Core.Path.{◌≡◌, refl, ap}
use mathlib.Core.List.{List}
use Prim.Native.Nat.{ℕ}
use Rattle.std.specs.declared.result.Result.{Result}
use Rattle.ground.specs.declared.Refusal.{Refusal}
use Rattle.ground.proofs.Judged.{exact, given_by}
use Rattle.ground.proofs.Outcome.{determined_told}
use Rattle.ground.proofs.Told.{made, back, determined_answer}
use Rattle.psi.proofs.Claims.{made_head}
use Rattle.pat.specs.Answers.{PatHeading, heading_by, Association, association_by}
use Rattle.pat.specs.Pat.{pat_refusals, pat_heading_of, pat_header_of, pat_entry_refusals, pat_entry_of}
use Rattle.pat.specs.Listed.{Listed, listed, pat_list_of}
use Rattle.pat.specs.Claims.{Claims}
use Rattle.pat.specs.declared.PatHeader.{PatHeader}
use Rattle.pat.specs.declared.Program.{Program}
use Rattle.pat.proofs.Limits.{pat_limit, pat_bytes}
use Rattle.pat.proofs.Whole.{list_exact, list_header, list_entry, list_rest}

-- ---- the header and the entry that say what was told
abbrev made_header : PatHeading → PatHeader
made_header h = record { head = made_head h.heading; entries = h.entries }

abbrev made_program : Association → Program
made_program a = record { number = a.program_number; pid = record { 0 = a.pid } }

-- ---- the outcome of a whole reading by its answer and its lists, and that it is the outcome
abbrev told_listed : Result PatHeader Refusal × List ℕ × List ℕ → Listed
told_listed o = listed o.0 o.1 o.2

abbrev made_listed : Listed → Result PatHeader Refusal × List ℕ × List ℕ
made_listed l = (made made_header l.answer, l.programs, l.pids)

back_listed : (o : Result PatHeader Refusal × List ℕ × List ℕ) → made_listed (told_listed o) ≡ o
back_listed o = ap (λ (r : Result PatHeader Refusal). (r, o.1, o.2)) (back heading_by made_header (λ h. refl) o.0)

pub claims : Claims
claims =
    record {
      pat_header = λ s. determined_answer heading_by made_header (λ h. refl) (pat_header_of s);
      pat_entry = λ s i. determined_answer association_by made_program (λ p. refl) (pat_entry_of s i);
      pat_header_exact = λ s. exact (pat_refusals s) (pat_heading_of s);
      pat_entry_exact = λ s i. exact (pat_entry_refusals s i) _;
      pat_limit = λ s h e. let g = given_by (pat_refusals s) (pat_heading_of s) h e in rw g.1 (pat_limit s g.0);
      pat_bytes = λ s h e. pat_bytes s (given_by (pat_refusals s) (pat_heading_of s) h e).0;
      pat_list = λ s programs pids. determined_told told_listed made_listed back_listed (pat_list_of s programs pids);
      pat_list_exact = list_exact;
      pat_list_header = list_header;
      pat_list_entry = list_entry;
      pat_list_rest = list_rest;
    }
