-- What a whole reading leaves where it is not refused: the lists hold what the calls by index answer, and the rest as it was.
-- Assumes nothing.
use mathlib.Core.Path.{◌≡◌, refl, sym, ◌∙◌, ap, ap₂}
use mathlib.Core.List.{List, []}
use Prim.Native.Nat.{ℕ, ◌≤◌, ◌<◌}
use native.Mathlib.Omega.{arith}
use borrow.Author.Tests.{ltb-false}
use lib.ListN.{length, get_or}
use Rattle.ground.specs.Answer.{refused, given}
use Rattle.ground.specs.Refusal.{Silent, ExactCall}
use Rattle.ground.specs.Write.{put, Rest}
use Rattle.ground.proofs.Answer.{given_same}
use Rattle.ground.proofs.Judged.{passed_over, exact_call}
use Rattle.ground.proofs.Refused.{no≤, accepted}
use Rattle.ground.proofs.Write.{put_item, put_rest}
use Rattle.pat.specs.Answers.{PatHeading}
use Rattle.pat.specs.Pat.{pat_of, pat_refusals, pat_heading_of, pat_header_of, association_of, pat_missing, pat_entry_of}
use Rattle.pat.specs.Listed.{programs_of, pids_of, Listed, unlisted, pat_list_refusals, pat_list_of}
use Rattle.pat.proofs.Limits.{pat_limit}
use Rattle.pat.proofs.Listed.{programs_length, pids_length, program_of_lem, pid_of_lem}

module _ (s programs pids : List ℕ) where
  abbrev full : Listed
  full = record { answer = given (pat_heading_of s); programs = put programs 0 (programs_of s); pids = put pids 0 (pids_of s) }

  pub list_exact : ExactCall (pat_list_refusals s programs pids) (λ (l : Listed). l.answer) (unlisted programs pids) (pat_list_of s programs pids)
  list_exact = exact_call (λ (l : Listed). l.answer) (unlisted programs pids) (λ n. refl) (pat_list_refusals s programs pids) full (pat_heading_of s) refl

  module _ (h : PatHeading) (e : (pat_list_of s programs pids).answer ≡ given h) where
    quiet : Silent (pat_list_refusals s programs pids)
    quiet = list_exact.table.none.0 (h, e)

    is : pat_list_of s programs pids ≡ full
    is = accepted (unlisted programs pids) full (pat_list_refusals s programs pids) quiet

    heading : h ≡ pat_heading_of s
    heading = given_same (sym e ∙ ap (λ (l : Listed). l.answer) is)

    count : h.entries ≡ length (pat_of s).items
    count = ap (λ (x : PatHeading). x.entries) heading

    pub list_header : pat_header_of s ≡ given h
    list_header = rw heading (accepted refused (given (pat_heading_of s)) (pat_refusals s) quiet.1.1)

    -- both lists have room
    room : (d l : List ℕ) → 253 ≤ length d → length l ≡ length (pat_of s).items → length l ≤ length d
    room d l r m = let k = pat_limit s quiet.1.1 in omega arith

    wide : length (programs_of s) ≤ length programs
    wide = room programs (programs_of s) (ltb-false (length programs) 253 quiet.0) (programs_length s)

    wide' : length (pids_of s) ≤ length pids
    wide' = room pids (pids_of s) (ltb-false (length pids) 253 quiet.1.0) (pids_length s)

    pub list_entry : (i : ℕ) → i < h.entries
        → pat_entry_of s i ≡ given (record { program_number = get_or (pat_list_of s programs pids).programs i 0; pid = get_or (pat_list_of s programs pids).pids i 0 })
    list_entry i b =
        let a = association_of (get_or (pat_of s).items i []) in
        let there : i < length (pat_of s).items = rw (sym count) b in
        let n = programs_length s in
        let m = pids_length s in
        passed_over a (pat_refusals s) (pat_missing s i) quiet.1.1
        ∙ sym (no≤ _ _ _ _ there refl)
        ∙ ap₂ (λ (x y : ℕ). given (record { program_number = x; pid = y }))
        (sym (program_of_lem s i) ∙ sym (put_item programs (programs_of s) wide i 0 (omega arith)) ∙ ap (λ (l : Listed). get_or l.programs i 0) (sym is))
        (sym (pid_of_lem s i) ∙ sym (put_item pids (pids_of s) wide' i 0 (omega arith)) ∙ ap (λ (l : Listed). get_or l.pids i 0) (sym is))

    rest : (d l after : List ℕ) → length l ≤ length d → length l ≡ length (pat_of s).items → after ≡ put d 0 l → Rest h.entries d after
    rest d l after r m p = let k = count ∙ sym m in rw (p, k) (put_rest d l r)

    pub list_rest : Rest h.entries programs (pat_list_of s programs pids).programs × Rest h.entries pids (pat_list_of s programs pids).pids
    list_rest = (
      rest programs (programs_of s) _ wide (programs_length s) (ap (λ (l : Listed). l.programs) is),
      rest pids (pids_of s) _ wide' (pids_length s) (ap (λ (l : Listed). l.pids) is),
    )
