-- The lists of a PAT's programs and PIDs by their index, and one turn of writing them.
-- Assumes nothing.
use mathlib.Core.Path.{◌≡◌, sym, ◌∙◌, ap}
use mathlib.Core.List.{List, []}
use Prim.Native.Nat.{ℕ, ◌+◌, ◌-◌, ◌*◌, ◌/◌, ◌%◌, ◌≤◌, ◌<◌}
use native.Mathlib.Omega.{arith}
use lib.ListN.{length, get_or, take, set, length-map, get_or-map}
use Rattle.ground.specs.Write.{put}
use Rattle.ground.proofs.Write.{stored}
use Rattle.psi.specs.Section.{word_of}
use Rattle.pat.specs.Answers.{Association}
use Rattle.pat.specs.Pat.{pat_of, association_of}
use Rattle.pat.specs.Listed.{programs_of, pids_of}
use Rattle.pat.proofs.Programs.{pat_association}

module _ (s : List ℕ) where
  pub programs_length : length (programs_of s) ≡ length (pat_of s).items
  programs_length = length-map (pat_of s).items _

  pub pids_length : length (pids_of s) ≡ length (pat_of s).items
  pids_length = length-map (pat_of s).items _

  pub program_of_lem : (i : ℕ) → get_or (programs_of s) i 0 ≡ (association_of (get_or (pat_of s).items i [])).program_number
  program_of_lem i = get_or-map (λ (four : List ℕ). (association_of four).program_number) (pat_of s).items i []

  pub pid_of_lem : (i : ℕ) → get_or (pids_of s) i 0 ≡ (association_of (get_or (pat_of s).items i [])).pid
  pid_of_lem i = get_or-map (λ (four : List ℕ). (association_of four).pid) (pat_of s).items i []

  -- one turn: the numbers of an entry are stored behind those before it
  module _ (d : List ℕ) (i : ℕ) (here : i < length (pat_of s).items) (room : length (pat_of s).items ≤ length d) where
    pub stored_program : (n : ℕ) → n ≡ (association_of (get_or (pat_of s).items i [])).program_number
        → set (put d 0 (take i (programs_of s))) i n ≡ put d 0 (take (i + 1) (programs_of s))
    stored_program n e = let all = programs_length in stored d (programs_of s) i n 0 (omega arith) (omega arith) (e ∙ sym (program_of_lem i))

    pub stored_pid : (n : ℕ) → n ≡ (association_of (get_or (pat_of s).items i [])).pid
        → set (put d 0 (take i (pids_of s))) i n ≡ put d 0 (take (i + 1) (pids_of s))
    stored_pid n e = let all = pids_length in stored d (pids_of s) i n 0 (omega arith) (omega arith) (e ∙ sym (pid_of_lem i))

-- ---- the same by places of a section that has room for its header and CRC_32
module _ (s : List ℕ) (h : 12 ≤ length s) (i : ℕ) (l : i < (length s - 12) / 4) where
  pub program_at : word_of (get_or s (8 + 4 * i) 0) (get_or s (8 + 4 * i + 1) 0) ≡ get_or (programs_of s) i 0
  program_at = sym (program_of_lem s i ∙ ap (λ (a : Association). a.program_number) (pat_association s h i l))

  pub pid_at : word_of (get_or s (8 + 4 * i + 2) 0) (get_or s (8 + 4 * i + 3) 0) % 8192 ≡ get_or (pids_of s) i 0
  pid_at = sym (pid_of_lem s i ∙ ap (λ (a : Association). a.pid) (pat_association s h i l))
