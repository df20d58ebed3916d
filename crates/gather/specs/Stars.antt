-- The ★ cases of document 01, "Examples", that this layer decides.
use Rattle.std.specs.Prelude.{◌≡◌, true, false, List, [], ◌∷◌, ◌++◌, ℕ, ◌+◌, ◌≤◌, length}
use Rattle.ground.specs.House.{area_bytes, least_output}
use Rattle.ground.specs.Answer.{given}
use Rattle.ground.specs.Write.{put}
use Rattle.gather.specs.Rule.{blank, seen, rule, leaves_none}
use Rattle.gather.specs.Memory.{no_marks, marks_as, leaves, gather_of}

-- one case for each ★ line, and one for its bytes in memory
pub data Case : Type 0 where
  length_182 : Case
  pointer_183 : Case
  pointer_182 : Case
  pointer_182_stored : Case

-- what each case says
abbrev pub Right : Case → Type 0
-- "control 11, length 182, unit start: refusal 11": a payload of one byte, whichever it is
Right length_182 = (b : ℕ) → leaves_none true (b ∷ []) ≡ true
-- "control 01, pointer 183: refusal 11": whichever the 183 bytes after it are
Right pointer_183 = (bytes : List ℕ) → length bytes ≡ 183 → leaves_none true (183 ∷ bytes) ≡ true
-- "pointer 182, last byte 0x80: one byte held": whichever the 182 bytes between them are, and not refused 11
Right pointer_182 =
    (counter : ℕ) (bytes : List ℕ) → length bytes ≡ 182
    → (leaves_none true (182 ∷ (bytes ++ 0x80 ∷ [])) ≡ false)
    × (rule blank (record { counter = counter; start = true; payload = 182 ∷ (bytes ++ 0x80 ∷ []) })
    ≡ record { next = record { held = 0x80 ∷ []; last = seen counter false }; sections = []; jump = false; repeat = false; given_up = 0; begun = 1 })
-- the same on memory: one byte of the store is written, the area's first, and none of the output
Right pointer_182_stored =
    (counter : ℕ) (bytes store : List ℕ) (base : ℕ) (out : List ℕ) → counter ≤ 15 → length bytes ≡ 182 → base + area_bytes ≤ length store → least_output ≤ length out
    → gather_of no_marks counter true (182 ∷ (bytes ++ 0x80 ∷ [])) store base out
    ≡ leaves
    (given (record {
      marks = marks_as 1 1 counter 0;
      sections = 0;
      bytes = 0;
      jump = false;
      repeat = false;
      given_up = 0;
      begun = 1;
    }))
    (put store base (0x80 ∷ []))
    out

-- every case
abbrev pub cases : List Case
cases = length_182 ∷ pointer_183 ∷ pointer_182 ∷ pointer_182_stored ∷ []
