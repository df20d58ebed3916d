-- The refusals that a PAT and a PMT share, in the order 20, 23, 21, 25, 22 (document 01, Refusal numbers).
use Rattle.std.specs.Prelude.{not, List, [], ◌∷◌, ℕ, ltb, eqb, length}
use Rattle.ground.specs.House.{longest_length}
use Rattle.ground.specs.Answer.{refused, given}
use Rattle.ground.specs.Refusal.{Row, judge, ◌when◌}
use Rattle.crc.specs.Figure.{right}
use Rattle.section.specs.Section.{section_length, section_size}
use Rattle.psi.specs.Answers.{Verdict}
use Rattle.psi.specs.Section.{table_id, syntax_indicator, bit_after}

-- "section under 3 bytes, section_length above 4,093, or size not 3 + section_length"; "table_id is not the one asked for"; "section_syntax_indicator is not 1, or the bit after it is not 0"; "section_length above 1,021, or below 9 (PAT), 13 (PMT)"; "CRC_32 wrong"
abbrev pub shared : ℕ → ℕ → List ℕ → List Row
shared asked least s =
    (20 when ltb (length s) 3)
    ∷ (20 when ltb longest_length (section_length s))
    ∷ (20 when not (eqb (length s) (section_size s)))
    ∷ (23 when not (eqb (table_id s) asked))
    ∷ (21 when not (eqb (syntax_indicator s) 1))
    ∷ (21 when not (eqb (bit_after s) 0))
    ∷ (25 when ltb 1021 (section_length s))
    ∷ (25 when ltb (section_length s) least)
    ∷ (22 when not (right s))
    ∷ []

-- the verdict of a table alone
abbrev pub verdict_of : List Row → Verdict
verdict_of rows = judge refused rows (given tt)
