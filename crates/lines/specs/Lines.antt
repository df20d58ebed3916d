-- Document 01, "Examples": the lines that the listing program prints.
use Rattle.std.specs.Prelude.{Bool, cond, List, [], ◌∷◌, ◌++◌, ℕ, zero, suc, ltb, drop, Option, Some, None}
use Rattle.ground.specs.Answer.{Answer, refused, given}
use Rattle.section.specs.Section.{table_of, section_size}
use Rattle.packet_call.specs.Packet.{Said}
use Rattle.text.specs.Text.{decimal_of}

-- the header line
abbrev pub header_line : List ℕ
header_line =
    0x70 ∷ 0x61 ∷ 0x63 ∷ 0x6B ∷ 0x65 ∷ 0x74 ∷ 0x09 ∷ 0x70 ∷ 0x69 ∷ 0x64 ∷ 0x09 ∷ 0x77 ∷ 0x6F ∷ 0x72 ∷ 0x64 ∷ 0x09 ∷ 0x6E ∷ 0x75 ∷ 0x6D ∷ 0x62 ∷ 0x65 ∷ 0x72 ∷ 0x09 ∷ 0x62 ∷ 0x79 ∷ 0x74 ∷ 0x65 ∷ 0x73 ∷ 0x0A ∷ []

-- what stands in a column; "a dash is "none""
abbrev pub cell_of : Option ℕ → List ℕ
cell_of (Some n) = decimal_of n
cell_of None = 0x2D ∷ []

-- "tab-parted lines: packet index, PID, word, number, bytes"
abbrev pub line_of : ℕ → Option ℕ → List ℕ → Option ℕ → Option ℕ → List ℕ
line_of index pid word number bytes =
    decimal_of index ++ ((0x09 ∷ cell_of pid) ++ ((0x09 ∷ []) ++ (word ++ ((0x09 ∷ cell_of number) ++ ((0x09 ∷ cell_of bytes) ++ (0x0A ∷ []))))))

-- the words, letter by letter
abbrev pub jump_word : List ℕ
jump_word = 0x6A ∷ 0x75 ∷ 0x6D ∷ 0x70 ∷ []

abbrev pub repeat_word : List ℕ
repeat_word = 0x72 ∷ 0x65 ∷ 0x70 ∷ 0x65 ∷ 0x61 ∷ 0x74 ∷ []

abbrev pub cut_word : List ℕ
cut_word = 0x63 ∷ 0x75 ∷ 0x74 ∷ []

abbrev pub section_word : List ℕ
section_word = 0x73 ∷ 0x65 ∷ 0x63 ∷ 0x74 ∷ 0x69 ∷ 0x6F ∷ 0x6E ∷ []

abbrev pub refused_word : List ℕ
refused_word = 0x72 ∷ 0x65 ∷ 0x66 ∷ 0x75 ∷ 0x73 ∷ 0x65 ∷ 0x64 ∷ []

-- a line where something happened
abbrev pub mark_line : ℕ → ℕ → List ℕ → Bool → Option ℕ → List ℕ
mark_line index pid word is_so number = cond is_so (line_of index (Some pid) word number None) []

-- "Per packet: jump, repeat, cut (number: sections given up, if any)"
abbrev pub mark_lines : ℕ → ℕ → Said → List ℕ
mark_lines index pid s =
    mark_line index pid jump_word s.jump None ++ (mark_line index pid repeat_word s.repeat None ++ mark_line index pid cut_word (ltb 0 s.given_up) (Some s.given_up))

-- "then sections", which stand joined at the start of the output; "The number is the table_id"
abbrev pub section_lines : ℕ → ℕ → ℕ → List ℕ → List ℕ
section_lines index pid zero out = []
section_lines index pid (suc left) out =
    line_of index (Some pid) section_word (Some (table_of out)) (Some (section_size out)) ++ section_lines index pid left (drop (section_size out) out)

-- the lines of a packet on this PID that was answered so: "A refused packet's PID is a dash; an unwanted packet prints no line"
abbrev pub lines_of : ℕ → ℕ → Answer Said → List ℕ → List ℕ
lines_of index pid (given s) out = cond s.wanted (mark_lines index pid s ++ section_lines index pid s.sections out) []
lines_of index pid (refused n) out = line_of index None refused_word (Some n) None

-- a packet's lines at most: 64 of them, of 92 bytes each
abbrev pub most : ℕ
most = 5888
