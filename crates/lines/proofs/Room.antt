-- A packet's lines always fit: at most 61 sections, three marks, and lines of at most 92 bytes.
-- Assumes nothing.
use mathlib.Core.Path.{◌≡◌, refl}
use mathlib.Core.Bool.{Bool, true, false, cond}
use mathlib.Core.List.{List, [], ◌++◌}
use Prim.Native.Nat.{ℕ, zero, suc, ◌*◌, ◌≤◌}
use native.Mathlib.Omega.{arith}
use native.Mathlib.Numerals.{unary_clauses}
use lib.Dec.{ltb}
use lib.ListN.{length, drop, length-append}
use Rattle.ground.specs.Answer.{Answer, refused, given}
use Rattle.section.specs.Section.{table_of, section_size}
use Rattle.packet_call.specs.Packet.{Said, pid_of, packet_of}
use Rattle.state.specs.declared.State.{State}
use Rattle.driver.proofs.Limits.{packet_limits}
use Rattle.text.proofs.Digits.{decimal_length}
use Rattle.lines.specs.Lines.{cell_of, line_of, mark_line, mark_lines, section_lines, lines_of, jump_word, repeat_word, cut_word, section_word, refused_word, most}
use Rattle.std.specs.Prelude.{Option, Some, None}

cell_short : (c : Option ℕ) → length (cell_of c) ≤ 20
cell_short (Some n) = decimal_length n
cell_short None = omega arith

line_short : (index : ℕ) (pid : Option ℕ) (word : List ℕ) (number bytes : Option ℕ) → length word ≤ 7 → length (line_of index pid word number bytes) ≤ 92
line_short index pid word number bytes h =
    let i = decimal_length index in
    let p = cell_short pid in
    let n = cell_short number in
    let b = cell_short bytes in
    simp length-append (omega arith)

mark_short : (index pid : ℕ) (word : List ℕ) (is_so : Bool) (number : Option ℕ) → length word ≤ 7 → length (mark_line index pid word is_so number) ≤ 92
mark_short index pid word true number h = line_short index (Some pid) word number None h
mark_short index pid word false number h = omega arith

marks_short : (index pid : ℕ) (s : Said) → length (mark_lines index pid s) ≤ 276
marks_short index pid s =
    let a = mark_short index pid jump_word s.jump None (omega arith) in
    let b = mark_short index pid repeat_word s.repeat None (omega arith) in
    let c = mark_short index pid cut_word (ltb 0 s.given_up) (Some s.given_up) (omega arith) in
    simp length-append (omega arith)

sections_short : (index pid count : ℕ) (out : List ℕ) → length (section_lines index pid count out) ≤ count * 92
sections_short index pid zero out = omega arith
sections_short index pid (suc count) out =
    let line = line_of index (Some pid) section_word (Some (table_of out)) (Some (section_size out)) in
    let a = line_short index (Some pid) section_word (Some (table_of out)) (Some (section_size out)) (omega arith) in
    let b = sections_short index pid count (drop (section_size out) out) in
    rw (length-append line (section_lines index pid count (drop (section_size out) out))) (simp unary_clauses (omega arith))

answer_short : (index pid : ℕ) (a : Answer Said) (out : List ℕ) → ((s : Said) → a ≡ given s → s.sections ≤ 61) → length (lines_of index pid a out) ≤ most
answer_short index pid (refused n) out few = let l = line_short index None refused_word (Some n) None (omega arith) in omega arith
answer_short index pid (given s) out few = go s.wanted
  where
    go : (b : Bool) → length (cond b (mark_lines index pid s ++ section_lines index pid s.sections out) []) ≤ most
    go true =
        let a = marks_short index pid s in
        let b = sections_short index pid s.sections out in
        let c = few s refl in
        rw (length-append (mark_lines index pid s) (section_lines index pid s.sections out)) (omega arith)
    go false = omega arith

pub lines_fit : (s : State) (p store out sets : List ℕ) (index : ℕ) → let a = packet_of s p store out sets in length (lines_of index (pid_of p) a.answer a.out) ≤ most
lines_fit s p store out sets index =
    let a = packet_of s p store out sets in
    answer_short index (pid_of p) a.answer a.out (λ said e. (packet_limits s p store out sets said e).sections)
