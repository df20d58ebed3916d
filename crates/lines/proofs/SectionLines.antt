-- A section's line, and the lines of what is left of the output, are the lines of all of it.
-- Assumes nothing.
use mathlib.Core.Path.{◌≡◌, sym, ◌∙◌, ap, ap₂}
use mathlib.Core.List.{List}
use Prim.Native.Nat.{ℕ, suc, ◌+◌, min}
use lib.ListN.{length, drop}
use Rattle.ground.proofs.Part.{drop_both}
use Rattle.section.specs.Section.{table_of, section_size}
use Rattle.text.specs.Text.{Text, with_bytes}
use Rattle.text.proofs.Laws.{with_append}
use Rattle.lines.specs.Lines.{line_of, section_word, section_lines}
use Rattle.std.specs.Prelude.{Some}

pub progress : (t t' : Text) (index pid left after place : ℕ) (out : List ℕ) (b size place' : ℕ) → left ≡ suc after
    → b ≡ table_of (drop place out) → size ≡ section_size (drop place out) → place' ≡ min (place + size) (length out)
    → t' ≡ with_bytes t (line_of index (Some pid) section_word (Some b) (Some size))
    → with_bytes t' (section_lines index pid after (drop place' out)) ≡ with_bytes t (section_lines index pid left (drop place out))
progress t t' index pid left after place out b size place' el eb es ep et =
    let o = drop place out in
    let line = line_of index (Some pid) section_word (Some (table_of o)) (Some (section_size o)) in
    let rest = section_lines index pid after (drop (section_size o) o) in
    let same : t' ≡ with_bytes t line = et ∙ ap₂ (λ (x y : ℕ). with_bytes t (line_of index (Some pid) section_word (Some x) (Some y))) eb es in
    let left_over : drop place' out ≡ drop (section_size o) o = ap (λ (k : ℕ). drop k out) ep ∙ drop_both out place size ∙ ap (λ (k : ℕ). drop k o) es in
    rw (el, left_over, same) (sym (with_append t line rest))
