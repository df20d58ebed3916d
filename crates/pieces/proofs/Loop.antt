-- One packet and then the rest of them are all of them, and so are pieces of any size.
-- Assumes nothing.
use Rattle.std.proofs.Common.{◌≡◌, ℕ, zero, suc, ◌+◌, ◌*◌, List, ◌++◌, length, take, drop, sym, refl, ap, ap₂, ◌∙◌, append_assoc, suc-add, zero-add, arith, drop-drop, length-append, take_at, drop_at}
use Rattle.text.specs.Text.{Text, with_bytes}
use Rattle.text.proofs.Laws.{next}
use Rattle.pieces.specs.Input.{Work, after_call, next_lines, after_calls, whole_in, printed}
use Rattle.pieces.specs.Steps.{Lists}

-- ---- one turn of the loop: a packet, and the rest of the bytes behind it
module _ (w w' : Work) (t t' : Text) (bytes packet rest : List ℕ) (parts : bytes ≡ packet ++ rest) (whole : length packet ≡ 188) (l : Lists (after_call w packet) (next_lines w packet) t w' t') where
  counted : whole_in bytes ≡ suc (whole_in rest)
  counted = let all = ap length parts ∙ length-append packet rest in omega arith

  front : take 188 bytes ≡ packet
  front = rw parts (take_at packet rest 188 whole)

  behind : drop 188 bytes ≡ rest
  behind = rw parts (drop_at packet rest 188 whole)

  pub work_turn : after_calls (whole_in rest) w' rest ≡ after_calls (whole_in bytes) w bytes
  work_turn =
      ap (λ (x : Work). after_calls (whole_in rest) x rest) l.work
      ∙ ap₂ (λ (p r : List ℕ). after_calls (whole_in rest) (after_call w p) r) (sym front) (sym behind)
      ∙ ap (λ (n : ℕ). after_calls n w bytes) (sym counted)

  pub text_turn : with_bytes t' (printed (whole_in rest) w' rest) ≡ with_bytes t (printed (whole_in bytes) w bytes)
  text_turn =
      ap (λ (x : Work). with_bytes t' (printed (whole_in rest) x rest)) l.work
      ∙ next t (next_lines w packet) (printed (whole_in rest) (after_call w packet) rest) l.text refl
      ∙ ap₂ (λ (p r : List ℕ). with_bytes t (next_lines w p ++ printed (whole_in rest) (after_call w p) r)) (sym front) (sym behind)
      ∙ ap (λ (n : ℕ). with_bytes t (printed n w bytes)) (sym counted)

-- ---- m packets, and then n
later : (m : ℕ) (bytes : List ℕ) → drop (m * 188) (drop 188 bytes) ≡ drop (suc m * 188) bytes
later m bytes = let all : 188 + m * 188 ≡ suc m * 188 = omega arith in drop-drop (m * 188) 188 bytes ∙ ap (λ (k : ℕ). drop k bytes) all

pub work_on : (m n : ℕ) (w : Work) (bytes : List ℕ) → after_calls (m + n) w bytes ≡ after_calls n (after_calls m w bytes) (drop (m * 188) bytes)
work_on zero n w bytes = rw (zero-add n) refl
work_on (suc m) n w bytes = rw (suc-add m n, ← later m bytes) (work_on m n (after_call w (take 188 bytes)) (drop 188 bytes))

pub lines_on : (m n : ℕ) (w : Work) (bytes : List ℕ)
    → printed (m + n) w bytes ≡ printed m w bytes ++ printed n (after_calls m w bytes) (drop (m * 188) bytes)
lines_on zero n w bytes = rw (zero-add n) refl
lines_on (suc m) n w bytes =
    let w' = after_call w (take 188 bytes) in
    let b' = drop 188 bytes in
    let lines = next_lines w (take 188 bytes) in
    rw (suc-add m n, ← later m bytes)
    (ap (λ (x : List ℕ). lines ++ x) (lines_on m n w' b') ∙ sym (append_assoc lines (printed m w' b') (printed n (after_calls m w' b') (drop (m * 188) b'))))
