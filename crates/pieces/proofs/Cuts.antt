-- However the input is cut into reads, it is listed as one.
-- Assumes nothing.
use Rattle.std.proofs.Common.{◌≡◌, ℕ, zero, suc, ◌+◌, ◌-◌, ◌*◌, ◌/◌, ◌%◌, ◌<◌, ◌≤◌, List, [], ◌++◌, length, take, drop, sym, refl, ap, ◌∙◌, ap₂, append_assoc, append-nil, arith, length-append, length-drop, take-append-drop, length-take-le, drop-drop, take_at, take-add}
use lib.Seq.{take-append-le, drop-append-le}
use Rattle.ground.specs.Write.{put}
use Rattle.ground.proofs.Part.{slice_take, length_part}
use Rattle.pieces.specs.Input.{Work, after_call, next_lines, after_calls, printed, Between, whole_in, after_read, lines_read}
use Rattle.pieces.proofs.Loop.{work_on, lines_on}

-- ---- calls on the first packets look at no bytes behind them
pub work_first : (n : ℕ) (w : Work) (a b : List ℕ) → n * 188 ≤ length a → after_calls n w (a ++ b) ≡ after_calls n w a
work_first zero w a b h = refl
work_first (suc n) w a b h =
    rw (take-append-le 188 a b (omega arith), drop-append-le 188 a b (omega arith))
    (work_first n (after_call w (take 188 a)) (drop 188 a) b (rw (length-drop 188 a) (omega arith)))

pub lines_first : (n : ℕ) (w : Work) (a b : List ℕ) → n * 188 ≤ length a → printed n w (a ++ b) ≡ printed n w a
lines_first zero w a b h = refl
lines_first (suc n) w a b h =
    rw (take-append-le 188 a b (omega arith), drop-append-le 188 a b (omega arith))
    (ap (λ (l : List ℕ). next_lines w (take 188 a) ++ l) (lines_first n (after_call w (take 188 a)) (drop 188 a) b (rw (length-drop 188 a) (omega arith))))

-- ---- the whole packets of a piece's first bytes are the piece's first packets
module _ (w : Work) (piece first : List ℕ) (end : ℕ) (h : end ≤ length piece) (e : first ≡ take end piece) where
  many : whole_in first ≡ end / 188
  many = ap (λ (l : List ℕ). whole_in l) e ∙ ap (λ (n : ℕ). n / 188) (length-take-le end piece h)

  some : end / 188 * 188 ≤ length (take end piece)
  some = rw (length-take-le end piece h) (omega arith)

  pub first_work : after_calls (whole_in first) w first ≡ after_calls (end / 188) w piece
  first_work =
      ap₂ (λ (n : ℕ) (l : List ℕ). after_calls n w l) many e
      ∙ sym (work_first (end / 188) w (take end piece) (drop end piece) some)
      ∙ ap (λ (l : List ℕ). after_calls (end / 188) w l) (take-append-drop end piece)

  pub first_lines : printed (whole_in first) w first ≡ printed (end / 188) w piece
  first_lines =
      ap₂ (λ (n : ℕ) (l : List ℕ). printed n w l) many e
      ∙ sym (lines_first (end / 188) w (take end piece) (drop end piece) some)
      ∙ ap (λ (l : List ℕ). printed (end / 188) w l) (take-append-drop end piece)

-- ---- two reads are one of all their bytes
module _ (b : Between) (x y : List ℕ) where
  abbrev first : List ℕ
  first = b.kept ++ x

  abbrev n : ℕ
  n = whole_in first

  abbrev second : List ℕ
  second = drop (n * 188) first ++ y

  inside : n * 188 ≤ length first
  inside = omega arith

  joined : b.kept ++ (x ++ y) ≡ first ++ y
  joined = sym (append_assoc b.kept x y)

  behind : drop (n * 188) (first ++ y) ≡ second
  behind = drop-append-le (n * 188) first y inside

  counted : whole_in (first ++ y) ≡ n + whole_in second
  counted =
      let all = length-append first y in
      let some = length-append (drop (n * 188) first) y in
      let rest = length-drop (n * 188) first in
      omega arith

  work_second : after_calls (whole_in (first ++ y)) b.work (first ++ y) ≡ after_calls (whole_in second) (after_calls n b.work first) second
  work_second =
      ap (λ (k : ℕ). after_calls k b.work (first ++ y)) counted
      ∙ work_on n (whole_in second) b.work (first ++ y)
      ∙ ap₂ (λ (w : Work) (l : List ℕ). after_calls (whole_in second) w l) (work_first n b.work first y inside) behind

  kept_second : drop (whole_in (first ++ y) * 188) (first ++ y) ≡ drop (whole_in second * 188) second
  kept_second =
      let all : whole_in (first ++ y) * 188 ≡ n * 188 + whole_in second * 188 = rw counted (omega arith) in
      ap (λ (k : ℕ). drop k (first ++ y)) all
      ∙ sym (drop-drop (whole_in second * 188) (n * 188) (first ++ y))
      ∙ ap (λ (l : List ℕ). drop (whole_in second * 188) l) behind

  pub read_read : after_read (after_read b x) y ≡ after_read b (x ++ y)
  read_read =
      ap₂ (λ (w : Work) (l : List ℕ). record { work = w; kept = l }) (sym work_second) (sym kept_second)
      ∙ ap (λ (l : List ℕ). record { work = after_calls (whole_in l) b.work l; kept = drop (whole_in l * 188) l }) (sym joined)

  pub lines_lines : lines_read b (x ++ y) ≡ lines_read b x ++ lines_read (after_read b x) y
  lines_lines =
      ap (λ (l : List ℕ). printed (whole_in l) b.work l) joined
      ∙ ap (λ (k : ℕ). printed k b.work (first ++ y)) counted
      ∙ lines_on n (whole_in second) b.work (first ++ y)
      ∙ ap₂ (λ (u v : List ℕ). u ++ v) (lines_first n b.work first y inside)
      (ap₂ (λ (w : Work) (l : List ℕ). printed (whole_in second) w l) (work_first n b.work first y inside) behind)

-- ---- a read of nothing changes nothing, where less than a packet is kept
pub read_none : (b : Between) → length b.kept < 188 → after_read b [] ≡ b
read_none b h =
    let none : length b.kept / 188 ≡ 0 = omega arith in
    ap (λ (l : List ℕ). record { work = after_calls (whole_in l) b.work l; kept = drop (whole_in l * 188) l }) (append-nil b.kept)
    ∙ ap (λ (n : ℕ). record { work = after_calls n b.work b.kept; kept = drop (n * 188) b.kept }) none

-- ---- what was read behind the kept bytes: the piece holds both
module _ (w : Work) (piece : List ℕ) (rest size : ℕ) (h : rest + size ≤ length piece) where
  abbrev b : Between
  b = record { work = w; kept = take rest piece }

  abbrev bytes : List ℕ
  bytes = take size (drop rest piece)

  abbrev end : ℕ
  end = rest + size

  together : b.kept ++ bytes ≡ take end piece
  together = sym (take-add rest size piece)

  counted_all : length (take end piece) ≡ end
  counted_all = length-take-le end piece h

  within : end / 188 * 188 ≤ length (take end piece)
  within = rw counted_all (omega arith)

  pub piece_work : after_calls (end / 188) w piece ≡ (after_read b bytes).work
  piece_work =
      ap (λ (l : List ℕ). after_calls (end / 188) w l) (sym (take-append-drop end piece))
      ∙ work_first (end / 188) w (take end piece) (drop end piece) within
      ∙ ap (λ (m : ℕ). after_calls (m / 188) w (take end piece)) (sym counted_all)
      ∙ ap (λ (l : List ℕ). after_calls (whole_in l) w l) (sym together)

  pub piece_lines : printed (end / 188) w piece ≡ lines_read b bytes
  piece_lines =
      ap (λ (l : List ℕ). printed (end / 188) w l) (sym (take-append-drop end piece))
      ∙ lines_first (end / 188) w (take end piece) (drop end piece) within
      ∙ ap (λ (m : ℕ). printed (m / 188) w (take end piece)) (sym counted_all)
      ∙ ap (λ (l : List ℕ). printed (whole_in l) w l) (sym together)

  pub piece_kept : take (end % 188) (put piece 0 (take (end % 188) (drop (end - end % 188) piece))) ≡ (after_read b bytes).kept
  unfolding put
  piece_kept =
      let m = end % 188 in
      let from = end - m in
      let start : from ≡ end / 188 * 188 = omega arith in
      let all : from + m ≡ end = omega arith in
      take_at (take m (drop from piece)) (drop (0 + length (take m (drop from piece))) piece) m (length_part m piece from (omega arith))
      ∙ sym (slice_take from m piece)
      ∙ ap₂ (λ (f t : ℕ). drop f (take t piece)) start all
      ∙ ap (λ (e : ℕ). drop (e / 188 * 188) (take end piece)) (sym counted_all)
      ∙ ap (λ (l : List ℕ). drop (whole_in l * 188) l) (sym together)
