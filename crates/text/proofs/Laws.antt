-- Pieces of text one behind the other are one piece, and where there is room none is cut.
-- Assumes nothing.
use mathlib.Core.Path.{◌≡◌, refl, sym, ◌∙◌, ap}
use mathlib.Core.Bool.{Bool, true, false, cond}
use mathlib.Core.List.{List, [], ◌∷◌, ◌++◌, append-nil, append_assoc}
use Prim.Native.Nat.{ℕ, ◌+◌, ◌<◌}
use native.Mathlib.Nat.{add-zero}
use native.Mathlib.Numerals.{add-one}
use native.Mathlib.Omega.{arith}
use lib.Dec.{ltb}
use lib.ListN.{length, set, length-set}
use lib.Seq.{take-suc-set}
use borrow.Author.Tests.{lt-ltb}
use Rattle.text.specs.Text.{Text, shown, in_bytes, with_byte, with_bytes}
use Rattle.text.specs.Claims.{HasRoom, IsWritten}

pub with_append : (t : Text) (a b : List ℕ) → with_bytes t (a ++ b) ≡ with_bytes (with_bytes t a) b
with_append t [] b = refl
with_append t (x ∷ xs) b = with_append (with_byte t x) xs b

-- a piece behind a piece
pub next : (s : Text) {t u : Text} (a b : List ℕ) → t ≡ with_bytes s a → u ≡ with_bytes t b → u ≡ with_bytes s (a ++ b)
next s a b e f = f ∙ ap (λ (x : Text). with_bytes x b) e ∙ sym (with_append s a b)

-- a byte that has room
room : (t : Text) (b : ℕ) → t.end < length t.bytes → with_byte t b ≡ in_bytes t (set t.bytes t.end b) (t.end + 1)
room t b h = ap (λ (is_room : Bool). cond is_room (in_bytes t (set t.bytes t.end b) (t.end + 1)) t) (lt-ltb t.end (length t.bytes) h)

-- the lent bytes stay as many
pub same_size : (t : Text) (bs : List ℕ) → length (with_bytes t bs).bytes ≡ length t.bytes
same_size t [] = refl
same_size t (b ∷ bs) = same_size (with_byte t b) bs ∙ one (ltb t.end (length t.bytes))
  where
    one : (is_room : Bool) → length (cond is_room (in_bytes t (set t.bytes t.end b) (t.end + 1)) t).bytes ≡ length t.bytes
    one true = length-set t.bytes t.end b
    one false = refl

pub is_written : (t : Text) (bs : List ℕ) → HasRoom t (length bs) → IsWritten t bs (with_bytes t bs)
is_written t [] h = record { text = sym (append-nil (shown t)); end = sym (add-zero t.end) }
is_written t (b ∷ bs) h =
    let inside : t.end < length t.bytes = omega arith in
    let longer : Text = in_bytes t (set t.bytes t.end b) (t.end + 1) in
    let more : HasRoom longer (length bs) = rw (length-set t.bytes t.end b) (omega arith) in
    let rest = is_written longer bs more in
    let one : shown longer ≡ shown t ++ (b ∷ []) = rw (add-one t.end) (take-suc-set t.bytes t.end b inside) in
    rw
    (room t b inside)
    (record {
      text = rest.text ∙ ap (λ (front : List ℕ). front ++ bs) one ∙ append_assoc (shown t) (b ∷ []) bs;
      end = rest.end ∙ omega arith;
    })
