-- What bytes do to the register, by linearity: they are added at their places in it, and it is shifted.
-- Assumes nothing.
use mathlib.Core.Path.{◌≡◌, refl, sym, ◌∙◌, ap, ap₂}
use mathlib.Core.Bool.{Bool, true, cond}
use mathlib.Core.List.{List, [], ◌∷◌, ◌++◌}
use Prim.Native.Nat.{ℕ, zero, suc, ◌+◌, ◌-◌, ◌*◌, ◌%◌, ◌^◌, ◌<◌, ◌≤◌}
use native.Mathlib.Nat.{add-zero, mod-eq_of_lt, mul-le-mul_left}
use native.Mathlib.Omega.{arith}
use borrow.Author.Tests.{eqb-true}
use lib.Dec.{eqb}
use lib.ListN.{length, get_or, take, drop, replicate, take-append-drop}
use lib.Seq.{drop-cons, drop-drop}
use lib.Pow.{pow_mono}
use lib.Bits.{bit_xor, xor_comm, xor_zero_r, xor_shifted}
use mir.Syntax.{w32}
use Rattle.std.specs.Int.{from_be_bytes}
use Rattle.std.specs.Simd.{first_chunks}
use Rattle.crc.specs.Figure.{msb_first}
use Rattle.crc_table.specs.Table.{shift_of, shifts}
use Rattle.crc.specs.Steps.{enter_bits, enter_bytes, Begins, Enters, in_place}
use Rattle.ground.specs.Number.{Bytes}
use Rattle.ground.proofs.Entries.{every_entry, entry_at}
use Rattle.ground.proofs.Xor.{xor_assoc}
use Rattle.crc.proofs.Bridge.{residue_enter}
use Rattle.crc_table.proofs.Linear.{shift_xor, shifts_xor, shifts_add, shifts_top}

-- bits go in: their own share, and the share of what the register held
enter_xor : (bs : List Bool) (v : ℕ) → enter_bits v bs ≡ bit_xor (enter_bits 0 bs) (shifts (length bs) v)
enter_xor [] v = refl
enter_xor (b ∷ bs) v =
    let i = cond b 1 0 * 2 ^ 31 in
    let n = length bs in
    enter_xor bs (shift_of (bit_xor v i))
    ∙ ap (λ (x : ℕ). bit_xor (enter_bits 0 bs) (shifts n x)) (shift_xor v i)
    ∙ ap (λ (x : ℕ). bit_xor (enter_bits 0 bs) x) (shifts_xor n (shift_of v) (shift_of i) ∙ xor_comm (shifts n (shift_of v)) (shifts n (shift_of i)))
    ∙ sym (xor_assoc (enter_bits 0 bs) (shifts n (shift_of i)) (shifts n (shift_of v)))
    ∙ ap (λ (x : ℕ). bit_xor x (shifts n (shift_of v))) (sym (enter_xor bs (shift_of i)))

-- what the bits of a byte do one by one is eight shifts of the byte at the top: one computed test over all bytes
abbrev bits_shift : ℕ → ℕ → Bool
bits_shift b any = eqb (enter_bits 0 (msb_first 8 b)) (shifts 8 (b * 2 ^ 24))

holds : every_entry bits_shift 0 (replicate 256 0) ≡ true
unfolding shift_of
holds = refl

bits_shift_lem : (b : ℕ) → b < 256 → enter_bits 0 (msb_first 8 b) ≡ shifts 8 (b * 2 ^ 24)
bits_shift_lem b h = eqb-true (enter_bits 0 (msb_first 8 b)) (shifts 8 (b * 2 ^ 24)) (entry_at bits_shift (replicate 256 0) 0 holds b h)

-- a byte goes in: it is added at the register's top, and the register is shifted eight times
byte_shifts : (v b : ℕ) → b < 256 → enter_bits v (msb_first 8 b) ≡ shifts 8 (bit_xor v (b * 2 ^ 24))
byte_shifts v b h =
    enter_xor (msb_first 8 b) v
    ∙ ap (λ (x : ℕ). bit_xor x (shifts 8 v)) (bits_shift_lem b h)
    ∙ sym (shifts_xor 8 (b * 2 ^ 24) v)
    ∙ ap (shifts 8) (xor_comm (b * 2 ^ 24) v)

-- a byte that goes in after j others could be added at its place before them
byte_later : (j v b : ℕ) → j < 4 → b < 256 → enter_bits (shifts (8 * j) v) (msb_first 8 b) ≡ shifts (8 * suc j) (bit_xor v (b * 2 ^ (24 - 8 * j)))
byte_later j v b hj h =
    let place = b * 2 ^ (24 - 8 * j) in
    let up : 24 - 8 * j + 8 * j ≡ 24 = omega arith in
    let n : 8 * j + 8 ≡ 8 * suc j = omega arith in
    byte_shifts (shifts (8 * j) v) b h
    ∙ ap (λ (x : ℕ). shifts 8 (bit_xor (shifts (8 * j) v) x)) (sym (shifts_top (24 - 8 * j) (8 * j) b up h))
    ∙ ap (shifts 8) (sym (shifts_xor (8 * j) v place))
    ∙ shifts_add (8 * j) 8 (bit_xor v place)
    ∙ ap (λ (x : ℕ). shifts x (bit_xor v place)) n

-- up to four bytes go in: they are added at their places, and the register is shifted eight times for each
pub bytes_later : (bs : List ℕ) (j v : ℕ) → Bytes bs → j + length bs ≤ 4
    → enter_bytes (shifts (8 * j) v) bs ≡ shifts (8 * (j + length bs)) (bit_xor v (in_place j bs))
bytes_later [] j v own h =
    ap₂ (λ (x y : ℕ). shifts (8 * x) y) (sym (add-zero j)) (sym (xor_zero_r v))
bytes_later (b ∷ bs) j v own h =
    let here = bit_xor v (b * 2 ^ (24 - 8 * j)) in
    let n : suc j + length bs ≡ j + suc (length bs) = omega arith in
    ap (λ (x : ℕ). enter_bytes x bs) (byte_later j v b (omega arith) own.0)
    ∙ bytes_later bs (suc j) here own.1 (omega arith)
    ∙ ap₂ (λ (x y : ℕ). shifts (8 * x) y) n (xor_assoc v (b * 2 ^ (24 - 8 * j)) (in_place (suc j) bs))

-- the byte at i, and the rest
drop_next : (bytes : List ℕ) (i k : ℕ) → suc i ≡ k → i < length bytes → drop i bytes ≡ get_or bytes i 0 ∷ drop k bytes
drop_next bytes i k e h = drop-cons bytes i 0 h ∙ ap (λ (x : ℕ). get_or bytes i 0 ∷ drop x bytes) e

-- one turn over the n bytes that go in first: the byte at i is added at its place
pub first_turn : (bytes : List ℕ) (n i v end : ℕ) → n < 4 → i < n → n ≡ length bytes → get_or bytes i 0 < 256
    → end ≡ enter_bytes (shifts (8 * (4 - n + i)) v) (drop i bytes)
    → end ≡ enter_bytes (shifts (8 * (4 - n + (i + 1))) (bit_xor v (get_or bytes i 0 * 2 ^ (8 * (n - 1 - i)) % 2 ^ 32))) (drop (i + 1) bytes)
first_turn bytes n i v end hn hi h hb e =
    let j = 4 - n + i in
    let b = get_or bytes i 0 in
    let up = 24 - 8 * j in
    let on : 8 * suc j ≡ 8 * (4 - n + (i + 1)) = omega arith in
    let place : up ≡ 8 * (n - 1 - i) = omega arith in
    let fits : b * 2 ^ up < 2 ^ 32 = omega (arith, mul-le-mul_left b (pow_mono {i = up} {j = 24} (omega arith))) in
    e
    ∙ ap (enter_bytes (shifts (8 * j) v)) (drop_next bytes i (i + 1) (omega arith) (omega arith))
    ∙ ap (λ (x : ℕ). enter_bytes x (drop (i + 1) bytes))
    (byte_later j v b (omega arith) hb
    ∙ ap (λ (x : ℕ). shifts (8 * suc j) (bit_xor v x)) (sym (mod-eq_of_lt fits))
    ∙ ap₂ (λ (x y : ℕ). shifts x (bit_xor v (b * 2 ^ y % 2 ^ 32))) on place)

-- bytes go in one after the other
enter_append : (a b : List ℕ) (v : ℕ) → enter_bytes v (a ++ b) ≡ enter_bytes (enter_bytes v a) b
enter_append [] b v = refl
enter_append (x ∷ xs) b v = enter_append xs b (enter_bits v (msb_first 8 x))

-- with the first n bytes in it the register is at the others
pub begins : (bytes : List ℕ) (n v : ℕ) → Begins (take n bytes) v → Enters bytes n v
begins bytes n v e =
    residue_enter bytes
    ∙ ap (enter_bytes 0xFFFFFFFF) (sym (take-append-drop n bytes))
    ∙ enter_append (take n bytes) (drop n bytes) 0xFFFFFFFF
    ∙ ap (λ (x : ℕ). enter_bytes x (drop n bytes)) e

-- the four bytes from i on
abbrev pub four_at : List ℕ → ℕ → List ℕ
four_at bytes i = get_or bytes i 0 ∷ get_or bytes (i + 1) 0 ∷ get_or bytes (i + 2) 0 ∷ get_or bytes (i + 3) 0 ∷ []

four_drop : (bytes : List ℕ) (i : ℕ) → i + 4 ≤ length bytes → drop i bytes ≡ four_at bytes i ++ drop (i + 4) bytes
four_drop bytes i h =
    drop_next bytes i (i + 1) (omega arith) (omega arith)
    ∙ ap (λ (l : List ℕ). get_or bytes i 0 ∷ l) (drop_next bytes (i + 1) (i + 2) (omega arith) (omega arith)
    ∙ ap (λ (l : List ℕ). get_or bytes (i + 1) 0 ∷ l) (drop_next bytes (i + 2) (i + 3) (omega arith) (omega arith)
    ∙ ap (λ (l : List ℕ). get_or bytes (i + 2) 0 ∷ l) (drop_next bytes (i + 3) (i + 4) (omega arith) (omega arith))))

-- group k of the others
group : (count k : ℕ) (xs : List ℕ) → k < count → get_or (first_chunks 4 count xs) k [] ≡ take 4 (drop (4 * k) xs)
group zero k xs h = absurd (omega arith)
group (suc count) zero xs h = refl
group (suc count) (suc k) xs h =
    let n : 4 + 4 * k ≡ 4 * suc k = omega arith in
    group count k (drop 4 xs) (omega arith) ∙ ap (take 4) (drop-drop (4 * k) 4 xs ∙ ap (λ (x : ℕ). drop x xs) n)

pub group_is : (bytes : List ℕ) (n count k : ℕ) → k < count → n + 4 * count ≤ length bytes
    → get_or (first_chunks 4 count (drop n bytes)) k [] ≡ four_at bytes (n + 4 * k)
group_is bytes n count k h l =
    group count k (drop n bytes) h
    ∙ ap (take 4) (drop-drop (4 * k) n bytes ∙ four_drop bytes (n + 4 * k) (omega arith))

-- four bytes as a number stand at their places
word_is : (a b c d : ℕ) → Bytes (a ∷ b ∷ c ∷ d ∷ []) → from_be_bytes w32 (a ∷ b ∷ c ∷ d ∷ []) ≡ in_place 0 (a ∷ b ∷ c ∷ d ∷ [])
word_is a b c d own =
    let ha = own.0 in
    let hb = own.1.0 in
    let hc = own.1.1.0 in
    let hd = own.1.1.1.0 in
    let low = xor_zero_r (d * 2 ^ 0) in
    let two = ap (bit_xor (c * 2 ^ 8)) low ∙ xor_shifted c 8 (d * 2 ^ 0) (omega arith) in
    let three = ap (bit_xor (b * 2 ^ 16)) two ∙ xor_shifted b 16 (c * 2 ^ 8 + d * 2 ^ 0) (omega arith) in
    let four = ap (bit_xor (a * 2 ^ 24)) three ∙ xor_shifted a 24 (b * 2 ^ 16 + (c * 2 ^ 8 + d * 2 ^ 0)) (omega arith) in
    omega arith ∙ sym four

-- one turn over the others: the register has gone through, and the four bytes from i on are added to it
pub loop_turn : (bytes : List ℕ) (i v r w : ℕ) → i + 4 ≤ length bytes → Bytes (four_at bytes i)
    → r ≡ shifts 32 v → w ≡ from_be_bytes w32 (four_at bytes i) → Enters bytes i v → Enters bytes (i + 4) (bit_xor r w)
loop_turn bytes i v r w h own through added e =
    e
    ∙ ap (enter_bytes (shifts 32 v)) (four_drop bytes i h)
    ∙ ap (λ (x : ℕ). enter_bytes x (drop (i + 4) bytes))
    (bytes_later (four_at bytes i) 0 (shifts 32 v) own (omega arith)
    ∙ ap₂ (λ (x y : ℕ). shifts 32 (bit_xor x y)) (sym through) (sym (added ∙ word_is _ _ _ _ own)))
