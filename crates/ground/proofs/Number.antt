-- Bytes and the number that they are, there and back, for any count of bytes.
-- Assumes nothing.
use mathlib.Core.Path.{◌≡◌, refl, sym, ◌∙◌, ap, ap₂}
use mathlib.Core.List.{List, [], ◌∷◌}
use Prim.Native.Nat.{ℕ, zero, suc, ◌+◌, ◌*◌, ◌/◌, ◌%◌, ◌^◌, ◌<◌, ◌≤◌}
use native.Mathlib.Nat.{zero-mul, zero-add, mod-lt, mod-eq_of_lt, mul_assoc, mul_comm, add-mul, add_assoc, pow-suc}
use native.Mathlib.Omega.{arith}
use lib.Arith.{digits_div, digits_mod, digits_lt, mod-mul}
use lib.Dec.{lit<}
use lib.ListN.{length, get_or, take, drop}
use lib.Seq.{drop-cons}
use Rattle.ground.specs.Number.{number_from, number_of, number_at, bytes_of, bytes_at, Bytes}
use Rattle.ground.specs.Write.{put}
use Rattle.ground.proofs.Walk.{every_take, every_drop}
use Rattle.ground.proofs.Write.{length-put, written, put_same}

pub length-bytes_of : (k n : ℕ) → length (bytes_of k n) ≡ k
length-bytes_of zero n = refl
length-bytes_of (suc k) n = ap suc (length-bytes_of k n)

-- what is made of a number is bytes
pub bytes_of-bytes : (k n : ℕ) → Bytes (bytes_of k n)
bytes_of-bytes zero n = tt
bytes_of-bytes (suc k) n = (mod-lt (n / 256 ^ k) (lit< tt), bytes_of-bytes k n)

pub power_pos : (k : ℕ) → 0 < 256 ^ k
power_pos zero = lit< tt
power_pos (suc k) = let h = power_pos k in rw (pow-suc 256 k) (omega arith)

power : (k : ℕ) → 256 ^ suc k ≡ 256 * 256 ^ k
power k = pow-suc 256 k ∙ mul_comm (256 ^ k) 256

-- one byte more before the others
shift : (before b k rest : ℕ) → (before * 256 + b) * 256 ^ k + rest ≡ before * 256 ^ suc k + (b * 256 ^ k + rest)
shift before b k rest =
    rw (add-mul, add_assoc, power k) (ap (λ (x : ℕ). x + (b * 256 ^ k + rest)) (mul_assoc before 256 (256 ^ k)))

-- bytes read after what came before them shift it by their count
pub number_after : (k n before : ℕ) → number_from before (bytes_of k n) ≡ before * 256 ^ k + n % 256 ^ k
number_after zero n before = omega arith
number_after (suc k) n before =
    number_after k n (before * 256 + n / 256 ^ k % 256)
    ∙ shift before (n / 256 ^ k % 256) k (n % 256 ^ k)
    ∙ ap (λ (x : ℕ). before * 256 ^ suc k + x) (sym (ap (λ (x : ℕ). n % x) (power k) ∙ mod-mul n (lit< tt) (power_pos k)))

-- the number is read back from its bytes
pub number_bytes : (k n : ℕ) → n < 256 ^ k → number_of (bytes_of k n) ≡ n
number_bytes k n h = number_after k n 0 ∙ rw (zero-mul, zero-add) (mod-eq_of_lt h)

-- what stands before some bytes is there again when they are cut off, and what they are is the rest
pub number_split : (bs : List ℕ) (before : ℕ) → Bytes bs
    → (number_from before bs ≡ before * 256 ^ length bs + number_of bs) × (number_of bs < 256 ^ length bs)
number_split [] before h = (omega arith, lit< tt)
number_split (b ∷ bs) before h =
    let rest = number_split bs (before * 256 + b) h.1 in
    let own = (number_split bs (0 * 256 + b) h.1).0 ∙ shift 0 b (length bs) (number_of bs) in (
      rest.0 ∙ shift before b (length bs) (number_of bs) ∙ omega arith,
      rw (own, zero-mul, zero-add, power (length bs)) (digits_lt h.0 rest.1),
    )

-- the bytes are made again of their number
pub bytes_after : (bs : List ℕ) (before : ℕ) → Bytes bs → bytes_of (length bs) (number_from before bs) ≡ bs
bytes_after [] before h = refl
bytes_after (b ∷ bs) before h =
    let split = number_split bs (before * 256 + b) h.1 in
    ap₂ (λ (x : ℕ) (xs : List ℕ). x ∷ xs)
    (ap (λ (x : ℕ). x / 256 ^ length bs % 256) split.0
    ∙ ap (λ (x : ℕ). x % 256) (digits_div (before * 256 + b) split.1)
    ∙ digits_mod before h.0)
    (bytes_after bs (before * 256 + b) h.1)

pub bytes_number : (bs : List ℕ) → Bytes bs → bytes_of (length bs) (number_of bs) ≡ bs
bytes_number bs h = bytes_after bs 0 h

-- ---- bytes at a place
pub length-bytes_at : (s : List ℕ) (i k : ℕ) → length (bytes_at s i k) ≡ k
length-bytes_at s i zero = refl
length-bytes_at s i (suc k) = ap suc (length-bytes_at s (suc i) k)

-- they are a part of the list
pub bytes_at_part : (s : List ℕ) (i k : ℕ) → i + k ≤ length s → bytes_at s i k ≡ take k (drop i s)
bytes_at_part s i zero h = refl
bytes_at_part s i (suc k) h =
    rw (drop-cons s i 0 (omega arith)) (ap (λ (t : List ℕ). get_or s i 0 ∷ t) (bytes_at_part s (suc i) k (omega arith)))

pub bytes_at-bytes : (s : List ℕ) (i k : ℕ) → i + k ≤ length s → Bytes s → Bytes (bytes_at s i k)
bytes_at-bytes s i k h b = rw (bytes_at_part s i k h) (every_take (λ (x : ℕ). x < 256) k (drop i s) (every_drop (λ (x : ℕ). x < 256) i s b))

-- what was written there is read there
pub bytes_at-put : (d : List ℕ) (i : ℕ) (s : List ℕ) → i + length s ≤ length d → bytes_at (put d i s) i (length s) ≡ s
bytes_at-put d i s h = bytes_at_part (put d i s) i (length s) (rw (length-put d i s h) h) ∙ written d i s h

-- a number that was written is read there; a number that was read is made of the bytes there, and is written back
module _ (s : List ℕ) (i k : ℕ) (fits : i + k ≤ length s) where
  pub number_at-put : (n : ℕ) → n < 256 ^ k → number_at (put s i (bytes_of k n)) i k ≡ n
  number_at-put n h =
      ap number_of
      (ap (λ (m : ℕ). bytes_at (put s i (bytes_of k n)) i m) (sym (length-bytes_of k n))
      ∙ bytes_at-put s i (bytes_of k n) (rw (length-bytes_of k n) fits))
      ∙ number_bytes k n h

  pub number_at_lt : Bytes s → number_at s i k < 256 ^ k
  number_at_lt b =
      rw (length-bytes_at s i k) at (number_split (bytes_at s i k) 0 (bytes_at-bytes s i k fits b)).1

  pub bytes-number_at : Bytes s → bytes_of k (number_at s i k) ≡ take k (drop i s)
  bytes-number_at b =
      ap (λ (m : ℕ). bytes_of m (number_at s i k)) (sym (length-bytes_at s i k))
      ∙ bytes_number (bytes_at s i k) (bytes_at-bytes s i k fits b)
      ∙ bytes_at_part s i k fits

  pub put-number_at : Bytes s → put s i (bytes_of k (number_at s i k)) ≡ s
  put-number_at b = ap (λ (bs : List ℕ). put s i bs) (bytes-number_at b) ∙ put_same s i k fits
