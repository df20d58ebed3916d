-- What is claimed of the definitions and the promises, and proved.
use Rattle.std.specs.Prelude.{◌≡◌, List, [], ◌∷◌, ◌++◌, ℕ, ◌+◌, ◌*◌, ◌-◌, ◌^◌, ◌≤◌, ◌<◌, length}
use Rattle.ground.specs.Lent.{Lent}
use Rattle.ground.specs.Outcome.{Determined}
use Rattle.text.specs.Text.{Text, shown, with_bytes, decimal_of}
use Rattle.text.specs.Promises.{BeginsText, ClearsText, WritesByte, WritesWord, WritesDecimal, LendsText, LendsFirst}

-- there is room for so many bytes more
abbrev pub HasRoom : Text → ℕ → Type 0
HasRoom t n = t.end + n ≤ length t.bytes

-- all of the bytes stand behind the text
pub record IsWritten (t : Text) (bs : List ℕ) (r : Text) : Type 0 where
  pub text : shown r ≡ shown t ++ bs
  pub end : r.end ≡ t.end + length bs

-- the number that digits are, after what came before them
abbrev pub value_from : ℕ → List ℕ → ℕ
value_from before [] = before
value_from before (d ∷ ds) = value_from (before * 10 + (d - 48)) ds

pub record Claims : Type 0 where
  -- any two outcomes that a promise admits are equal
  pub begins_text : (loan : ℕ) (bytes : List ℕ) → Determined (BeginsText loan bytes)
  pub clears_text : (t : Text) → Determined (ClearsText t)
  pub writes_byte : (t : Text) (b : ℕ) → Determined (WritesByte t b)
  pub writes_word : (t : Text) (letters : List ℕ) → Determined (WritesWord t letters)
  pub writes_decimal : (t : Text) (n : ℕ) → Determined (WritesDecimal t n)
  pub lends_text : (t : Text) → Determined (LendsText t)
  pub lends_first : (l : Lent) (size : ℕ) → Determined (LendsFirst l size)
  -- no byte is left out where there is room
  pub is_written : (t : Text) (bs : List ℕ) → HasRoom t (length bs) → IsWritten t bs (with_bytes t bs)
  -- the lent bytes stay as many
  pub size : (t : Text) (bs : List ℕ) → length (with_bytes t bs).bytes ≡ length t.bytes
  -- a number has at most 20 digits
  pub digits : (n : ℕ) → length (decimal_of n) ≤ 20
  -- and below 10^20 they are the number
  pub value : (n : ℕ) → n < 10 ^ 20 → value_from 0 (decimal_of n) ≡ n
