-- Text that a program prints, as it grows.
use Rattle.std.specs.Prelude.{cond, List, [], ◌∷◌, ◌++◌, ℕ, zero, suc, ◌+◌, ◌/◌, ◌%◌, ltb, length, take, set}
use Rattle.text.specs.declared.Text as code

-- lent bytes, of which the first are text: the loan's name, the bytes, and where the text ends
pub record Text : Type 0 where
  pub loan : ℕ
  pub bytes : List ℕ
  pub end : ℕ

-- what the code holds
abbrev pub told_text : code.Text → Text
told_text t = record { loan = t.bytes.ghost_name; bytes = t.bytes.now; end = t.end }

-- this text in these bytes, up to this end
abbrev pub in_bytes : Text → List ℕ → ℕ → Text
in_bytes t bytes end = record { loan = t.loan; bytes = bytes; end = end }

-- the same bytes, and no text
abbrev pub emptied : Text → Text
emptied t = in_bytes t t.bytes 0

-- the text itself
abbrev pub shown : Text → List ℕ
shown t = take t.end t.bytes

-- one byte more; where it has no place, all is left as it is
abbrev pub with_byte : Text → ℕ → Text
with_byte t b = cond (ltb t.end (length t.bytes)) (in_bytes t (set t.bytes t.end b) (t.end + 1)) t

-- one byte after the other
abbrev pub with_bytes : Text → List ℕ → Text
with_bytes t [] = t
with_bytes t (b ∷ bs) = with_bytes (with_byte t b) bs

-- the decimal digits of a number that has at most so many, the most significant first
abbrev pub digits_of : ℕ → ℕ → List ℕ
digits_of zero n = []
digits_of (suc most) n = cond (ltb n 10) ((48 + n) ∷ []) (digits_of most (n / 10) ++ ((48 + n % 10) ∷ []))

-- the decimal digits of a number below 10^20, as every number of 64 bits is
unfoldable pub decimal_of : ℕ → List ℕ
decimal_of n = digits_of 20 n
