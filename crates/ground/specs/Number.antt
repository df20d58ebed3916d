-- Bytes as numbers, most significant byte first (H.222.0 2.2.6), and the bits of a number.
use Rattle.std.specs.Prelude.{Bool, List, [], ◌∷◌, ℕ, zero, suc, ◌+◌, ◌*◌, ◌/◌, ◌%◌, ◌^◌, ◌<◌, eqb, get_or}
use Rattle.ground.specs.Walk.{Every}

-- the number that goes on with the bytes after what came before them
abbrev pub number_from : ℕ → List ℕ → ℕ
number_from before [] = before
number_from before (b ∷ bs) = number_from (before * 256 + b) bs

-- the number that the bytes are
abbrev pub number_of : List ℕ → ℕ
number_of bs = number_from 0 bs

-- the k bytes from place i on; past the end of the list there are zeros
abbrev pub bytes_at : List ℕ → ℕ → ℕ → List ℕ
bytes_at s i zero = []
bytes_at s i (suc k) = get_or s i 0 ∷ bytes_at s (suc i) k

-- the number in the k bytes from place i on
abbrev pub number_at : List ℕ → ℕ → ℕ → ℕ
number_at s i k = number_of (bytes_at s i k)

-- the k bytes that hold a number below 256 ^ k
abbrev pub bytes_of : ℕ → ℕ → List ℕ
bytes_of zero n = []
bytes_of (suc k) n = (n / 256 ^ k % 256) ∷ bytes_of k n

-- the field of `width` bits of n that has `after` bits after it
abbrev pub bits : ℕ → ℕ → ℕ → ℕ
bits n after width = n / 2 ^ after % 2 ^ width

-- the flag of n that has `after` bits after it is set
abbrev pub is_flagged : ℕ → ℕ → Bool
is_flagged n after = eqb (bits n after 1) 1

-- a field: how many bits it has, and its value
pub record Field : Type 0 where
  pub width : ℕ
  pub value : ℕ

abbrev pub field : ℕ → ℕ → Field
field width value = record { width = width; value = value }

-- how many bits the fields have
abbrev pub widths : List Field → ℕ
widths [] = 0
widths (f ∷ fs) = f.width + widths fs

-- the number whose bits are the fields side by side, the first the most significant
abbrev pub pack : List Field → ℕ
pack [] = 0
pack (f ∷ fs) = f.value * 2 ^ widths fs + pack fs

-- each is a byte
abbrev pub Bytes : List ℕ → Type 0
Bytes = Every (λ b. b < 256)
