-- What each public call promises.
use Rattle.std.specs.Prelude.{◌≡◌, List, ℕ}
use Rattle.ground.specs.Lent.{Lent, part}
use Rattle.text.specs.Text.{Text, shown, emptied, with_byte, with_bytes, decimal_of}

-- `new`: no text in the bytes that are lent
abbrev pub BeginsText : ℕ → List ℕ → Text → Type 0
BeginsText loan bytes r = r ≡ record { loan = loan; bytes = bytes; end = 0 }

-- `clear`
abbrev pub ClearsText : Text → Text → Type 0
ClearsText t r = r ≡ emptied t

-- `byte`: its outcome is every lent byte after it, and where the text ends then; the bytes stay those that were lent
abbrev pub WritesByte : Text → ℕ → Text → Type 0
WritesByte t b r = r ≡ with_byte t b

-- `word`: the same
abbrev pub WritesWord : Text → List ℕ → Text → Type 0
WritesWord t letters r = r ≡ with_bytes t letters

-- `decimal`: the same
abbrev pub WritesDecimal : Text → ℕ → Text → Type 0
WritesDecimal t n r = r ≡ with_bytes t (decimal_of n)

-- `written`
abbrev pub LendsText : Text → List ℕ → Type 0
LendsText t r = r ≡ shown t

-- `first`
abbrev pub LendsFirst : Lent → ℕ → Lent → Type 0
LendsFirst l size r = r ≡ part l 0 size
