-- Document 01, "Tables" (CRC_32): the decoder model of H.222.0 Annex A, as its figure shows it: 32 delay elements z(0) to z(31) and 14 adders modulo 2.
use Rattle.std.specs.Prelude.{Bool, true, false, cond, not, List, [], ◌∷◌, ℕ, zero, suc, ◌+◌, ◌*◌, eqb, ltb, get_or, take, replicate}
use Rattle.ground.specs.Walk.{count, all}
use Rattle.ground.specs.Number.{bits}

-- an adder modulo 2
infixl 60 ◌⊕◌
abbrev pub ◌⊕◌ : Bool → Bool → Bool
true ⊕ b = not b
false ⊕ b = b

-- the places of the adders between the delay elements: i is the one behind z(i). With the adder at the input they are 14; the source's list leaves 0 out
abbrev pub adders : List ℕ
adders = 0 ∷ 1 ∷ 3 ∷ 4 ∷ 6 ∷ 7 ∷ 9 ∷ 10 ∷ 11 ∷ 15 ∷ 21 ∷ 22 ∷ 25 ∷ []

-- whether an adder stands behind z(i)
abbrev pub adder_behind : ℕ → Bool
adder_behind i = ltb 0 (count (eqb i) adders)

-- what the elements z(i), z(i + 1), .. hand on to the ones after them: where an adder stands behind an element, its sum with the feedback
abbrev pub hand_on : Bool → ℕ → List Bool → List Bool
hand_on feedback i [] = []
hand_on feedback i (z ∷ zs) = cond (adder_behind i) (z ⊕ feedback) z ∷ hand_on feedback (suc i) zs

-- one bit goes in: the input adder's sum with z(31) is the feedback, which z(0) takes; every other element takes what the one before it hands on
unfoldable pub tick : List Bool → Bool → List Bool
tick z input = let feedback = input ⊕ get_or z 31 false in feedback ∷ hand_on feedback 0 (take 31 z)

-- the last k bits of a number, most significant first
abbrev pub msb_first : ℕ → ℕ → List Bool
msb_first zero n = []
msb_first (suc k) n = eqb (bits n k 1) 1 ∷ msb_first k n

-- bits go in one after the other
abbrev pub bits_in : List Bool → List Bool → List Bool
bits_in z [] = z
bits_in z (b ∷ bs) = bits_in (tick z b) bs

-- bytes go in one after the other, the most significant bit of each first
abbrev pub bytes_in : List Bool → List ℕ → List Bool
bytes_in z [] = z
bytes_in z (b ∷ bs) = bytes_in (bits_in z (msb_first 8 b)) bs

-- the delay elements, z(0) first, when the bytes have gone in; at the start each holds 1
unfoldable pub decoder : List ℕ → List Bool
decoder bytes = bytes_in (replicate 32 true) bytes

-- CRC_32 is right when the decoder model ends at zero (document 01, Tables)
unfoldable pub right : List ℕ → Bool
right bytes = all not (decoder bytes)

-- what delay elements hold, as a number: the first is the least significant bit
abbrev pub register_of : List Bool → ℕ
register_of [] = 0
register_of (z ∷ zs) = register_of zs * 2 + cond z 1 0

-- what the decoder model ends at, as a number with z(31) as its most significant bit
unfoldable pub residue_of : List ℕ → ℕ
residue_of bytes = register_of (decoder bytes)
