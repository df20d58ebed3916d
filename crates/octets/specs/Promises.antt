-- What each public call promises.
use Rattle.std.specs.Prelude.{◌≡◌, List, [], ◌∷◌, ℕ, ◌+◌, min, get_or}
use Rattle.ground.specs.Number.{number_of}

-- `number_of_two`: the most significant byte comes first, as for all of them
abbrev pub ReadsTwo : ℕ → ℕ → ℕ → Type 0
ReadsTwo a b r = r ≡ number_of (a ∷ b ∷ [])

-- `number_of_three`
abbrev pub ReadsThree : ℕ → ℕ → ℕ → ℕ → Type 0
ReadsThree a b c r = r ≡ number_of (a ∷ b ∷ c ∷ [])

-- `number_of_five`
abbrev pub ReadsFive : ℕ → ℕ → ℕ → ℕ → ℕ → ℕ → Type 0
ReadsFive a b c d e r = r ≡ number_of (a ∷ b ∷ c ∷ d ∷ e ∷ [])

-- `number_of_six`
abbrev pub ReadsSix : ℕ → ℕ → ℕ → ℕ → ℕ → ℕ → ℕ → Type 0
ReadsSix a b c d e f r = r ≡ number_of (a ∷ b ∷ c ∷ d ∷ e ∷ f ∷ [])

-- `byte_at`: past the end it is 0
abbrev pub ReadsByte : List ℕ → ℕ → ℕ → Type 0
ReadsByte bytes place r = r ≡ get_or bytes place 0

-- `lesser`
abbrev pub GivesLesser : ℕ → ℕ → ℕ → Type 0
GivesLesser a b r = r ≡ min a b

-- `further`: past the end it is the end
abbrev pub GoesFurther : ℕ → ℕ → ℕ → ℕ → Type 0
GoesFurther place bytes end r = r ≡ min (place + bytes) end
