-- What private functions promise, here and in the calls: the set of the places that pass a test, and what a call leaves that may be refused; no public promise cites it.
use Rattle.std.specs.Prelude.{◌≡◌, Bool, false, List, ℕ, ◌<◌, length, get_or, Ok, Err}
use Rattle.std.specs.declared.result.Result.{Result}
use Rattle.ground.specs.declared.Refusal.{Refusal}
use Rattle.ground.specs.House.{place_count}
use Rattle.ground.specs.Set.{set_of}
use Rattle.state.specs.declared.After.{After}
use Rattle.state.specs.declared.State.{State}

-- the test may be asked about every place
abbrev pub MayAsk : {F : Type 0} → (F → ℕ → Type 0) → F → Type 0
MayAsk pre f = (place : ℕ) → place < place_count → pre f place

-- the set of those places of which the test says so, whatever it answers of each
abbrev pub IsSet : (ℕ → Bool → Type 0) → ℕ → Type 0
IsSet says r =
    (l : List Bool) → length l ≡ place_count → ((place : ℕ) (b : Bool) → place < place_count → says place b → b ≡ get_or l place false)
    → r ≡ set_of (λ b. b) l

-- the answer of a call and the state after it, which is the given one where the call was refused
abbrev pub settled : {A : Type 0} → State → Result (After A) Refusal → After (Result A Refusal)
settled given (Ok done) = record { state = done.state; answer = Ok done.answer }
settled given (Err why) = record { state = given; answer = Err why }
