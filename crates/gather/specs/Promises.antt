-- What each public call promises.
use Rattle.std.specs.Prelude.{◌≡◌, Bool, List, ℕ}
use Rattle.std.specs.declared.result.Result.{Result}
use Rattle.ground.specs.declared.Refusal.{Refusal}
use Rattle.gather.specs.Rule.{leaves_none}
use Rattle.gather.specs.Memory.{held_of, sound_marks, contradicts_of, told_gathering, leaves, gather_of}
use Rattle.gather.specs.declared.Marks.{Marks}
use Rattle.gather.specs.declared.Gathered.{Gathered}

-- `sound`
abbrev pub TellsSound : Marks → Bool → Type 0
TellsSound marks r = r ≡ sound_marks marks

-- `held_of`
abbrev pub TellsHeld : Marks → ℕ → Type 0
TellsHeld marks r = r ≡ held_of marks

-- `contradicts`
abbrev pub TellsContradiction : ℕ → List ℕ → ℕ → Bool → Type 0
TellsContradiction held store base r = r ≡ contradicts_of held store base

-- `leaves_none`
abbrev pub TellsNoneLeft : Bool → List ℕ → Bool → Type 0
TellsNoneLeft start payload r = r ≡ leaves_none start payload

-- `gather`: its outcome is the answer with the store and the output after it
abbrev pub Gathers : Marks → ℕ → Bool → List ℕ → List ℕ → ℕ → List ℕ → Result Gathered Refusal × List ℕ × List ℕ → Type 0
Gathers marks counter start payload store base out o = leaves (told_gathering o.0) o.1 o.2 ≡ gather_of marks counter start payload store base out
