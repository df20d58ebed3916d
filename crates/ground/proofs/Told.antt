-- A refusal's name is known by its number, and what an answer tells leaves nothing of it untold.
-- Assumes nothing.
use Rattle.std.proofs.Common.{◌≡◌, ap, refl, ℕ, List, [], ◌∷◌, cond, ◌==◌, Ok, Err}
use Rattle.std.specs.Prelude.{IsErrAnd}
use Rattle.std.specs.declared.result.Result.{Result}
use Rattle.ground.specs.Answer.{Answer, refused, given}
use Rattle.ground.specs.Outcome.{Determined}
use Rattle.ground.specs.Told.{number_of, told}
use Rattle.ground.specs.declared.Refusal.{Refusal}
use Rattle.ground.specs.declared.Refusal.TheVariants as refusal
use Rattle.ground.proofs.Outcome.{determined_told}

-- the first of some names that has this number, and the last where none has
abbrev first_named : ℕ → List Refusal → Refusal → Refusal
first_named n [] last = last
first_named n (e ∷ es) last = cond (n == number_of e) e (first_named n es last)

abbrev pub refusal_of : ℕ → Refusal
refusal_of n = first_named n (refusal.UnsoundState ∷ refusal.PacketSize ∷ refusal.BufferSize ∷ refusal.SyncByte ∷ refusal.TransportError ∷ refusal.NoPayloadNorField ∷ refusal.AdaptationLength ∷ refusal.ClockExtension ∷ refusal.AreaContradiction ∷ refusal.Scrambled ∷ refusal.PointerPastEnd ∷ refusal.PidRange ∷ refusal.NumbersUsedUp ∷ refusal.NoFreePlace ∷ refusal.NoFreeArea ∷ refusal.NotOpen ∷ refusal.NoTable ∷ refusal.SectionSize ∷ refusal.SyntaxBits ∷ refusal.WrongCrc ∷ refusal.OtherTable ∷ refusal.SectionNumber ∷ refusal.SectionLength ∷ refusal.InnerLength ∷ refusal.NoSuchEntry ∷ refusal.PesTooShort ∷ refusal.PesStart ∷ refusal.PesStreamId ∷ refusal.PesFixedBits ∷ refusal.PesStampFlags ∷ refusal.PesHeaderLength ∷ refusal.StampBits ∷ refusal.PesWithoutLength ∷ refusal.PesDsmcc ∷ refusal.ClockRange ∷ refusal.FieldTooShort ∷ refusal.TickOrder ∷ refusal.RateBytes ∷ refusal.RateTicks ∷ []) refusal.RateRecord

pub back_number : (e : Refusal) → refusal_of (number_of e) ≡ e
back_number refusal.UnsoundState = refl
back_number refusal.PacketSize = refl
back_number refusal.BufferSize = refl
back_number refusal.SyncByte = refl
back_number refusal.TransportError = refl
back_number refusal.NoPayloadNorField = refl
back_number refusal.AdaptationLength = refl
back_number refusal.ClockExtension = refl
back_number refusal.AreaContradiction = refl
back_number refusal.Scrambled = refl
back_number refusal.PointerPastEnd = refl
back_number refusal.PidRange = refl
back_number refusal.NumbersUsedUp = refl
back_number refusal.NoFreePlace = refl
back_number refusal.NoFreeArea = refl
back_number refusal.NotOpen = refl
back_number refusal.NoTable = refl
back_number refusal.SectionSize = refl
back_number refusal.SyntaxBits = refl
back_number refusal.WrongCrc = refl
back_number refusal.OtherTable = refl
back_number refusal.SectionNumber = refl
back_number refusal.SectionLength = refl
back_number refusal.InnerLength = refl
back_number refusal.NoSuchEntry = refl
back_number refusal.PesTooShort = refl
back_number refusal.PesStart = refl
back_number refusal.PesStreamId = refl
back_number refusal.PesFixedBits = refl
back_number refusal.PesStampFlags = refl
back_number refusal.PesHeaderLength = refl
back_number refusal.StampBits = refl
back_number refusal.PesWithoutLength = refl
back_number refusal.PesDsmcc = refl
back_number refusal.ClockRange = refl
back_number refusal.FieldTooShort = refl
back_number refusal.TickOrder = refl
back_number refusal.RateBytes = refl
back_number refusal.RateTicks = refl
back_number refusal.RateRecord = refl

module _ {A B : Type 0} where
  -- the answer that tells so, where a value is known by what it tells
  abbrev pub made : (B → A) → Answer B → Result A Refusal
  made g (given y) = Ok (g y)
  made g (refused n) = Err (refusal_of n)

  pub back : (f : A → B) (g : B → A) → ((x : A) → g (f x) ≡ x) → (r : Result A Refusal) → made g (told f r) ≡ r
  back f g h (Ok x) = ap Ok (h x)
  back f g h (Err e) = ap Err (back_number e)

  -- cited for every public call that may be refused
  pub determined_answer : (f : A → B) (g : B → A) → ((x : A) → g (f x) ≡ x) → (definition : Answer B) → Determined (λ (r : Result A Refusal). told f r ≡ definition)
  determined_answer f g h definition = determined_told (told f) (made g) (back f g h) definition

  -- a refusal that `?` passes on keeps its number
  pub passed_on : (f : A → B) (r : Result A Refusal) (e : Refusal) → IsErrAnd r (λ x. x ≡ e) → told f r ≡ refused (number_of e)
  passed_on f (Ok x) e h = absurd h
  passed_on f (Err x) e h = ap (λ (y : Refusal). refused (number_of y)) h
