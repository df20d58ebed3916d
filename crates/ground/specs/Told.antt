-- What a call answers by name, told in document 01's terms: "When an answer is an enum, a definition states this paper's number and values for each of its cases".
use Rattle.std.specs.Prelude.{ℕ, Ok, Err}
use Rattle.std.specs.declared.result.Result.{Result}
use Rattle.ground.specs.Answer.{Answer, refused, given}
use Rattle.ground.specs.declared.Refusal.{Refusal}
use Rattle.ground.specs.declared.Refusal.TheVariants as refusal

-- document 01, "Refusal numbers", and those of document 02's requests
abbrev pub number_of : Refusal → ℕ
number_of refusal.UnsoundState = 1
number_of refusal.PacketSize = 2
number_of refusal.BufferSize = 3
number_of refusal.SyncByte = 4
number_of refusal.TransportError = 5
number_of refusal.NoPayloadNorField = 6
number_of refusal.AdaptationLength = 7
number_of refusal.ClockExtension = 8
number_of refusal.AreaContradiction = 9
number_of refusal.Scrambled = 10
number_of refusal.PointerPastEnd = 11
number_of refusal.PidRange = 12
number_of refusal.NumbersUsedUp = 13
number_of refusal.NoFreePlace = 14
number_of refusal.NoFreeArea = 15
number_of refusal.NotOpen = 16
number_of refusal.NoTable = 17
number_of refusal.SectionSize = 20
number_of refusal.SyntaxBits = 21
number_of refusal.WrongCrc = 22
number_of refusal.OtherTable = 23
number_of refusal.SectionNumber = 24
number_of refusal.SectionLength = 25
number_of refusal.InnerLength = 26
number_of refusal.NoSuchEntry = 27
number_of refusal.PesTooShort = 30
number_of refusal.PesStart = 31
number_of refusal.PesStreamId = 32
number_of refusal.PesFixedBits = 33
number_of refusal.PesStampFlags = 34
number_of refusal.PesHeaderLength = 35
number_of refusal.StampBits = 36
number_of refusal.PesWithoutLength = 37
number_of refusal.PesDsmcc = 38
number_of refusal.ClockRange = 40
number_of refusal.FieldTooShort = 41
number_of refusal.TickOrder = 70
number_of refusal.RateBytes = 80
number_of refusal.RateTicks = 81
number_of refusal.RateRecord = 82

-- an answer by name: its value told, or its refusal's number
abbrev pub told : {A B : Type 0} → (A → B) → Result A Refusal → Answer B
told f (Ok x) = given (f x)
told f (Err e) = refused (number_of e)
