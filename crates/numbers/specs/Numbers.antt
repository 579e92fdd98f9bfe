-- The number of each refusal, as paper 01 and the tickets give it.
use Rattle.std.specs.Prelude.{ℕ, Result, Ok, Err}
use Rattle.numbers.specs.declared.Refusal.{Refusal}
use Rattle.numbers.specs.declared.Refusal.TheVariants as refusals

abbrev pub number_of : Refusal → ℕ
number_of refusals.OrderRoomTooShort = 1
number_of refusals.RecordMalformed = 2
number_of refusals.NotRunning = 3
number_of refusals.AlreadyRunning = 4
number_of refusals.WrongPass = 5
number_of refusals.NoSuchPosition = 6
number_of refusals.PositionIgnored = 7
number_of refusals.NotAsked = 8
number_of refusals.NoPassLeft = 9
number_of refusals.IllegalSize = 10
number_of refusals.PayloadTooLong = 11
number_of refusals.NoSuchTelegram = 12
number_of refusals.RoomTooShort = 13
number_of refusals.TelegramMalformed = 14
number_of refusals.TelIdPassedOver = 15
number_of refusals.OutOfSequence = 16
number_of refusals.NotListed = 17
number_of refusals.NotOk = 18
number_of refusals.RowsNotRising = 20
number_of refusals.NoRoomForDifferences = 21

-- the number of an answer: 0 where it is no refusal
abbrev pub number_in : {A : Type 0} → Result A Refusal → ℕ
number_in (Ok a) = 0
number_in (Err r) = number_of r
