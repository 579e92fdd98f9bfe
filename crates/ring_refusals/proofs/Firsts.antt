-- The first of two refusals.
use Prim.Native.Nat.{ℕ}
use mathlib.Core.Path.{◌≡◌, refl}
use Rattle.numbers.specs.Numbers.{number_of}
use Rattle.numbers.specs.declared.Refusal.{Refusal}
use Rattle.numbers.specs.declared.Refusal.TheVariants as refusals
use Rattle.ring_refusals.specs.Numbers.{or_else}

-- no refusal has the number 0, so the second is not asked for
pub or_refused : (r : Refusal) (n : ℕ) → or_else (number_of r) n ≡ number_of r
unfolding or_else
or_refused refusals.OrderRoomTooShort n = refl
or_refused refusals.RecordMalformed n = refl
or_refused refusals.NotRunning n = refl
or_refused refusals.AlreadyRunning n = refl
or_refused refusals.WrongPass n = refl
or_refused refusals.NoSuchPosition n = refl
or_refused refusals.PositionIgnored n = refl
or_refused refusals.NotAsked n = refl
or_refused refusals.NoPassLeft n = refl
or_refused refusals.IllegalSize n = refl
or_refused refusals.PayloadTooLong n = refl
or_refused refusals.NoSuchTelegram n = refl
or_refused refusals.RoomTooShort n = refl
or_refused refusals.TelegramMalformed n = refl
or_refused refusals.TelIdPassedOver n = refl
or_refused refusals.OutOfSequence n = refl
or_refused refusals.NotListed n = refl
or_refused refusals.NotOk n = refl
or_refused refusals.RowsNotRising n = refl
or_refused refusals.NoRoomForDifferences n = refl
