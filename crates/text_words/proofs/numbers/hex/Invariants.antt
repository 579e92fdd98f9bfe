-- What is read so far, with the digits that are left, makes the last 32 bits of the number.
use Prim.Native.Nat.{◌%◌, ◌<◌}
use mathlib.Core.Path.{◌≡◌}
use lib.ListN.{drop}
use Rattle.text_words.specs.Text.{number, number_from}
use Rattle.text_words.proofs.numbers.hex.Given as goal

abbrev pub invariant-loop-byte : goal.invariant-loop-byte
invariant-loop-byte l = (l.value < 4294967296) × (number_from 16 l.value (drop l.byte-index l.word) % 4294967296 ≡ number 16 l.word % 4294967296)
