-- What is read so far, with the digits that are left, makes the number; it only grows.
use Prim.Native.Nat.{◌≤◌}
use mathlib.Core.Path.{◌≡◌}
use lib.ListN.{drop}
use Rattle.text_words.specs.Text.{number, number_from}
use Rattle.text_words.proofs.numbers.decimal.Given as goal

abbrev pub invariant-loop-byte : goal.invariant-loop-byte
invariant-loop-byte l = (l.value ≤ l.limit) × (number_from 10 l.value (drop l.byte-index l.word) ≡ number 10 l.word)
