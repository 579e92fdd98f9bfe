-- The place passed over so far, and the blanks from there on, make the place asked for.
use Prim.Native.Nat.{◌+◌, ◌≤◌, max}
use mathlib.Core.Path.{◌≡◌}
use lib.ListN.{length, drop}
use Rattle.text_words.specs.Text.{blanks}
use Rattle.text_words.proofs.words.word_start.Given as goal

abbrev pub invariant-loop-at : goal.invariant-loop-at
invariant-loop-at l = (l.at ≤ max l.from (length l.line)) × (l.at + blanks (drop l.at l.line) ≡ l.from + blanks (drop l.from l.line))
