-- The place passed over so far, and the bytes from there on that are no blanks, make the place asked for.
use Prim.Native.Nat.{◌+◌, ◌≤◌, max}
use mathlib.Core.Path.{◌≡◌}
use lib.ListN.{length, drop}
use Rattle.text_words.specs.Text.{glyphs}
use Rattle.text_words.proofs.words.word_end.Given as goal

abbrev pub invariant-loop-at : goal.invariant-loop-at
invariant-loop-at l = (l.at ≤ max l.from (length l.line)) × (l.at + glyphs (drop l.at l.line) ≡ l.from + glyphs (drop l.from l.line))
