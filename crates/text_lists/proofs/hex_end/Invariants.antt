-- The place passed over so far, and the bytes from there on that stand before two blanks in a row, make the place asked for.
use Prim.Native.Nat.{◌+◌, ◌≤◌, max}
use mathlib.Core.Path.{◌≡◌}
use lib.ListN.{length, drop}
use Rattle.text_lists.specs.Lists.{close_length, hex_length}
use Rattle.text_lists.proofs.hex_end.Given as goal

abbrev pub invariant-loop-at : goal.invariant-loop-at
invariant-loop-at l = (l.at ≤ max l.start (length l.line)) × (l.at + close_length (drop l.at l.line) ≡ l.from + hex_length (drop l.from l.line))
