-- What is left of the line, without the dropped bytes at its end, is the length asked for.
use Prim.Native.Nat.{◌-◌}
use mathlib.Core.Path.{◌≡◌}
use mathlib.Core.List.{reverse}
use lib.ListN.{take}
use Rattle.laws.specs.Runs.{leading}
use Rattle.text_words.specs.Text.{is_dropped, trimmed_length}
use Rattle.text_words.proofs.words.trimmed.Given as goal

abbrev pub invariant-loop-n : goal.invariant-loop-n
invariant-loop-n l = l.n - leading is_dropped (reverse (take l.n l.line)) ≡ trimmed_length l.line
