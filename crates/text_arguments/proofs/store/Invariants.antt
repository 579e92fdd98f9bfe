-- The bytes of the digits that are left are still to be stored.
use Prim.Native.Nat.{◌+◌, ◌*◌}
use lib.ListN.{drop}
use Rattle.laws.specs.Buffers.{Owes}
use Rattle.text_words.specs.Text.{bytes_of}
use Rattle.text_arguments.proofs.store.Given as goal

abbrev pub invariant-loop-i : goal.invariant-loop-i
invariant-loop-i l = Owes l.initial.bytes l.from (bytes_of l.group) (l.from + l.i) l.bytes (bytes_of (drop (2 * l.i) l.group))
