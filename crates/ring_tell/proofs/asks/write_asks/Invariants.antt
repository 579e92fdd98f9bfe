-- At every turn the ASKs of the entries that are left, written from here on, make the whole.
use Prim.Native.Nat.{◌+◌}
use Rattle.laws.specs.Buffers.{Owes}
use Rattle.row_entry.specs.View.{row_of}
use Rattle.ring_tell.specs.View.{which_of}
use Rattle.rules.specs.Order.{encode_all}
use Rattle.rules.specs.Step.{asks}
use lib.ListN.{drop, length}
use mathlib.Core.List.{map}
use mathlib.Core.Path.{◌≡◌}
use Rattle.ring_tell.proofs.asks.write_asks.Given as goal

abbrev pub invariant-loop-i : goal.invariant-loop-i
invariant-loop-i l =
    (length l.out ≡ length l.initial.out)
    × Owes l.initial.out l.at (encode_all l.pass (asks (which_of l.which) 1 (map row_of l.entries))) l.end l.out
    (encode_all l.pass (asks (which_of l.which) (l.i + 1) (map row_of (drop l.i l.entries))))
