-- At every turn the orders of the entries that are left, written from here on, make the whole.
use Rattle.laws.specs.Buffers.{Owes}
use Rattle.row_entry.specs.View.{row_of}
use Rattle.wire_orders.specs.View.{delta_of}
use Rattle.ring_tell.specs.View.{changes_of}
use Rattle.rules.specs.Ending.{tell_rows}
use Rattle.rules.specs.Order.{encode_all}
use lib.ListN.{length}
use mathlib.Core.List.{map}
use mathlib.Core.Path.{◌≡◌}
use Rattle.ring_tell.proofs.changes.write_changes.Given as goal

abbrev pub invariant-loop-old : goal.invariant-loop-old
invariant-loop-old l =
    (length l.out ≡ length l.initial.out)
    × Owes l.initial.out l.at (encode_all l.pass (tell_rows (delta_of l.delta) (changes_of l.delta) l.size (map row_of l.before) (map row_of l.after))) l.end l.out
    (encode_all l.pass (tell_rows (delta_of l.delta) (changes_of l.delta) l.size (map row_of l.old-iterator.a.rest.now) (map row_of l.old-iterator.b.rest.now)))
