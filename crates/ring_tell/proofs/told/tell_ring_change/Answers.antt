-- The ASKs, then INVALID.
use Rattle.row_entry.specs.View.{row_of}
use Rattle.rules.specs.Order.{Order, INVALID}
use Rattle.rules.specs.Picture.{is_open}
use Rattle.rules.specs.Step.{asks}
use Rattle.rules.specs.Ending.{tell}
use Rattle.wire_orders.proofs.Writing.{start_first, start_second, wrote_orders}
use Rattle.wire_pairs.specs.View.{zip_pairs}
use mathlib.Core.List.{List, map}
use mathlib.Core.Path.{refl}
use native.Mathlib.Omega.{arith}
use Rattle.ring_tell.proofs.told.tell_ring_change.Goals as goal

pub write_asks-asked-requires : goal.write_asks-asked-requires
write_asks-asked-requires c =
    let asked : List Order = asks is_open 1 (map row_of c.args.entries.now) in
    let told : List Order = tell INVALID c.args.size (zip_pairs c.args.blocks.now c.args.numbers.now) in
    (c.requires.1, omega (arith, start_first c.args.pass (asked) (told) refl c.args.out.now c.requires.2))

pub write_deltas-requires : goal.write_deltas-requires
write_deltas-requires c =
    let asked : List Order = asks is_open 1 (map row_of c.args.entries.now) in
    let told : List Order = tell INVALID c.args.size (zip_pairs c.args.blocks.now c.args.numbers.now) in
    (c.requires.0, start_second c.args.pass (asked) (told) refl c.args.out.now c.requires.2 c.write_asks-asked.ensures)

pub returns : goal.returns
returns c =
    let asked : List Order = asks is_open 1 (map row_of c.args.entries.now) in
    let told : List Order = tell INVALID c.args.size (zip_pairs c.args.blocks.now c.args.numbers.now) in
    wrote_orders c.args.pass (asked) (told) c.write_asks-asked.ensures c.write_deltas.ensures
