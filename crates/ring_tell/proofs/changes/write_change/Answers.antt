-- The pairs that have changed.
use Rattle.rules.specs.Picture.{Pair}
use Rattle.laws.specs.Buffers.{wrote_along}
use Rattle.wire_orders.specs.View.{delta_of}
use Rattle.rules.specs.Ending.{tell}
use Rattle.rules.specs.Order.{encode_all}
use mathlib.Core.List.{List}
use mathlib.Core.Path.{ap}
use Rattle.ring_tell.proofs.changes.write_change.Goals as goal

pub write_delta-requires : goal.write_delta-requires
write_delta-requires c =
    (c.requires.0, rw c.changes-pairs.ensures c.requires.1)

pub returns : goal.returns
returns c =
    wrote_along (ap (λ (ps : List Pair). encode_all c.args.pass (tell (delta_of c.args.delta) c.args.size ps)) c.changes-pairs.ensures) c.write_delta.ensures
