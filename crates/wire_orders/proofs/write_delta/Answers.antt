-- The pairs of a node are the first of its two arrays.
use Prim.Native.Nat.{◌+◌, ◌≤◌}
use mathlib.Core.List.{List}
use mathlib.Core.Path.{sym, subst}
use native.Mathlib.Omega.{arith}
use lib.ListN.{length}
use Rattle.laws.specs.Buffers.{wrote_along}
use Rattle.rules.specs.Ending.{tell}
use Rattle.rules.specs.Order.{encode_all}
use Rattle.rules.specs.Picture.{Pair}
use Rattle.wire_pairs.proofs.Arrays.{pairs_slices}
use Rattle.wire_orders.specs.View.{delta_of}
use Rattle.wire_orders.proofs.write_delta.Goals as goal

pub write_deltas-requires : goal.write_deltas-requires
write_deltas-requires c =
    let a = c.args in
    (c.requires.0, subst (λ (ps : List Pair). a.at + length (encode_all a.pass (tell (delta_of a.delta) a.size ps)) ≤ length a.out.now) (sym (pairs_slices a.pairs.now c.len-n.result (omega (arith, c.len-n.ensures.0)) c.len-n.ensures.1)) c.requires.1)

pub returns : goal.returns
returns c =
    let a = c.args in
    wrote_along (λ t. encode_all a.pass (tell (delta_of a.delta) a.size (pairs_slices a.pairs.now c.len-n.result (omega (arith, c.len-n.ensures.0)) c.len-n.ensures.1 t))) c.write_deltas.ensures
