-- At every turn the pairs read so far and those that still stand there are all pairs.
use Prim.Native.Nat.{◌*◌, ◌+◌}
use Rattle.rules.specs.Event.{read_pairs}
use Rattle.std.proofs.Common.{length-append}
use Rattle.wire_events.proofs.Readings.{read_firsts, read_on}
use Rattle.wire_pairs.specs.View.{pair_in, pairs_of}
use lib.ListN.{length}
use mathlib.Core.List.{List, ◌++◌}
use Rattle.rules.specs.Picture.{Pair}
use mathlib.Core.Path.{ap}
use native.Mathlib.Omega.{arith}
use Rattle.wire_events.proofs.read_pairs.Goals as goal

pub loop-i-init : goal.loop-i-init
loop-i-init c =
    let e = c.none-pairs.ensures.0 in
    record {
      count = c.none-pairs.ensures.1;
      length = ap length e;
      whole = ap (λ (l : List Pair). l ++ read_pairs c.args.bytes.now) e;
    }

pub loop-i-preserved : goal.loop-i-preserved
unfolding pair_in
loop-i-preserved c =
    let w = c.loop-i.invariant in
    let i = c.loop-i.i in
    let e = c.push.ensures.0 in
    record {
      count = omega (arith, c.push.ensures.1, w.count);
      length = let f = simp length-append at (ap length e) in omega (arith, f, w.length);
      whole = read_on (pairs_of c.loop-i.pairs) _ c.args.bytes.now (2 * i) (2 * (i + 1)) (omega arith) (omega arith) e w.whole;
    }

pub returns : goal.returns
returns c =
    let w = c.loop-i.invariant in
    (read_firsts _ c.loop-i.i c.args.bytes.now w.length w.whole (omega arith), omega arith)
