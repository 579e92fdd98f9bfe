-- The highest byte first.
use Prim.Native.Nat.{◌+◌}
use Rattle.rules.specs.Event.{be2, be4}
use mathlib.Core.Path.{◌≡◌}
use native.Mathlib.Omega.{arith}
use Rattle.wire_octets.proofs.read4.Goals as goal

pub returns : goal.returns
unfolding be4 be2
returns c =
    let e : c.args.at + 2 + 1 ≡ c.args.at + 3 = omega arith in
    rw e (omega (arith, c.from_be_bytes.ensures))
