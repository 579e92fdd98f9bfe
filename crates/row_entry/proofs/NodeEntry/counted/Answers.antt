-- The count of bad announcements stops at its limit.
use Prim.Native.Nat.{min, suc}
use mathlib.Core.Path.{◌≡◌, refl}
use native.Mathlib.Omega.{arith}
use Rattle.rules.specs.Step.{counted}
use Rattle.row_entry.specs.View.{row_of}
use Rattle.row_entry.proofs.NodeEntry.counted.Goals as goal

pub returns : goal.returns
unfolding counted row_of
returns c =
    let e : min 3 (suc c.args.self.bad) ≡ c.min.result = omega (arith, c.min.ensures, c.saturating_add.ensures) in
    (rw e refl, λ m. record { status = m.status; count = m.count; waiting = m.waiting; silent = m.silent; pairless = m.pairless; settled = m.settled })
