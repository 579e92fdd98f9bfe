-- The count of silences stops at its limit.
use Prim.Native.Nat.{min, suc}
use mathlib.Core.Path.{◌≡◌, refl}
use native.Mathlib.Omega.{arith}
use Rattle.rules.specs.Step.{silenced}
use Rattle.row_entry.specs.View.{row_of, status_of}
use Rattle.row_entry.proofs.NodeEntry.silenced.Goals as goal

pub returns : goal.returns
unfolding silenced status_of row_of
returns c =
    let e : min 20 (suc c.args.self.silences) ≡ c.min-silences.result = omega (arith, c.min-silences.ensures, c.saturating_add.ensures) in
    (rw e c.bare.ensures.0, c.bare.ensures.1 (omega arith) (λ e. absurd (omega (arith, e))) (λ e. refl))
