-- WAITING is number 0.
use Rattle.row_entry.specs.View.{status_of}
use mathlib.Core.Path.{refl}
use native.Mathlib.Omega.{arith}
use Rattle.row_entry.proofs.NodeEntry.waiting.Goals as goal

pub returns : goal.returns
unfolding status_of
returns c = (c.bare.ensures.0, c.bare.ensures.1 (omega arith) (λ e. refl) (λ e. absurd (omega (arith, e))))
