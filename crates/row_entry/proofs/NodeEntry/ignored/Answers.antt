-- IGNORED is number 4.
use Rattle.row_entry.specs.View.{row_of, status_of}
use Rattle.rules.specs.Picture.{with_status}
use Rattle.rules.specs.Step.{ignored}
use native.Mathlib.Omega.{arith}
use Rattle.row_entry.proofs.NodeEntry.ignored.Goals as goal

pub returns : goal.returns
unfolding ignored with_status status_of row_of
returns c = (c.bare.ensures.0, c.bare.ensures.1 (omega arith) (λ e. absurd (omega (arith, e))) (λ e. absurd (omega (arith, e))))
