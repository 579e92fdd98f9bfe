-- IGNORED is number 4.
use Rattle.row_entry.specs.View.{status_of}
use Rattle.rules.specs.Picture.{no_row}
use native.Mathlib.Omega.{arith}
use Rattle.row_entry.proofs.NodeEntry.absent.Goals as goal

pub returns : goal.returns
unfolding no_row status_of
returns c = (c.bare.ensures.0, c.bare.ensures.1 (omega arith) (λ e. absurd (omega (arith, e))) (λ e. absurd (omega (arith, e))))
