-- LISTED is number 2.
use mathlib.Core.Path.{refl}
use Rattle.row_entry.specs.View.{status_of}
use Rattle.row_entry.proofs.NodeEntry.listed.Goals as goal

pub returns : goal.returns
unfolding status_of
returns c = (c.keeping.ensures.0, c.keeping.ensures.2 refl refl refl)
