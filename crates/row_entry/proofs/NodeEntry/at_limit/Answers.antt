-- The count by its number.
use Rattle.row_entry.specs.View.{row_of}
use Rattle.rules.specs.Step.{at_limit}
use mathlib.Core.Path.{refl}
use Rattle.row_entry.proofs.NodeEntry.at_limit.Goals as goal

pub returns : goal.returns
unfolding at_limit row_of
returns c = refl
