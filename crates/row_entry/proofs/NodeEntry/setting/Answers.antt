-- SETTING is number 1.
use mathlib.Core.Path.{refl}
use Rattle.row_entry.specs.View.{status_of}
use Rattle.row_entry.proofs.NodeEntry.setting.Goals as goal

pub returns : goal.returns
unfolding status_of
returns c = (c.keeping.ensures.0, c.keeping.ensures.1 refl)
