-- Both counts are 0.
use Rattle.rules.specs.Picture.{new_row}
use Rattle.row_entry.proofs.NodeEntry.new.Goals as goal

pub returns : goal.returns
unfolding new_row
returns c = c.waiting.ensures
