-- A table that starts empty, marked twice.
use Rattle.laws.specs.Lists.{collect}
use Rattle.wire_pairs.specs.View.{pairs_of}
use Rattle.row_entry.specs.View.{row_of}
use Rattle.row_renumber.proofs.Numbers.{least_free_lem}
use Rattle.rules.specs.Picture.{pairs_in}
use mathlib.Core.List.{map}
use mathlib.Core.Path.{◌∙◌}
use Rattle.row_renumber.proofs.free.free_number.Goals as goal

pub returns : goal.returns
returns c =
    c.least_unmarked.ensures ∙ least_free_lem (collect pairs_in (map row_of c.args.entries.now)) (pairs_of c.args.announced.now) c.args.block c.mark_entries.ensures c.mark_pairs.ensures
