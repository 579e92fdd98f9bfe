-- One entry, 63 times.
use Rattle.laws.specs.Views.{firsts_replicate}
use Rattle.laws.specs.Alls.{all_replicate}
use Rattle.rules.specs.House.{max_units}
use Rattle.row_entry.specs.View.{row_of, rows_of}
use lib.ListN.{replicate}
use mathlib.Core.Path.{◌∙◌, ap}
use Rattle.registry.proofs.image.new_entries.Goals as goal

pub returns : goal.returns
unfolding rows_of
returns c = (λ k h. firsts_replicate row_of k max_units c.new.result h ∙ ap (replicate k) c.new.ensures.0, all_replicate max_units c.new.result c.new.ensures.1)
