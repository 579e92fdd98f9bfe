-- The first entries, as many as there are units.
use Rattle.std.proofs.Common.{rules}
use mathlib.Core.Path.{◌≡◌}
use lib.ListN.{length}
use Rattle.rules.specs.House.{max_units}
use Rattle.registry.specs.View.{view_of}
use Rattle.registry.proofs.Ring.{ring_rows}
use Rattle.registry.proofs.image.RegistryImage.ring.Goals as goal

pub returns-clause-rows : goal.returns-clause-rows
unfolding view_of
returns-clause-rows c =
    let full : length c.args.self.now.entries ≡ max_units = search rules in
    ring_rows c.args.self.now.units c.args.self.now.entries full c.unit_count.ensures
