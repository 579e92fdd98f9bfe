-- Of the entries of the ring.
use Rattle.laws.specs.Lists.{select}
use Rattle.rules.specs.Picture.{Row, is_open}
use lib.ListN.{length}
use mathlib.Core.List.{List}
use mathlib.Core.Path.{◌∙◌, ap}
use Rattle.registry.proofs.image.RegistryImage.open_questions.Goals as goal

pub returns : goal.returns
returns c = c.open_count.ensures ∙ ap (λ (rs : List Row). length (select is_open rs)) c.ring.ensures.rows
