-- The higher digit, and then the lower.
use mathlib.Core.List.{[], ◌∷◌}
use Rattle.text_out.specs.Putting.{puts_append, puts_along}
use Rattle.text_out.specs.Spelling.{hex_of}
use Rattle.text_out.proofs.Output.hex.Goals as goal

pub returns : goal.returns
unfolding hex_of
returns c = puts_along (λ t. c.glyph.ensures t ∷ c.glyph-2.ensures t ∷ []) (puts_append c.byte.ensures c.byte-2.ensures)
