-- The last two of the four bytes.
use Rattle.rules.specs.Event.{two}
use lib.ListN.{get_or}
use lib.Seq.{sets}
use mathlib.Core.List.{[], ◌∷◌}
use native.Mathlib.Numerals.{towards_suc}
use Rattle.wire_octets.proofs.write2.Goals as goal

pub returns : goal.returns
unfolding two
returns c =
    simp towards_suc (λ i. sets c.args.buffer.now c.args.at (get_or (c.to_be_bytes.ensures i) 2 0 ∷ get_or (c.to_be_bytes.ensures i) 3 0 ∷ []))
