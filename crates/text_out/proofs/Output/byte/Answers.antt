-- The byte stands behind those that wait, or in front.
use native.Mathlib.Omega.{arith}
use mathlib.Core.Path.{refl}
use Rattle.text_out.specs.Putting.{puts_behind, puts_in_front}
use Rattle.text_out.proofs.Output.byte.Goals as goal
use Rattle.text_out.proofs.Output.byte.Goals.{then-self-ge-SPACE, else-self-ge-SPACE}

pub returns : goal.returns
returns c =
    elim c.if-self-ge-SPACE.branch [
      | then-self-ge-SPACE w ↦ puts_in_front refl (omega arith) refl w.self-is w.drain.ensures w.if-self-ge-SPACE.true
      | else-self-ge-SPACE w ↦ puts_behind refl (omega arith) refl w.self-is w.if-self-ge-SPACE.false
    ]
