-- The bytes behind those that are put are left to put.
use mathlib.Core.List.{[], ◌∷◌}
use lib.ListN.{get_or}
use Rattle.laws.specs.Runs.{drop_here}
use Rattle.text_out.specs.Putting.{owes_start, owes_on}
use Rattle.text_out.proofs.Output.bytes.Goals as goal

pub loop-byte-init : goal.loop-byte-init
loop-byte-init c = owes_start _ _

pub loop-byte-preserved : goal.loop-byte-preserved
loop-byte-preserved c =
    let bytes = c.args.bytes.now in
    let i = c.loop-byte.byte-index in
    owes_on (get_or bytes i 0 ∷ []) (drop_here bytes i 0 c.loop-byte-test.true) c.byte.ensures c.loop-byte.invariant
