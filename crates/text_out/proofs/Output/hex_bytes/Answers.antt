-- The bytes behind those that are put are left to put.
use lib.ListN.{get_or, drop_of_length-le}
use Rattle.laws.specs.Runs.{drop_here}
use Rattle.text_out.specs.Putting.{owes_start, owes_on, owes_end}
use Rattle.text_out.specs.Spelling.{hex_of}
use Rattle.text_out.proofs.Filling.{collect_on, collect_end}
use Rattle.text_out.proofs.Output.hex_bytes.Goals as goal

pub loop-byte-init : goal.loop-byte-init
loop-byte-init c = owes_start _ _

pub loop-byte-preserved : goal.loop-byte-preserved
loop-byte-preserved c =
    let bytes = c.args.bytes.now in
    let i = c.loop-byte.byte-index in
    owes_on (hex_of (get_or bytes i 0)) (collect_on hex_of (drop_here bytes i 0 c.loop-byte-test.true)) c.hex.ensures c.loop-byte.invariant

pub returns : goal.returns
returns c = owes_end (collect_end hex_of (drop_of_length-le _ c.loop-byte-test.false)) c.loop-byte.invariant
