-- Each order that is put leaves fewer bytes.
use lib.ListN.{length}
use Rattle.ringbox.proofs.order_lines.lines.Given as goal

abbrev pub decreases-loop-rest : goal.decreases-loop-rest
decreases-loop-rest l = length l.rest
