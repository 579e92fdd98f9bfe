-- A copy, and what stands for no position in the seat.
use Rattle.ring_answer.proofs.Walking.{beside_copy}
use Rattle.ring_answer.proofs.hear.beside.Goals as goal

pub returns : goal.returns
returns c =
    beside_copy c.args.entries.now c.copy_from_slice.new.self _ c.args.seat c.absent.result c.copy_from_slice.ensures.after c.requires.1 c.absent.ensures.0
