-- The others, as many of the newest as leave a place, and the answer behind them.
use native.Mathlib.Omega.{arith}
use Rattle.wire_pairs.specs.View.{pair_in, pair_of}
use Rattle.unit_answers.proofs.Keeping.{remembered}
use Rattle.unit_answers.specs.View.{answers_of, known_in}
use Rattle.unit_answers.proofs.DecentralRegistry.remember.Goals as goal

pub returns : goal.returns
unfolding known_in pair_in pair_of
returns c =
    (remembered (known_in c.args.known) (answers_of c.args.self.now) c.besides-others.ensures.0 c.with_room-next.ensures.0 c.push.ensures.0, omega (arith, c.with_room-next.ensures.1, c.push.ensures.1))
