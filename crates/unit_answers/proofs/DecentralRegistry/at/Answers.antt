-- The answer at one place of the three arrays.
use borrow.Author.Rules.{rules}
use Rattle.unit_answers.proofs.Arrays.{known_here}
use Rattle.unit_answers.specs.View.{answers_of, known_in, known_of}
use Rattle.wire_pairs.specs.View.{pair_in, pair_of}
use Rattle.unit_answers.proofs.DecentralRegistry.at.Goals as goal

pub returns : goal.returns
unfolding answers_of known_in known_of pair_in pair_of
returns c =
    let s = c.args.self.now in
    known_here _ s.blocks s.numbers s.addresses (search rules) (search rules) (search rules) s.count c.args.place c.requires
