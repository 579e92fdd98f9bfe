-- One more answer, at the end of the three arrays.
use borrow.Author.Rules.{rules}
use mathlib.Core.Path.{refl}
use Rattle.unit_answers.proofs.Arrays.{known_push}
use Rattle.unit_answers.specs.View.{answers_of, known_in, known_of}
use Rattle.wire_pairs.specs.View.{pair_in, pair_of}
use Rattle.unit_answers.proofs.DecentralRegistry.push.Goals as goal

pub returns : goal.returns
unfolding answers_of known_in known_of pair_in pair_of
returns c =
    let s = c.args.self.now in
    let k = c.args.known in
    (known_push _ s.blocks s.numbers s.addresses (search rules) (search rules) (search rules) s.count k.pair.block k.pair.number k.address.0 c.requires, refl)
