-- The pair at one place of both arrays.
use borrow.Author.Rules.{rules}
use Rattle.wire_pairs.proofs.Arrays.{pairs_here}
use Rattle.wire_pairs.specs.View.{pair_in, pairs_of}
use Rattle.wire_pairs.proofs.Pairs.at.Goals as goal

pub returns : goal.returns
unfolding pairs_of pair_in
returns c =
    let s = c.args.self.now in
    pairs_here _ s.blocks s.numbers (search rules) (search rules) s.count c.args.place c.requires
