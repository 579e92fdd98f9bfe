-- One more pair, at the end of both arrays.
use borrow.Author.Rules.{rules}
use mathlib.Core.Path.{refl}
use Rattle.wire_pairs.proofs.Arrays.{pairs_push}
use Rattle.wire_pairs.specs.View.{pair_in, pairs_of}
use Rattle.wire_pairs.proofs.Pairs.push.Goals as goal

pub returns : goal.returns
unfolding pairs_of pair_in
returns c =
    let s = c.args.self.now in
    let p = c.args.pair in
    (pairs_push _ s.blocks s.numbers (search rules) (search rules) s.count p.block p.number c.requires, refl)
