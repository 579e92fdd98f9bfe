-- As many as are counted, and no more than there are places.
use borrow.Author.Rules.{rules}
use mathlib.Core.Path.{◌∙◌, sym}
use Rattle.wire_pairs.proofs.Arrays.{pairs_count}
use Rattle.wire_pairs.proofs.Pairs.len.Goals as goal

pub returns : goal.returns
returns c = (c.min.ensures, pairs_count c.args.self.now (search rules) (search rules) ∙ sym c.min.ensures)
