-- As many as are counted, and no more than there are places.
use borrow.Author.Rules.{rules}
use mathlib.Core.Path.{◌∙◌, sym}
use Rattle.unit_answers.proofs.Arrays.{known_length}
use Rattle.unit_answers.specs.View.{answers_of}
use Rattle.unit_answers.proofs.DecentralRegistry.len.Goals as goal

pub returns : goal.returns
unfolding answers_of
returns c =
    let s = c.args.self.now in
    (c.min.ensures, known_length _ s.blocks s.numbers s.addresses (search rules) (search rules) (search rules) s.count ∙ sym c.min.ensures)
