-- The count is 0.
use Rattle.laws.specs.Views.{firsts}
use Rattle.wire_pairs.specs.View.{pairs_from, pairs_of}
use mathlib.Core.Path.{refl}
use Rattle.wire_pairs.proofs.Pairs.none.Goals as goal

pub returns : goal.returns
unfolding pairs_of pairs_from firsts
returns c = (refl, refl)
