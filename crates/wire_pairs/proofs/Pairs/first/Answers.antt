-- A smaller count is another view of the same arrays.
use Rattle.wire_pairs.specs.View.{pairs_from, pairs_of}
use mathlib.Core.Path.{◌∙◌, ap}
use Prim.Native.Nat.{ℕ}
use Rattle.wire_pairs.proofs.Arrays.{pairs_first}
use Rattle.wire_pairs.proofs.Pairs.first.Goals as goal

pub returns : goal.returns
unfolding pairs_of
returns c =
    let s = c.args.self.now in
    ap (λ (k : ℕ). pairs_from k s.blocks s.numbers) c.min.ensures ∙ pairs_first s.blocks s.numbers s.count c.args.count
