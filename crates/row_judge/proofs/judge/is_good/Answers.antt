-- The tests in their order.
use Rattle.rules.specs.Picture.{Pair, holds}
use Rattle.wire_pairs.specs.View.{pair_in, pair_of}
use Rattle.row_judge.specs.Marks.{is_good_marked}
use lib.Dec.{leb}
use mathlib.Core.Bool.{◌&&◌}
use mathlib.Core.List.{List}
use mathlib.Core.Path.{◌∙◌, ◌≡◌, ap}
use native.Mathlib.Omega.{arith}
use Rattle.row_judge.proofs.judge.is_good.Goals as goal
use Rattle.row_judge.proofs.judge.is_good.Goals.{then-contains, else-contains}

pub returns-then-not-held : goal.returns-then-not-held
unfolding is_good_marked pair_in pair_of
returns-then-not-held c =
    let allowed : c.contains.result ≡ leb 1 c.args.pair.number && leb c.args.pair.number 254 = grind (arith, c.contains.ensures.value, c.new.ensures) in
    let earlier = c.holds.ensures ∙ ap (λ (l : List Pair). holds l (pair_in c.args.pair)) c.first.ensures in
    grind (arith, allowed, earlier, c.if-not-held.true)

pub returns-else-not-held : goal.returns-else-not-held
unfolding is_good_marked pair_in pair_of
returns-else-not-held c =
    let allowed : c.contains.result ≡ leb 1 c.args.pair.number && leb c.args.pair.number 254 = grind (arith, c.contains.ensures.value, c.new.ensures) in
    elim c.if-contains.branch [
      | then-contains w ↦ grind (arith, allowed, w, c.if-not-held.either)
      | else-contains w ↦ grind (arith, allowed, w, c.if-not-held.either)
    ]
