-- At every turn the pairs found so far and those missing of the rest are all that are missing.
use Rattle.wire_pairs.proofs.Arrays.{missing_end, missing_on, none_past}
use Rattle.wire_pairs.specs.View.{pairs_of}
use mathlib.Core.Bool.{not, true, false}
use mathlib.Core.List.{append-nil}
use mathlib.Core.Path.{◌∙◌, ap, sym}
use native.Mathlib.Omega.{arith}
use Rattle.wire_pairs.proofs.Pairs.missing.Goals as goal
use Rattle.wire_pairs.proofs.Pairs.missing.Goals.{then-not-holds, else-not-holds}

pub loop-i-preserved : goal.loop-i-preserved
loop-i-preserved c =
    elim c.if-not-holds.branch [
      | then-not-holds w ↦ rw w.left-is (record {
        few = omega arith;
        found = missing_on _ _ (pairs_of c.args.other.now) {k = true} c.at-pair.ensures (sym (ap not w.if-not-holds.true) ∙ ap not c.holds.ensures) w.push.ensures.0 c.loop-i.invariant.found;
      })
      | else-not-holds w ↦ rw w.left-is (record {
        few = omega arith;
        found = missing_on _ _ (pairs_of c.args.other.now) {k = false} c.at-pair.ensures (sym (ap not w.if-not-holds.false) ∙ ap not c.holds.ensures) (sym (append-nil _)) c.loop-i.invariant.found;
      })
    ]

pub returns : goal.returns
returns c =
    missing_end _ (pairs_of c.args.other.now) (none_past _ c.len-i-end.ensures.1 c.loop-i-test.false) c.loop-i.invariant.found
