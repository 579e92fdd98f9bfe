-- The pairs of the bytes that the chunks have left are left to put.
use mathlib.Core.Path.{sym, ◌∙◌, subst}
use mathlib.Core.List.{List}
use Prim.Native.Nat.{ℕ}
use native.Mathlib.Omega.{arith}
use lib.ListN.{get_or}
use Rattle.text_out.specs.Putting.{Owes, owes_start, owes_on, owes_end}
use Rattle.text_records.specs.Fields.{pair_word, pair_words}
use Rattle.text_records.proofs.PairWords.{pairs_on, pairs_end}
use Rattle.text_records.proofs.pairs.Goals as goal

pub loop-two-init : goal.loop-two-init
loop-two-init c =
    let made = c.chunks_exact-two-items.ensures in
    let same = c.into_iter-two-iterator.ensures.into_iter_gives in
    let all = (λ t. (same t).rest.now) ∙ made.rest in
    ((λ t. (same t).size) ∙ made.size, subst (λ (l : List ℕ). Owes c.args.output.now (pair_words c.args.bytes.now) c.args.output.now (pair_words l)) (sym all) (owes_start _ _))

pub loop-two-preserved : goal.loop-two-preserved
loop-two-preserved c =
    let step = c.in-Some.ensures.steps in
    let two = c.in-Some.two.now in
    let size = c.loop-two.invariant.0 in
    (step.0 ∙ size, owes_on (pair_word (get_or two 0 0) (get_or two 1 0)) (pairs_on two _ step.1.0 (step.1.1 ∙ size)) c.pair.ensures c.loop-two.invariant.1)

pub returns : goal.returns
returns c =
    let step = c.in-None.ensures.steps in
    owes_end (pairs_end _ (omega (arith, step.1.0, c.loop-two.invariant.0))) c.loop-two.invariant.1
