-- What was seen or marked so far, and what is left to look at, are the whole.
use Rattle.laws.specs.Views.{any_end}
use Rattle.wire_pairs.specs.View.{pairs_of}
use Rattle.row_judge.proofs.Holding.{held_end, held_on}
use Rattle.rules.specs.Picture.{bars, keeps}
use mathlib.Core.Path.{refl}
use Rattle.ring_answer.proofs.Walking.{beside_here, beside_past, seen_next}
use Rattle.ring_answer.proofs.survey.survey_of.Goals as goal

pub loop-i-init : goal.loop-i-init
loop-i-init c = (refl, refl, refl)

pub loop-i-preserved : goal.loop-i-preserved
loop-i-preserved c =
    let w = c.loop-i.invariant in
    let a = c.args.address.0 in
    let here = beside_here c.args.entries.now c.loop-i.i c.args.seat _ c.loop-i-test.true c.seen_at-other.ensures in (
      seen_next (bars a) c.loop-i.claims.barred here c.with-claims.ensures.0 w.0,
      seen_next (keeps a) c.loop-i.claims.kept here c.with-claims.ensures.1 w.1,
      held_on c.loop-i.held (pairs_of c.args.announced.now) here c.pairs.ensures c.mark_held.ensures w.2,
    )

pub returns : goal.returns
returns c =
    let w = c.loop-i.invariant in
    let a = c.args.address.0 in
    let past = beside_past c.args.entries.now c.loop-i.i c.args.seat c.loop-i-test.false in
    record {
      barred = any_end (bars a) c.loop-i.claims.barred past w.0;
      kept = any_end (keeps a) c.loop-i.claims.kept past w.1;
      held = held_end c.loop-i.held (pairs_of c.args.announced.now) past w.2;
    }
