-- One place down, one at a time: those moved so far, and those behind the place.
use Rattle.unit_answers.proofs.Keeping.{moved_end, moved_on, newest_all, newest_later}
use Rattle.unit_answers.specs.View.{answers_of}
use lib.ListN.{drop_of_length-le}
use mathlib.Core.Path.{◌∙◌}
use native.Mathlib.Omega.{arith}
use Rattle.unit_answers.proofs.DecentralRegistry.with_room.Goals as goal

pub returns-then-len-lt-MAX_ANSWERS : goal.returns-then-len-lt-MAX_ANSWERS
returns-then-len-lt-MAX_ANSWERS c =
    (newest_all 63 (answers_of c.args.self.now) (omega (arith, c.len.ensures.1, c.if-len-lt-MAX_ANSWERS.true)), omega (arith, c.len.ensures.0, c.if-len-lt-MAX_ANSWERS.true))

pub loop-i-preserved : goal.loop-i-preserved
loop-i-preserved c =
    let w = c.loop-i.invariant in
    record { moved = omega (arith, w.moved, c.push.ensures.1); found = moved_on (answers_of c.loop-i.later) _ c.at.ensures c.push.ensures.0 w.found }

pub returns : goal.returns
returns c =
    let w = c.loop-i.invariant in
    let ks = answers_of c.args.self.now in (
      moved_end _ (drop_of_length-le ks {i = c.loop-i.i} (omega (arith, c.len.ensures, c.loop-i-test.false))) w.found
          ∙ newest_later 63 ks (omega (arith, c.len.ensures.0, c.len.ensures.1, c.if-len-lt-MAX_ANSWERS.false)),
      omega (arith, w.moved, c.loop-i.auto.i-end),
    )
