-- One entry more in each turn; all of them at the end.
use Rattle.std.proofs.Common.{arith, refl, add-one, take_all}
use Rattle.laws.specs.Alls.{each_nil}
use Rattle.ring_entries.proofs.Rows.{each_more}
use Rattle.ring_entries.proofs.changes.all_changed.Goals as goal

pub loop-entry-init : goal.loop-entry-init
loop-entry-init g c = (each_nil, refl)

pub loop-entry-preserved : goal.loop-entry-preserved
loop-entry-preserved g c =
    let w = c.loop-entry.invariant in
    let k = each_more c.loop-entry.entry-index _ c.step.result _ c.loop-entry.entries (omega arith) w.0 w.1 c.step.ensures in
    rw add-one k

pub returns : goal.returns
returns g c =
    let w = c.loop-entry.invariant in
    simp (take_all c.loop-entry.entry-index c.args.entries.now c.loop-entry-test.false, take_all c.loop-entry.entry-index c.loop-entry.entries (omega arith)) at w.0
