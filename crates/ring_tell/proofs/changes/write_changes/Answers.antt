-- At every turn the orders of the entries that are left, written from here on, make the whole.
use mathlib.Core.List.{map}
use mathlib.Core.Path.{◌∙◌, ap}
use mathlib.Core.Logic.{inl, inr}
use native.Mathlib.Omega.{arith}
use Rattle.std.proofs.lemmas.List.{nil_from_length}
use Rattle.laws.specs.Buffers.{owes_end}
use Rattle.row_entry.specs.View.{row_of}
use Rattle.wire_orders.specs.View.{delta_of}
use Rattle.ring_tell.specs.View.{changes_of}
use Rattle.ring_tell.proofs.Tellings.{rows_end, rows_end_other, rows_room, rows_turn}
use Rattle.ring_tell.proofs.changes.write_changes.Goals as goal

pub write_change-end-requires : goal.write_change-end-requires
write_change-end-requires c =
    let w = c.loop-old.invariant in
    let s = c.in-Some.ensures.steps in (
      c.requires.0,
      rows_room c.args.pass (delta_of c.args.delta) c.args.size (changes_of c.args.delta) (ap (map row_of) s.0) (ap (map row_of) s.1) w.1
          (omega (arith, c.requires.1, w.0)),
    )

pub loop-old-preserved : goal.loop-old-preserved
loop-old-preserved c =
    let w = c.loop-old.invariant in
    let s = c.in-Some.ensures.steps in (
      c.write_change-end.auto.out ∙ w.0,
      rows_turn c.args.pass (delta_of c.args.delta) c.args.size (changes_of c.args.delta) (ap (map row_of) s.0) (ap (map row_of) s.1) c.write_change-end.ensures w.1,
    )

pub returns : goal.returns
returns c =
    let it = c.loop-old.old-iterator in
    let pairs = changes_of c.args.delta in
    owes_end
    (elim c.in-None.ensures.steps [
      | inl e ↦ rows_end c.args.pass (delta_of c.args.delta) c.args.size pairs (map row_of it.b.rest.now) (ap (map row_of) (nil_from_length it.a.rest.now e.1.0))
      | inr e ↦ rows_end_other c.args.pass (delta_of c.args.delta) c.args.size pairs (map row_of it.a.rest.now) (ap (map row_of) (nil_from_length it.b.rest.now e.1.0))
    ])
    c.loop-old.invariant.1
