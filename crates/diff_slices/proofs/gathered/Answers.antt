-- A turn gathers the row that is looked at; at the end no row is left.
use Prim.Native.Nat.{◌+◌}
use mathlib.Core.List.{List, map}
use mathlib.Core.Path.{sym, ◌∙◌, ap}
use lib.ListN.{drop, drop_of_length-le}
use Rattle.laws.specs.Runs.{drop_here}
use Rattle.row_node.specs.View.{node_row_of}
use Rattle.row_node.specs.declared.NodeRow.{NodeRow}
use Rattle.diff_rows.specs.Gathering.{Gathering, gathering_of, gathered_all}
use Rattle.diff_slices.proofs.gathered.Goals as goal

pub loop-row-preserved : goal.loop-row-preserved
unfolding gathered_all
loop-row-preserved c =
    let rows = c.args.rows.now in
    let i = c.loop-row.row-index in
    ap (λ (g : Gathering). gathered_all g (map node_row_of (drop (i + 1) rows))) c.push.ensures
    ∙ sym (ap (λ (rs : List NodeRow). gathered_all (gathering_of c.loop-row.all) (map node_row_of rs)) (drop_here rows i _ c.loop-row-test.true))
    ∙ c.loop-row.invariant

pub returns : goal.returns
unfolding gathered_all
returns c =
    sym (ap (λ (rs : List NodeRow). gathered_all (gathering_of c.loop-row.all) (map node_row_of rs)) (drop_of_length-le c.args.rows.now c.loop-row-test.false))
    ∙ c.loop-row.invariant
