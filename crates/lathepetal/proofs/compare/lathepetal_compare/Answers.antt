-- What is gathered of both lists is compared, and that is the rows compared.
use lib.ListN.{length}
use mathlib.Core.List.{map}
use mathlib.Core.Path.{◌≡◌, ◌∙◌, ap, subst}
use Rattle.row_node.specs.View.{node_row_of}
use Rattle.rules_diff.specs.Differences.{Compared, compare}
use Rattle.diff_rows.specs.Gathering.{Gathering, gathered_all, gathering_of, nothing_seen}
use Rattle.diff_lines.specs.Comparing.{Compares, compared_by}
use Rattle.diff_lines.proofs.Gathered.{compares_rows}
use Rattle.lathepetal.proofs.compare.lathepetal_compare.Goals as goal

pub returns : goal.returns
returns c =
    let a = c.args in
    let room = length a.out.now in
    let d = c.differences in
    let rows : compared_by (gathering_of c.gathered-before.result) (gathering_of c.gathered-after.result) room ≡ compare (map node_row_of a.first.now) (map node_row_of a.second.now) room =
    ap (λ (g : Gathering). compared_by g (gathering_of c.gathered-after.result) room) c.gathered-before.ensures
    ∙ ap (λ (g : Gathering). compared_by (gathered_all nothing_seen (map node_row_of a.first.now)) g room) c.gathered-after.ensures
    ∙ compares_rows _ _ _ in
    subst (λ (w : Compared). Compares w a.out.now d.result d.new.out) rows d.ensures
