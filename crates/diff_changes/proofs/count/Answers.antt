-- The line of the position itself, the pairs gone and the pairs new.
use mathlib.Core.Path.{sym, ◌∙◌, ap}
use native.Mathlib.Omega.{arith}
use mir.Val.{bool_byte}
use lib.ListN.{length}
use Rattle.diff_changes.proofs.Parts.{all_told}
use Rattle.diff_changes.proofs.count.Goals as goal

pub returns : goal.returns
returns c =
    let all = all_told c.head_kind.result _ _ c.head_kind.ensures in
    let own = c.from-own.ensures ∙ ap bool_byte c.is_some.ensures in
    let gone = sym c.len.ensures.1 ∙ ap length c.gone.ensures in
    let new = sym c.len-2.ensures.1 ∙ ap length c.new.ensures in
    (omega (arith, all.0, own, gone, new), omega (arith, all.1, own, c.len.ensures.0, c.len-2.ensures.0))
