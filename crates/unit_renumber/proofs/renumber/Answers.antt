-- By the first place of the old pair, and by what stands before and behind it.
use Rattle.rules.specs.House.{max_pairs}
use Rattle.unit_renumber.proofs.Renaming.{absent, barred, moved, stored}
use Rattle.wire_pairs.specs.View.{pair_in, pairs_of}
use mathlib.Core.Path.{◌∙◌, refl, sym}
use native.Mathlib.Omega.{arith}
use borrow.Author.Rules.{rules}
use Rattle.unit_renumber.proofs.renumber.Goals as goal

pub returns-then-not-stands_besides : goal.returns-then-not-stands_besides
unfolding pairs_of pair_in
returns-then-not-stands_besides c =
    let a = c.args in
    let s = a.pairs.now in
    let w = c.in-Some.ensures in (
      stored max_pairs s.blocks s.numbers (search rules) (search rules) s.count a.block a.old a.new w.0 w.1
          ∙ moved a.block a.old a.new (pairs_of s) w.0 (sym c.stands_besides.ensures ∙ c.if-not-stands_besides.true),
      refl,
    )

pub returns-else-not-stands_besides : goal.returns-else-not-stands_besides
unfolding pair_in
returns-else-not-stands_besides c =
    let a = c.args in
    (barred a.block a.old a.new (pairs_of a.pairs.now) c.in-Some.ensures.0 (sym c.stands_besides.ensures ∙ c.if-not-stands_besides.false), refl)

pub returns-in_default : goal.returns-in_default
unfolding pair_in
returns-in_default c =
    let a = c.args in
    let w = c.in_default.ensures in
    (absent a.block a.old a.new (pairs_of a.pairs.now) refl (omega (arith, w)), refl)
