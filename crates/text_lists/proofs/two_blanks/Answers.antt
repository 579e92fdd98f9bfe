-- Fewer than two bytes, or the first two tell.
use mathlib.Core.Path.{sym, ◌∙◌, ap}
use mathlib.Core.Bool.{Bool, ◌&&◌}
use native.Mathlib.Omega.{arith}
use lib.ListN.{get_or}
use Rattle.laws.specs.Runs.{drop_two}
use Rattle.text_words.specs.Text.{is_blank}
use Rattle.text_lists.proofs.HexRuns.{two_short, two_here}
use Rattle.text_lists.proofs.two_blanks.Goals as goal

pub returns-in_default : goal.returns-in_default
returns-in_default c = two_short _ (omega arith)

pub returns-then-is_blank : goal.returns-then-is_blank
returns-then-is_blank c =
    let text = c.args.text.now in
    c.is_blank-then-is_blank.ensures
    ∙ sym (two_here (drop_two text 0 0 (omega arith)) ∙ ap (λ (b : Bool). b && is_blank (get_or text 1 0)) (sym c.if-is_blank.ensures))

pub returns-else-is_blank : goal.returns-else-is_blank
returns-else-is_blank c =
    let text = c.args.text.now in
    c.if-is_blank.false ∙ sym (two_here (drop_two text 0 0 (omega arith)) ∙ ap (λ (b : Bool). b && is_blank (get_or text 1 0)) (sym c.if-is_blank.ensures))
