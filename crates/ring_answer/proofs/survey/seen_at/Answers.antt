-- By the place.
use Rattle.rules.specs.Picture.{no_row}
use borrow.Author.Tests.{eq-eqb, ne_eqb}
use mathlib.Core.Bool.{Bool, cond}
use mathlib.Core.Path.{sym, ◌∙◌, ap}
use Rattle.row_entry.specs.View.{row_of}
use Rattle.ring_answer.proofs.survey.seen_at.Goals as goal

pub returns-then-i-seat : goal.returns-then-i-seat
returns-then-i-seat c = c.absent.ensures.0 ∙ sym (ap (λ (b : Bool). cond b no_row (row_of c.args.entry.now)) (eq-eqb _ _ c.if-i-seat.true))

pub returns-else-i-seat : goal.returns-else-i-seat
returns-else-i-seat c = sym (ap (λ (b : Bool). cond b no_row (row_of c.args.entry.now)) (ne_eqb _ _ c.if-i-seat.false))
