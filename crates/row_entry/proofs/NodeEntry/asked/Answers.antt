-- A SILENT entry keeps its counts; any other is as it was.
use Rattle.row_entry.specs.View.{row_of}
use Rattle.rules.specs.Picture.{with_status}
use Rattle.rules.specs.Step.{asked}
use mathlib.Core.Path.{◌∙◌, sym}
use Rattle.row_entry.proofs.NodeEntry.asked.Goals as goal

pub returns-then-is_silent : goal.returns-then-is_silent
unfolding asked with_status row_of
returns-then-is_silent c =
    (simp (sym c.is_silent.ensures ∙ c.if-is_silent.true) c.waiting.ensures.0, λ m. c.waiting.ensures.1)

pub returns : goal.returns
unfolding asked
returns c =
    (simp (sym c.is_silent.ensures ∙ c.if-is_silent.false), λ m. m)
