-- An IGNORED entry is as it was; any other keeps its counts.
use Rattle.row_entry.specs.View.{row_of}
use Rattle.rules.specs.Picture.{with_status}
use Rattle.rules.specs.Step.{emptied}
use mathlib.Core.Path.{◌∙◌, sym}
use Rattle.row_entry.proofs.NodeEntry.emptied.Goals as goal

pub returns-then-is_ignored : goal.returns-then-is_ignored
unfolding emptied
returns-then-is_ignored c =
    (simp (sym c.is_ignored.ensures ∙ c.if-is_ignored.true), λ m. m)

pub returns : goal.returns
unfolding emptied with_status row_of
returns c =
    (simp (sym c.is_ignored.ensures ∙ c.if-is_ignored.false) c.waiting.ensures.0, λ m. c.waiting.ensures.1)
