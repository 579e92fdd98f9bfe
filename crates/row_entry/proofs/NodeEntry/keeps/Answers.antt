-- The address counts while the entry is listed.
use mathlib.Core.Path.{◌∙◌, sym}
use Rattle.row_entry.proofs.Marks.{keeps_listed, keeps_else}
use Rattle.row_entry.proofs.NodeEntry.keeps.Goals as goal

pub returns-then-is_listed : goal.returns-then-is_listed
returns-then-is_listed c =
    c.eq.ensures ∙ sym (keeps_listed c.args.self.now c.args.address.0 (sym c.is_listed.ensures ∙ c.if-is_listed.true))

pub returns-else-is_listed : goal.returns-else-is_listed
returns-else-is_listed c = c.if-is_listed.false ∙ sym (keeps_else c.args.self.now c.args.address.0 (sym c.is_listed.ensures ∙ c.if-is_listed.false))
