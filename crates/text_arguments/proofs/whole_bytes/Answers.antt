-- A group has another byte, an odd number of digits, or whole bytes.
use mathlib.Core.Path.{sym}
use Rattle.text_arguments.proofs.Groups.{group_none, group_odd, group_whole}
use Rattle.text_arguments.proofs.whole_bytes.Goals as goal

pub returns-then-not-all_hex : goal.returns-then-not-all_hex
returns-then-not-all_hex c = group_none _ (sym c.if-not-all_hex.ensures)

pub returns-then-group-ne0 : goal.returns-then-group-ne0
returns-then-group-ne0 c = group_odd _ (sym c.if-not-all_hex.ensures) c.if-group-ne0.true

pub returns : goal.returns
returns c = group_whole _ (sym c.if-not-all_hex.ensures) c.if-group-ne0.false
