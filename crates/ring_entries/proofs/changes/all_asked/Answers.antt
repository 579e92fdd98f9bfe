-- What the step makes of each entry.
use Rattle.std.proofs.Common.{rules}
use Rattle.rules.specs.Step.{asked}
use Rattle.ring_entries.proofs.Rows.{each_changed}
use Rattle.ring_entries.proofs.changes.all_asked.Goals as goal

pub returns : goal.returns
returns c = each_changed asked (λ e n k. search rules) c.all_changed.ensures
