-- What the step makes of each entry.
use Rattle.std.proofs.Common.{rules}
use Rattle.rules.specs.Step.{emptied}
use Rattle.ring_entries.proofs.Rows.{each_changed}
use Rattle.ring_entries.proofs.changes.all_emptied.Goals as goal

pub returns : goal.returns
returns c = each_changed emptied (λ e n k. search rules) c.all_changed.ensures
