-- What the step makes of each entry.
use Rattle.std.proofs.Common.{rules}
use Rattle.laws.specs.Bools.{cond_false, cond_true}
use Rattle.ring_entries.specs.Verdicts.{verdict_of, struck_if}
use Rattle.ring_entries.proofs.Rows.{each_changed}
use Rattle.ring_entries.proofs.changes.all_struck.Goals as goal

pub returns : goal.returns
returns c =
    each_changed (struck_if (verdict_of c.args.verdict) c.args.limit c.args.address.0) (λ e n k. search (rules, cond_true, cond_false)) c.all_changed.ensures
