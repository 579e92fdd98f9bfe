-- Those that it counts for first, then the node itself.
use Rattle.laws.specs.Alls.{all_at, all_set}
use Rattle.ring_entries.specs.Verdicts.{verdict_of, counts_for, struck}
use Rattle.ring_entries.proofs.Counting.{counted_rows}
use Rattle.ring_entries.proofs.changes.all_counted.Goals as goal

pub returns : goal.returns
returns c =
    let es = c.args.entries.now in
    let a = c.args.address.0 in
    let k = c.all_struck.ensures in (
      counted_rows c.args.seat es c.requires (counts_for (verdict_of c.args.verdict) a) (struck c.args.limit a) _ c.strike-own.result _ k.0 c.strike-own.ensures.0,
      λ m. all_set c.args.seat c.strike-own.result (c.strike-own.ensures.1 (all_at c.args.seat _ c.requires m)) (k.1 m),
    )
