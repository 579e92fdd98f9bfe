-- What a line leaves waiting is written before the next one is read, and what stands on the bench keeps what holds of it.
use Rattle.std.proofs.Common.{◌≡◌}
use Rattle.text_bench.proofs.play.Given as goal

abbrev pub invariant-loop : goal.invariant-loop
invariant-loop g l = g.B.Bench.holds l.bench × (l.initial.output.waiting ≡ 0 → l.output.waiting ≡ 0)
