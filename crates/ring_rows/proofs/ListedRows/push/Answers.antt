-- One place more is filled.
use Rattle.ring_rows.proofs.Filling.{pushed}
use Rattle.ring_rows.proofs.ListedRows.push.Goals as goal

pub returns-clause-rows : goal.returns-clause-rows
returns-clause-rows c = λ rs e. pushed c.args.self.now c.args.row rs e
