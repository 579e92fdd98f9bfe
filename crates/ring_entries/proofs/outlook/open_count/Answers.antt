-- As many entries pass a test as rows are selected by it.
use Rattle.std.specs.List.{count_by}
use borrow.Author.Rules.{rules}
use Rattle.std.proofs.iter.runs.Made.{chains}
use mathlib.Core.Path.{◌≡◌, ◌∙◌}
use Rattle.rules.specs.Picture.{is_open}
use Rattle.row_entry.specs.View.{row_of}
use Rattle.ring_entries.proofs.Rows.{count_rows}
use Rattle.ring_entries.proofs.outlook.open_count.Goals as goal

pub returns : goal.returns
returns c =
    let n : c.count.result ≡ count_by (λ e. is_open (row_of e)) c.args.entries.now = search (rules, chains) in
    n ∙ count_rows is_open c.args.entries.now
