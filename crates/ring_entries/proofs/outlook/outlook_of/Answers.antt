-- A test of some entry is one of some row.
use Rattle.std.proofs.Common.{rules, tests}
use Rattle.std.proofs.lemmas.Iterator.{YieldsList-from_slice}
use Rattle.std.proofs.lemmas.Iterator.Search.{any_from_yields_List}
use mathlib.Core.Path.{◌∙◌}
use Rattle.rules.specs.Picture.{is_open, is_silent}
use Rattle.row_entry.specs.View.{row_of}
use Rattle.ring_entries.specs.Tests.{is_short}
use Rattle.ring_entries.proofs.Rows.{any_rows}
use Rattle.ring_entries.proofs.outlook.outlook_of.Goals as goal

pub returns : goal.returns
returns c =
    let es = c.args.entries.now in (
      any_from_yields_List (λ e. is_open (row_of e)) _ _ _ c.any.ensures.ran (YieldsList-from_slice es cc) (λ x b q k. search (rules, tests)) ∙ any_rows is_open es,
      any_from_yields_List (λ e. is_silent (row_of e)) _ _ _ c.any-2.ensures.ran (YieldsList-from_slice es cc) (λ x b q k. search (rules, tests)) ∙ any_rows is_silent es,
      any_from_yields_List (λ e. is_short (row_of e)) _ _ _ c.any-3.ensures.ran (YieldsList-from_slice es cc) (λ x b q k. search (rules, tests)) ∙ any_rows is_short es,
    )
