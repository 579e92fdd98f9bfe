-- The own count first, then those of the others.
use Rattle.std.proofs.Common.{rules, tests}
use Rattle.std.proofs.lemmas.Iterator.{YieldsList-from_slice}
use Rattle.std.proofs.lemmas.Iterator.Search.{any_from_yields_List}
use Rattle.ring_entries.proofs.Counting.{limit_others, limit_own}
use Rattle.ring_entries.proofs.Rows.{any_rows}
use Rattle.ring_entries.specs.Verdicts.{verdict_of, counts_at_limit}
use Rattle.row_entry.specs.View.{row_of}
use Rattle.rules.specs.Step.{at_limit}
use mathlib.Core.Path.{◌∙◌, ap, sym}
use Rattle.ring_entries.proofs.limit.reaches_limit.Goals as goal

pub returns-then-at_limit : goal.returns-then-at_limit
returns-then-at_limit c =
    c.if-at_limit.true
    ∙ limit_own c.args.seat c.args.entries.now c.requires (verdict_of c.args.verdict) c.args.address.0 _
    (ap at_limit (sym c.counted.ensures.0) ∙ sym c.at_limit.ensures ∙ c.if-at_limit.true)

pub returns-else-at_limit : goal.returns-else-at_limit
returns-else-at_limit c =
    let f = counts_at_limit (verdict_of c.args.verdict) c.args.address.0 in
    let s = any_from_yields_List (λ e. f (row_of e)) _ _ _ c.any.ensures.ran (YieldsList-from_slice c.args.entries.now cc) (λ x b q k. search (rules, tests)) in
    limit_others c.args.seat c.args.entries.now c.requires (verdict_of c.args.verdict) c.args.address.0 _
    (ap at_limit (sym c.counted.ensures.0) ∙ sym c.at_limit.ensures ∙ c.if-at_limit.false) (s ∙ any_rows f c.args.entries.now)
