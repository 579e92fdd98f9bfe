-- A row that does not fit, and a pair that stands twice.
use mathlib.Core.Path.{sym, ◌∙◌, ap}
use mathlib.Core.Bool.{not}
use borrow.Author.Rules.{rules}
use Rattle.laws.specs.Bools.{clash}
use Rattle.rules_diff.specs.Differences.{twice}
use Rattle.diff_rows.proofs.Seats.{unfit_bad, fit, bad_twice}
use Rattle.diff_rows.proofs.is_bad.Goals as goal

pub returns-then-not-fits : goal.returns-then-not-fits
returns-then-not-fits c =
    let e = unfit_bad c.args.row (search rules) (search rules) (sym c.fits.ensures ∙ c.if-not-fits.true) in
    (ap not c.if-not-fits.true ∙ sym e, λ f. clash (ap not c.if-not-fits.true) f)

pub returns-else-not-fits : goal.returns-else-not-fits
returns-else-not-fits c =
    let b = fit c.args.row (sym c.fits.ensures ∙ c.if-not-fits.false) in
    (c.twice.ensures ∙ ap twice c.pairs.ensures ∙ sym (bad_twice c.args.row b.0 b.1 b.2), λ e. b)
