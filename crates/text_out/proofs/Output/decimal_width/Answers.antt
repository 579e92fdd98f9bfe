-- The digits that are written are the width.
use mathlib.Core.Path.{◌∙◌, ap}
use native.Mathlib.Omega.{arith}
use Rattle.text_out.specs.Spelling.{width_of}
use Rattle.text_out.proofs.Widths.{width_is, width_at_most}
use Rattle.text_out.proofs.Output.decimal_width.Goals as goal

pub returns : goal.returns
returns c =
    let n = c.args.n in
    let e = width_is _ _ c.decimal.ensures.len ∙ ap width_of (omega arith) in
    (e, omega (arith, e, width_at_most n (omega arith)))
