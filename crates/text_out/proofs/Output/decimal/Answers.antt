-- The digits are those of the number, as many as it has.
use Prim.Native.Nat.{ℕ}
use mathlib.Core.Path.{◌∙◌, ap}
use Rattle.io.specs.Digits.{last_digits}
use Rattle.text_out.specs.Putting.{puts_along}
use Rattle.text_out.specs.Spelling.{decimal_of}
use Rattle.text_out.proofs.Widths.{width_is}
use Rattle.text_out.proofs.Output.decimal.Goals as goal

pub returns : goal.returns
unfolding decimal_of
returns c =
    let spelled = c.decimal-k.ensures in
    let n = c.args.n in
    puts_along (spelled.digits ∙ ap (λ (k : ℕ). last_digits 10 k n) (width_is n _ spelled.len)) c.bytes.ensures
