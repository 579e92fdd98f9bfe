-- The higher byte, and then the lower.
use native.Mathlib.Omega.{arith}
use Prim.Native.Nat.{◌/◌, ◌%◌}
use mathlib.Core.Path.{◌≡◌, ◌∙◌}
use mathlib.Core.List.{◌++◌}
use lib.ListN.{get_or}
use Rattle.text_out.specs.Putting.{puts_append, puts_along}
use Rattle.text_out.specs.Spelling.{hex_of, hex_pair_of}
use Rattle.text_out.proofs.Output.hex_pair.Goals as goal

pub returns : goal.returns
unfolding hex_pair_of
returns c =
    let n = c.args.n in
    let e = c.to_be_bytes.ensures in
    let high : n / 256 % 256 ≡ n / 256 = omega arith in
    puts_along ((λ i. hex_of (get_or (e i) 0 0) ++ hex_of (get_or (e i) 1 0)) ∙ (λ i. hex_of (high i) ++ hex_of (n % 256)))
    (puts_append c.hex.ensures c.hex-2.ensures)
