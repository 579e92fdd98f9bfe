-- What is read so far, with the digits that are left, makes the last 32 bits of the number.
use Prim.Native.Nat.{ℕ, ◌+◌, ◌*◌, ◌%◌}
use mathlib.Core.Path.{◌∙◌, ap}
use lib.ListN.{drop_of_length-le}
use Rattle.laws.specs.Runs.{drop_here}
use Rattle.text_words.proofs.Reckoning.{number_on, number_end, number_low}
use native.Mathlib.Omega.{arith}
use Rattle.text_words.proofs.numbers.hex.Goals as goal

pub loop-byte-preserved : goal.loop-byte-preserved
loop-byte-preserved c =
    let i = c.loop-byte.byte-index in
    let value = c.loop-byte.value in
    let here = drop_here c.args.word.now i 0 (omega arith) in
    let w = c.loop-byte.invariant in
    (omega arith, number_low (value * 16 + c.counted.result) _ ∙ ap (λ (n : ℕ). n % 4294967296) (number_on 16 here value c.counted.ensures.value) ∙ w.1)

pub returns : goal.returns
returns c =
    let w = c.loop-byte.invariant in
    omega (arith, number_end 16 c.loop-byte.value (drop_of_length-le c.args.word.now {i = c.loop-byte.byte-index} (omega arith)))
