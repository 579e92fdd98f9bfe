-- What is read so far, with the digits that are left, makes the number; it only grows.
use Prim.Native.Nat.{◌+◌, ◌*◌}
use mathlib.Core.Path.{sym, ◌∙◌}
use lib.ListN.{drop, drop_of_length-le}
use Rattle.laws.specs.Runs.{drop_here}
use Rattle.text_words.proofs.Reckoning.{number_on, number_end, number_grows, decimal_empty, decimal_none, decimal_large, decimal_fits}
use native.Mathlib.Omega.{arith}
use borrow.Author.Tests.{eqb-true, eqb-false}
use Rattle.text_words.proofs.numbers.decimal.Goals as goal
use Rattle.text_words.proofs.numbers.decimal.Goals.{then-is_empty-via-then-is_empty, then-is_empty-via-else-is_empty+then-not-all_digits}

pub returns-then-is_empty-clause-value : goal.returns-then-is_empty-clause-value
returns-then-is_empty-clause-value c =
    elim c.then-is_empty.branch [
      | then-is_empty-via-then-is_empty w ↦ sym (decimal_empty _ _ (eqb-true _ 0 (sym w.if-is_empty.ensures)))
      | then-is_empty-via-else-is_empty+then-not-all_digits w ↦
          sym (decimal_none _ _ (eqb-false _ 0 (sym w.if-is_empty.ensures)) (sym w.if-not-all_digits.ensures))
    ]

pub returns-then-most-value-clause-value : goal.returns-then-most-value-clause-value
returns-then-most-value-clause-value c =
    let word = c.args.word.now in
    let here = drop_here word c.loop-byte.byte-index 0 c.loop-byte-test.true in
    let on = number_on 10 here c.loop-byte.value c.counted.ensures.value in
    let w = c.loop-byte.invariant in
    sym (decimal_large word _ (eqb-false _ 0 (sym c.if-is_empty.ensures)) (sym c.if-not-all_digits.ensures)
    (omega (arith, number_grows (c.loop-byte.value * 10 + c.counted.result) (drop (c.loop-byte.byte-index + 1) word))))

pub loop-byte-preserved : goal.loop-byte-preserved
loop-byte-preserved c =
    let word = c.args.word.now in
    let here = drop_here word c.loop-byte.byte-index 0 (omega arith) in
    let on = number_on 10 here c.loop-byte.value c.counted.ensures.value in
    let w = c.loop-byte.invariant in
    (omega arith, on ∙ w.1)

pub returns-clause-value : goal.returns-clause-value
returns-clause-value c =
    let word = c.args.word.now in
    let w = c.loop-byte.invariant in
    sym (decimal_fits word _ (eqb-false _ 0 (sym c.if-is_empty.ensures)) (sym c.if-not-all_digits.ensures)
    (sym (number_end 10 _ (drop_of_length-le word c.loop-byte-test.false)) ∙ w.1) w.0)
