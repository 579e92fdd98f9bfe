-- Each return is the range that the byte lies in.
use native.Mathlib.Omega.{arith}
use Rattle.text_words.proofs.Ranges.{inside, below, above, decimal_digit, upper_digit, lower_digit, no_digit, is_digit, is_none}
use Rattle.text_words.proofs.digits.hex_value.Goals as goal

pub returns-in-48-to-57-clause-value : goal.returns-in-48-to-57-clause-value
returns-in-48-to-57-clause-value c =
    let b = c.args.byte in
    is_digit b (decimal_digit b (inside 48 57 b (omega arith) (omega arith))) (omega arith)

pub returns-in-65-to-70-clause-value : goal.returns-in-65-to-70-clause-value
returns-in-65-to-70-clause-value c =
    let b = c.args.byte in
    is_digit b (upper_digit b (above 48 57 b (omega arith)) (inside 65 70 b (omega arith) (omega arith))) (omega arith)

pub returns-in-97-to-102-clause-value : goal.returns-in-97-to-102-clause-value
returns-in-97-to-102-clause-value c =
    let b = c.args.byte in
    is_digit b (lower_digit b (above 48 57 b (omega arith)) (above 65 70 b (omega arith)) (inside 97 102 b (omega arith) (omega arith))) (omega arith)

pub returns-in_default-clause-value : goal.returns-in_default-clause-value
returns-in_default-clause-value c =
    let b = c.args.byte in
    is_none b (no_digit b (below 48 57 b (omega arith)) (below 65 70 b (omega arith)) (below 97 102 b (omega arith)))

pub returns-in_default-2-clause-value : goal.returns-in_default-2-clause-value
returns-in_default-2-clause-value c =
    let b = c.args.byte in
    is_none b (no_digit b (above 48 57 b (omega arith)) (below 65 70 b (omega arith)) (below 97 102 b (omega arith)))

pub returns-in_default-3-clause-value : goal.returns-in_default-3-clause-value
returns-in_default-3-clause-value c =
    let b = c.args.byte in
    is_none b (no_digit b (above 48 57 b (omega arith)) (above 65 70 b (omega arith)) (below 97 102 b (omega arith)))

pub returns-in_default-4-clause-value : goal.returns-in_default-4-clause-value
returns-in_default-4-clause-value c =
    let b = c.args.byte in
    is_none b (no_digit b (above 48 57 b (omega arith)) (above 65 70 b (omega arith)) (above 97 102 b (omega arith)))
