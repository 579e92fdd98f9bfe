-- A digit counts for its value, another byte for 16.
use mathlib.Core.Path.{◌≡◌, ◌∙◌}
use borrow.Author.Rules.{rules}
use Rattle.std.specs.Prelude.{unwrap_or}
use Rattle.text_words.proofs.Ranges.{counted_is}
use Rattle.text_words.proofs.numbers.counted.Goals as goal

pub returns-clause-value : goal.returns-clause-value
returns-clause-value c =
    let h : c.map_or.result ≡ unwrap_or c.hex_value.result 16 = search rules in
    h ∙ counted_is c.args.byte c.hex_value.ensures.value
