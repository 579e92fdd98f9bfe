-- Two digits are the number that they write.
use Rattle.text_words.specs.Text.{number_from, byte_of}
use borrow.Author.Rules.{rules}
use Rattle.text_words.proofs.numbers.byte.Goals as goal

pub returns : goal.returns
unfolding byte_of number_from
returns c = search rules
