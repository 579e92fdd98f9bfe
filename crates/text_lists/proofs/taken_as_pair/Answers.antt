-- No pair, one too many, or one that is taken.
use mathlib.Core.Path.{sym}
use Rattle.text_lists.proofs.PairWords.{pair_none, pair_taken, pair_many}
use Rattle.text_lists.proofs.taken_as_pair.Goals as goal

pub returns-then-not-is_pair : goal.returns-then-not-is_pair
returns-then-not-is_pair c = pair_none _ _ (sym c.if-not-is_pair.ensures)

pub returns-then-taken-ge-MAX_PAIR_WORDS : goal.returns-then-taken-ge-MAX_PAIR_WORDS
returns-then-taken-ge-MAX_PAIR_WORDS c = pair_many _ _ (sym c.if-not-is_pair.ensures) c.if-taken-ge-MAX_PAIR_WORDS.true

pub returns : goal.returns
returns c = pair_taken _ _ (sym c.if-not-is_pair.ensures) c.if-taken-ge-MAX_PAIR_WORDS.false
