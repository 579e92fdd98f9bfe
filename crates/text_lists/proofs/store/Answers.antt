-- The block, and then the number.
use Rattle.text_lists.proofs.PairWords.{pair_stored}
use Rattle.text_lists.proofs.store.Goals as goal

pub returns : goal.returns
returns c = pair_stored _ c.byte.ensures c.byte-2.ensures c.put.ensures c.put-2.ensures
