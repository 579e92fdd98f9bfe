-- Blank, block, dot and number, one behind the other.
use Rattle.text_out.specs.Putting.{puts_append}
use Rattle.text_out.specs.Spelling.{hex_of}
use Rattle.text_records.specs.Fields.{pair_word}
use Rattle.text_records.proofs.pair.Goals as goal

pub returns : goal.returns
unfolding pair_word hex_of
returns c = puts_append c.byte.ensures (puts_append c.hex.ensures (puts_append c.byte-2.ensures c.hex-2.ensures))
