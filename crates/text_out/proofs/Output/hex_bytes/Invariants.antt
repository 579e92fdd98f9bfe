-- The bytes behind those that are put are left to put.
use lib.ListN.{drop}
use Rattle.laws.specs.Lists.{collect}
use Rattle.text_out.specs.Putting.{Owes}
use Rattle.text_out.specs.Spelling.{hex_of}
use Rattle.text_out.proofs.Output.hex_bytes.Given as goal

abbrev pub invariant-loop-byte : goal.invariant-loop-byte
invariant-loop-byte l = Owes l.initial.self (collect hex_of l.bytes) l.self (collect hex_of (drop l.byte-index l.bytes))
