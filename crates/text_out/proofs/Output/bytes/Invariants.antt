-- The bytes behind those that are put are left to put.
use lib.ListN.{drop}
use Rattle.text_out.specs.Putting.{Owes}
use Rattle.text_out.proofs.Output.bytes.Given as goal

abbrev pub invariant-loop-byte : goal.invariant-loop-byte
invariant-loop-byte l = Owes l.initial.self l.bytes l.self (drop l.byte-index l.bytes)
