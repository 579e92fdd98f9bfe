-- The template behind what is put is left to put, with the values that are not used yet.
use lib.ListN.{drop}
use Rattle.text_out.specs.Putting.{Owes}
use Rattle.text_out.specs.Spelling.{filled, filled_from}
use Rattle.text_out.proofs.Output.form.Given as goal

abbrev pub invariant-loop-byte : goal.invariant-loop-byte
invariant-loop-byte l = Owes l.initial.self (filled l.template l.values) l.self (filled_from l.is_marked (drop l.byte-index l.template) l.unused)
