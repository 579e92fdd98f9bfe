-- A blank and the digits, or the digits alone.
use mathlib.Core.Path.{sym, subst}
use mathlib.Core.Bool.{Bool}
use Rattle.text_out.specs.declared.Output.{Output}
use Rattle.text_out.specs.Puts.{Puts}
use Rattle.text_out.specs.Putting.{puts_append}
use Rattle.text_out.specs.Spelling.{hex_of}
use Rattle.text_records.specs.Fields.{spaced_byte}
use Rattle.text_records.proofs.spaced_byte.Goals as goal
use Rattle.text_records.proofs.spaced_byte.Goals.{then-blank, else-blank}

pub returns : goal.returns
returns c =
    let byte = c.args.byte in
    let digits = λ (o : Output). Puts o (hex_of byte) c.hex.new.self in
    let whole = λ (b : Bool). Puts c.args.output.now (spaced_byte b byte) c.hex.new.self in
    elim c.if-blank.branch [
      | then-blank w ↦ subst whole (sym w.if-blank.true) (puts_append w.byte.ensures (subst digits w.output-is c.hex.ensures))
      | else-blank w ↦ subst whole (sym w.if-blank.false) (subst digits w.output-is c.hex.ensures)
    ]
