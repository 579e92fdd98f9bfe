-- A line where there is one.
use mathlib.Core.Path.{refl, sym, ap}
use native.Mathlib.Omega.{arith}
use lib.ListN.{length}
use Rattle.laws.specs.Buffers.{wrote_nothing, wrote_along}
use Rattle.diff_position.specs.declared.Line.{Line}
use Rattle.diff_position.proofs.Bytes.{head_none, head_some, line_length}
use Rattle.diff_position.proofs.write_head.Goals as goal

pub write_line-requires : goal.write_line-requires
write_line-requires c =
    let line : Line = record { kind = c.in-Some.kind; position = c.args.position; address = c.args.address; pair = record { block = 0; number = 0 } } in
    omega (arith, ap length (head_some line c.in-Some.is refl refl), line_length line)

pub returns-in-Some : goal.returns-in-Some
returns-in-Some c = wrote_along (sym (head_some _ c.in-Some.is refl refl)) c.write_line.ensures

pub returns-in-None : goal.returns-in-None
returns-in-None c = wrote_along (sym (head_none c.args.position.0 c.args.address.0 c.in-None.is)) (wrote_nothing _ _)
