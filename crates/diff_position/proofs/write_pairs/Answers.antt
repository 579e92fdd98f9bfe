-- At every turn the lines that are left, written from here on, make the whole.
use Prim.Native.Nat.{◌+◌}
use mathlib.Core.Path.{refl, ◌∙◌, ap}
use native.Mathlib.Omega.{arith}
use lib.ListN.{drop, drop_of_length-le, length, length-append}
use Rattle.laws.specs.Buffers.{owes_on, owes_end}
use Rattle.laws.specs.Lists.{collect}
use Rattle.wire_pairs.specs.View.{pairs_of}
use Rattle.diff_changes.specs.Changes.{number_of}
use Rattle.diff_position.specs.Lines.{line_in, pair_line}
use Rattle.diff_position.specs.declared.Line.{Line}
use Rattle.diff_position.proofs.Bytes.{line_length, lines_on, lines_end}
use Rattle.diff_position.proofs.write_pairs.Goals as goal

pub write_line-end-requires : goal.write_line-end-requires
write_line-end-requires c =
    let a = c.args in
    let line : Line = record { kind = a.kind; position = a.position; address = record { 0 = 0 }; pair = c.at.result } in
    let l = ap length (lines_on line refl c.at.ensures) in
    let m = length-append (line_in line) (collect (pair_line (number_of a.kind) a.position.0) (drop (c.loop-i.i + 1) (pairs_of a.pairs.now))) in
    omega (arith, l, m, line_length line, c.loop-i.invariant.0, c.loop-i.invariant.1.place)

pub loop-i-preserved : goal.loop-i-preserved
loop-i-preserved c =
    (c.write_line-end.auto.out ∙ c.loop-i.invariant.0, owes_on _ (lines_on _ refl c.at.ensures) c.write_line-end.ensures c.loop-i.invariant.1)

pub returns : goal.returns
returns c =
    let a = c.args in
    owes_end (lines_end (number_of a.kind) a.position.0 (drop_of_length-le (pairs_of a.pairs.now) (omega (arith, c.len-i-end.ensures.1, c.loop-i-test.false)))) c.loop-i.invariant.1
