-- Two stores, the address, and two stores.
use Prim.Native.Nat.{◌+◌, ◌≤◌}
use native.Mathlib.Omega.{arith}
use lib.ListN.{length, length-set}
use Rattle.rules.specs.House.{line_size}
use Rattle.diff_position.proofs.Bytes.{wrote_line}
use Rattle.diff_position.proofs.write_line.Goals as goal

pub bounds-out-at-2 : goal.bounds-out-at-2
bounds-out-at-2 c = simp length-set (omega arith)

pub write2-requires : goal.write2-requires
write2-requires c = simp length-set (omega arith)

pub bounds-out-at-3 : goal.bounds-out-at-3
bounds-out-at-3 c =
    let room : c.args.at + line_size ≤ length c.write2.new.buffer = omega (arith, simp length-set at c.write2.auto.buffer) in
    omega (arith, room)

pub bounds-out-at-4 : goal.bounds-out-at-4
bounds-out-at-4 c =
    let room : c.args.at + line_size ≤ length c.write2.new.buffer = omega (arith, simp length-set at c.write2.auto.buffer) in
    simp length-set (omega (arith, room))

pub shape_of-out : goal.shape_of-out
shape_of-out c = simp length-set (simp length-set at c.write2.auto.buffer)

pub returns : goal.returns
returns c = wrote_line _ _ c.args.line c.number.ensures c.write2.ensures
