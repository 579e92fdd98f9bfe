-- At every turn the lines that are left, written from here on, make the whole.
use Prim.Native.Nat.{◌+◌}
use mathlib.Core.Path.{refl, ap, ◌∙◌}
use native.Mathlib.Omega.{arith}
use borrow.Author.Rules.{rules}
use lib.ListN.{length}
use Rattle.std.specs.Prelude.{None}
use Rattle.std.proofs.lemmas.Slice.Zip.{either_empty_from_Zip}
use Rattle.laws.specs.Buffers.{owes_on, owes_end}
use Rattle.diff_lines.proofs.Positions.{bytes_on, bytes_long, bytes_end}
use Rattle.diff_lines.proofs.write_lines.Goals as goal

pub write_position-end-requires : goal.write_position-end-requires
write_position-end-requires c =
    let w = c.loop-i.invariant in
    let z = c.in-Some.ensures.steps in
    omega (arith, bytes_long {x = c.loop-i.i-iterator.count + 1} {p = c.in-Some.i + 1} (omega (arith, z.1)) z.0.0 z.0.1, w.2, w.4.place)

pub loop-i-preserved : goal.loop-i-preserved
loop-i-preserved c =
    let w = c.loop-i.invariant in
    let z = c.in-Some.ensures.steps in
    let few = ap length z.0.0 in
    (search rules, search rules, c.write_position-end.auto.out ∙ w.2, omega (arith, few, w.3, z.2), owes_on _ (bytes_on (omega (arith, z.1)) (omega (arith, z.2)) z.0.0 z.0.1) c.write_position-end.ensures w.4)

pub returns : goal.returns
returns c =
    let none = either_empty_from_Zip c.loop-i.i-iterator.iter c.next.new.self.iter None refl c.in-None.ensures.steps.0 in
    owes_end (bytes_end (c.loop-i.i-iterator.count + 1) none) c.loop-i.invariant.4
