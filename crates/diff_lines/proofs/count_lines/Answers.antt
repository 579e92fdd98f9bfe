-- At every turn the lines that are left make the whole.
use mathlib.Core.Path.{refl, ap}
use Rattle.std.specs.Prelude.{None}
use native.Mathlib.Omega.{arith}
use lib.ListN.{length}
use Rattle.std.proofs.lemmas.Slice.Zip.{either_empty_from_Zip}
use Rattle.diff_lines.proofs.Positions.{over_end, count_on}
use Rattle.diff_lines.proofs.count_lines.Goals as goal

pub loop-first-preserved : goal.loop-first-preserved
loop-first-preserved c =
    let w = c.loop-first.invariant in
    let z = c.in-Some.ensures.steps in
    let few = ap length z.0 in
    ((tt, tt), tt, omega (arith, few, w.2, c.count-n.ensures.1), count_on _ z.0 z.1 c.count-n.ensures.0 w.3)

pub returns : goal.returns
returns c =
    let w = c.loop-first.invariant in
    let none = ap length (over_end 1 (either_empty_from_Zip c.loop-first.first-iterator c.next.new.self None refl c.in-None.ensures.steps)) in
    (omega (arith, none, w.3), omega (arith, w.2))
