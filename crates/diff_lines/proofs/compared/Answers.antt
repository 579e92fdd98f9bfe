-- The refusals in their order, and the lines.
use Prim.Native.Nat.{◌*◌}
use mathlib.Core.Path.{◌≡◌}
use native.Mathlib.Omega.{arith}
use borrow.Author.Rules.{rules}
use lib.ListN.{length}
use Rattle.laws.specs.Bools.{or_false, or_true_left, or_true_right}
use Rattle.rules.specs.House.{line_size}
use Rattle.rules_diff.specs.Differences.{lines_bytes}
use Rattle.rules_diff.proofs.Rows.{six}
use Rattle.diff_rows.specs.Gathering.{gathering_of}
use Rattle.diff_lines.specs.Comparing.{seen, lines_over}
use Rattle.diff_lines.proofs.Outcomes.{refuses, tells, by_bad, by_falling, by_room, by_lines}
use Rattle.diff_lines.proofs.compared.Goals.{then-first-via-then-first, then-first-via-else-first+then-second, then-first-2-via-then-first-2, then-first-2-via-else-first-2+then-second-2}
use Rattle.diff_lines.proofs.compared.Goals as goal

pub returns-then-first : goal.returns-then-first
unfolding gathering_of
returns-then-first c =
    elim c.then-first.branch [
      | then-first-via-then-first w ↦ refuses _ (by_bad _ _ _ (or_true_left _ _ w.if-first.true))
      | then-first-via-else-first+then-second w ↦ refuses _ (by_bad _ _ _ (or_true_right _ _ w.if-second.true))
    ]

pub returns-then-first-2 : goal.returns-then-first-2
unfolding gathering_of
returns-then-first-2 c =
    let good = or_false _ _ c.if-first.false c.if-second.false in
    elim c.then-first-2.branch [
      | then-first-2-via-then-first-2 w ↦ refuses _ (by_falling _ _ _ good (or_true_left _ _ w.if-first-2.true))
      | then-first-2-via-else-first-2+then-second-2 w ↦ refuses _ (by_falling _ _ _ good (or_true_right _ _ w.if-second-2.true))
    ]

pub returns-then-out-needed : goal.returns-then-out-needed
unfolding gathering_of seen
returns-then-out-needed c =
    let needed : length (lines_bytes (lines_over 1 (seen c.args.first.now.seats) (seen c.args.second.now.seats))) ≡ c.count_lines-needed.result * line_size = let e = six (lines_over 1 (seen c.args.first.now.seats) (seen c.args.second.now.seats)) in omega (arith, c.count_lines-needed.ensures.0) in
    refuses _
    (by_room _ _ _ (or_false _ _ c.if-first.false c.if-second.false) (or_false _ _ c.if-first-2.false c.if-second-2.false)
    (omega (arith, needed, c.if-out-needed.true)))

pub write_lines-requires : goal.write_lines-requires
write_lines-requires c =
    let needed : length (lines_bytes (lines_over 1 (seen c.args.first.now.seats) (seen c.args.second.now.seats))) ≡ c.count_lines-needed.result * line_size = let e = six (lines_over 1 (seen c.args.first.now.seats) (seen c.args.second.now.seats)) in omega (arith, c.count_lines-needed.ensures.0) in
    (search rules, omega (arith, needed, c.if-out-needed.false))

pub returns : goal.returns
unfolding gathering_of seen
returns c =
    let needed : length (lines_bytes (lines_over 1 (seen c.args.first.now.seats) (seen c.args.second.now.seats))) ≡ c.count_lines-needed.result * line_size = let e = six (lines_over 1 (seen c.args.first.now.seats) (seen c.args.second.now.seats)) in omega (arith, c.count_lines-needed.ensures.0) in
    tells
    (by_lines _ _ _ (or_false _ _ c.if-first.false c.if-second.false) (or_false _ _ c.if-first-2.false c.if-second-2.false)
    (omega (arith, needed, c.if-out-needed.false)))
    c.write_lines.ensures
