-- The tests in their order.
use Rattle.wire_pairs.specs.View.{pair_in, pair_of}
use Rattle.row_renumber.proofs.Offers.{offers, offers_none}
use Rattle.row_renumber.specs.Marks.{attempt_of, free_for}
use borrow.Author.Tests.{le-ltb}
use mathlib.Core.Path.{sym}
use Rattle.row_renumber.proofs.renumber.attempt.Goals as goal
use Rattle.row_renumber.proofs.renumber.attempt.Goals.{then-good-via-then-good, then-good-via-else-good+then-tries-ge-MAX_TRIES}

pub returns-then-good : goal.returns-then-good
unfolding attempt_of
returns-then-good c =
    elim c.then-good.branch [
      | then-good-via-then-good w ↦ (simp w.if-good.true, c.requires)
      | then-good-via-else-good+then-tries-ge-MAX_TRIES w ↦ (simp (w.if-good.false, le-ltb _ _ w.if-tries-ge-MAX_TRIES.true), c.requires)
    ]

pub returns-in-Some : goal.returns-in-Some
unfolding pair_in pair_of
returns-in-Some c =
    (offers (free_for c.args.entries.now c.args.announced.now) c.args.place c.args.tries (record { pair = pair_in c.args.pair; good = c.args.good }) c.if-good.false c.if-tries-ge-MAX_TRIES.false (sym c.in-Some.ensures), c.requires)

pub returns-in-None : goal.returns-in-None
unfolding pair_in pair_of
returns-in-None c =
    (offers_none (free_for c.args.entries.now c.args.announced.now) c.args.place c.args.tries (record { pair = pair_in c.args.pair; good = c.args.good }) c.if-good.false c.if-tries-ge-MAX_TRIES.false (sym c.in-None.ensures), sym c.in-None.ensures)
