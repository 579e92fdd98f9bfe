-- The place passed over so far, and the bytes from there on that stand before two blanks in a row, make the place asked for.
use mathlib.Core.Path.{sym}
use Rattle.text_lists.proofs.HexRuns.{hex_within, hex_start, hex_stops, hex_on, hex_ends}
use native.Mathlib.Omega.{arith}
use Rattle.text_lists.proofs.hex_end.Goals as goal

pub loop-at-init : goal.loop-at-init
loop-at-init c = (omega arith, hex_start _ _ c.word_start-start.ensures.0)

pub returns-then-two_blanks : goal.returns-then-two_blanks
returns-then-two_blanks c =
    let within = hex_within _ _ c.word_start-start.ensures.0 in
    (hex_stops _ _ c.loop-at.invariant.1 c.loop-at-test.true (sym c.if-two_blanks.ensures), omega arith, omega arith)

pub loop-at-preserved : goal.loop-at-preserved
loop-at-preserved c = (omega arith, hex_on _ _ c.loop-at.invariant.1 c.loop-at-test.true (sym c.if-two_blanks.ensures))

pub returns : goal.returns
returns c =
    let within = hex_within _ _ c.word_start-start.ensures.0 in
    let ends = hex_ends _ _ c.loop-at.invariant.1 c.loop-at-test.false in
    (omega arith, omega arith, omega arith)
