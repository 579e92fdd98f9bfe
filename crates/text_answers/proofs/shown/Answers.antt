-- The line whole, or the start of a too long one.
use native.Mathlib.Omega.{arith}
use lib.ListN.{length-take}
use Rattle.text_answers.proofs.Parts.{shown_whole, shown_start}
use Rattle.text_answers.proofs.shown.Goals as goal

pub returns-then-not-is_too_long : goal.returns-then-not-is_too_long
returns-then-not-is_too_long c = shown_whole _ _ c.is_too_long.ensures c.then-not-is_too_long.either

pub slice_bounds-start-end : goal.slice_bounds-start-end
slice_bounds-start-end c = omega (arith, length-take 64 c.args.line.now)

pub returns : goal.returns
returns c = let t = c.trimmed.ensures in shown_start _ _ c.is_too_long.ensures c.if-not-is_too_long.false c.if-line-le-SHOWN.false t.0 t.1
