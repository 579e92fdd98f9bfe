-- The bytes used so far are the line's, and what is held goes on behind them.
use Rattle.text_in.proofs.Reading.{Reading}
use Rattle.text_in.proofs.Input.line.Given as goal

abbrev pub invariant-loop : goal.invariant-loop
invariant-loop l = Reading l.initial.self l.initial.line l.self l.line l.seen l.length l.counter
