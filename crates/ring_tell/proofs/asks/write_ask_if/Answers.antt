-- By whether the entry is asked.
use Rattle.laws.specs.Buffers.{wrote_along, wrote_nothing}
use Rattle.row_entry.specs.View.{row_of}
use Rattle.ring_tell.proofs.Tellings.{asks_none, asks_one}
use Rattle.ring_tell.specs.View.{which_of}
use lib.ListN.{length}
use mathlib.Core.Path.{◌∙◌, ap, sym}
use native.Mathlib.Omega.{arith}
use Rattle.ring_tell.proofs.asks.write_ask_if.Goals as goal

pub write_ask-requires : goal.write_ask-requires
write_ask-requires c =
    let e = ap length (asks_one c.args.pass (which_of c.args.which) c.args.position.0 (row_of c.args.entry.now) (sym c.is_asked.ensures ∙ c.if-is_asked.true)) in
    omega arith

pub returns-then-is_asked : goal.returns-then-is_asked
returns-then-is_asked c =
    wrote_along (asks_one c.args.pass (which_of c.args.which) c.args.position.0 (row_of c.args.entry.now) (sym c.is_asked.ensures ∙ c.if-is_asked.true)) c.write_ask.ensures

pub returns-else-is_asked : goal.returns-else-is_asked
returns-else-is_asked c =
    wrote_along (asks_none c.args.pass (which_of c.args.which) c.args.position.0 (row_of c.args.entry.now) (sym c.is_asked.ensures ∙ c.if-is_asked.false)) (wrote_nothing _ _)
