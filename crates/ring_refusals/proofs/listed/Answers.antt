-- Row and column, and the table.
use lib.ListN.{get_or}
use mathlib.Core.List.{[]}
use mathlib.Core.Path.{◌∙◌, ap}
use Prim.Native.Nat.{ℕ}
use Rattle.std.specs.Prelude.{None}
use Rattle.wire_events.specs.View.{event_of}
use Rattle.ring_state.specs.State.{state_row}
use Rattle.ring_refusals.specs.Numbers.{number_or_none}
use Rattle.ring_refusals.proofs.Table.{table, by_table}
use Rattle.ring_refusals.proofs.listed.Goals as goal

pub returns : goal.returns
unfolding table
returns c =
    ap (λ (r : ℕ). number_or_none (get_or (get_or table r []) c.kind_of.result None)) c.row_of.ensures.0
    ∙ ap (λ (k : ℕ). number_or_none (get_or (get_or table (state_row c.args.state.0) []) k None)) c.kind_of.ensures.0
    ∙ by_table c.args.state.0 (event_of c.args.event.now)
