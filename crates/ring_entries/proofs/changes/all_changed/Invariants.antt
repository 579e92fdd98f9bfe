-- The entries so far have become what `step` makes of them, and those behind are as they were.
use Rattle.laws.specs.Alls.{Each}
use lib.ListN.{take, drop}
use mathlib.Core.Path.{◌≡◌}
use Rattle.ring_entries.proofs.changes.all_changed.Given as goal

abbrev pub invariant-loop-entry : goal.invariant-loop-entry
invariant-loop-entry g l =
    Each (λ e n. goal.F-post g l.step e n) (take l.entry-index l.initial.entries) (take l.entry-index l.entries)
    × (drop l.entry-index l.entries ≡ drop l.entry-index l.initial.entries)
