-- What the code's ring picture stands for. Total: whatever its numbers are, it stands for a picture of the rules.
use Rattle.std.specs.Prelude.{ℕ, ◌≤◌, ◌≡◌, cond, List, replicate, Result, Ok, Err}
use Rattle.numbers.specs.declared.Refusal.{Refusal}
use Rattle.numbers.specs.declared.Refusal.TheVariants as refusals
use Rattle.rules.specs.House.{max_units}
use Rattle.rules.specs.Picture.{Picture, legal_size, new_row}
use Rattle.row_entry.specs.declared.NodeEntry.{NodeEntry}
use Rattle.row_entry.specs.View.{rows_of}
use Rattle.ring_state.specs.State.{state_of, runs}
use Rattle.registry.specs.declared.image.RegistryImage.{RegistryImage}

unfoldable pub view_of : RegistryImage → Picture
view_of i = record { state = state_of i.state.0; pass = i.pass; size = i.size; delay = runs i.delay.0; rows = rows_of i.units i.entries }

-- the answer where a picture is made
unfoldable pub make_answer : ℕ → Result (Unit {0}) Refusal
make_answer l = cond (legal_size l) (Ok tt) (Err refusals.IllegalSize)

-- entries that are asked and count nothing yet
abbrev pub AllNew : List NodeEntry → Type 0
AllNew es = (k : ℕ) → k ≤ max_units → rows_of k es ≡ replicate k new_row
