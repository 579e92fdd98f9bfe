-- No unit has an entry.
use Rattle.laws.specs.Views.{firsts}
use Rattle.row_entry.specs.View.{rows_of}
use Rattle.ring_state.specs.State.{runs, state_of}
use Rattle.registry.specs.View.{view_of}
use mathlib.Core.Path.{refl}
use native.Mathlib.Omega.{arith}
use Rattle.registry.proofs.image.RegistryImage.stopped.Goals as goal

pub returns : goal.returns
unfolding view_of state_of runs rows_of firsts
returns c = (refl, record { state = omega arith; delay = omega arith; units = omega arith; entries = c.new_entries.ensures.1 })
