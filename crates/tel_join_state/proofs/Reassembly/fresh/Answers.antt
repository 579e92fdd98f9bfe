-- A fresh state has no open message.
use mathlib.Core.Path.{refl}
use Rattle.tel_join_state.specs.Answers.{joining_of, state_of}
use Rattle.tel_join_state.proofs.Reassembly.fresh.Goals as goal

pub returns : goal.returns
unfolding joining_of state_of
returns c = (refl, refl)
