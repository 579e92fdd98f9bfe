-- `begin` is the rules' way of TelID 1.
use mathlib.Core.Path.{refl}
use borrow.Author.Tests.{eq-eqb, ne_eqb}
use Rattle.rules.specs.Telegram.{begins}
use Rattle.tel_join_state.specs.Answers.{handed_back}
use Rattle.tel_join_state.proofs.Joining.{drops}
use Rattle.tel_join_state.proofs.Reassembly.begin.Goals as goal

pub returns-then-counter-ne0 : goal.returns-then-counter-ne0
unfolding begins
returns-then-counter-ne0 c =
    drops c.args.buffer.now (simp (ne_eqb _ _ c.if-counter-ne0.true)) c.dropped.ensures

pub returns : goal.returns
unfolding begins handed_back
returns c =
    simp (eq-eqb _ _ c.if-counter-ne0.false) (record { answered = refl; next = c.opened.ensures.0; numbers = c.opened.ensures.1; buffer = c.store.ensures })
