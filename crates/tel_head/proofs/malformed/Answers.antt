-- `malformed` is the rules' test: one case for each return.
use native.Mathlib.Omega.{arith}
use Rattle.std.proofs.lemmas.Bool.Decides.{nat_tests}
use Rattle.rules.specs.Telegram.{malformed}
use Rattle.tel_head.proofs.malformed.Goals as goal

pub returns-then-l-tel_len : goal.returns-then-l-tel_len
unfolding malformed
returns-then-l-tel_len c = grind (arith, nat_tests)

pub returns-then-tel_id : goal.returns-then-tel_id
unfolding malformed
returns-then-tel_id c = grind (arith, nat_tests)

pub returns-else-tel_id : goal.returns-else-tel_id
unfolding malformed
returns-else-tel_id c = grind (arith, nat_tests)
