-- What the exported functions do, with numbers in place of answers.
use Rattle.std.specs.Prelude.{ℕ, ◌≡◌, List}
use Rattle.std.proofs.lemmas.List.Edits.{sets}
use Rattle.rules.specs.Telegram as rules
use Rattle.tel_join_state.specs.declared.Reassembly.{Reassembly}
use Rattle.tel_join_state.specs.Answers.{joining_of, handed_back}
use Rattle.lathepetal.specs.declared.telegrams.CutOutcome.{CutOutcome}
use Rattle.lathepetal.specs.declared.telegrams.JoinOutcome.{JoinOutcome}

-- What cutting does: number, length and lent buffer are the rules'.
pub record Cuts (c : rules.Cut) (before : List ℕ) (r : CutOutcome) (after : List ℕ) : Type 0 where
  pub number : r.number ≡ rules.cut_number c
  pub long : r.length ≡ rules.cut_length c
  pub buffer : after ≡ sets before 0 (rules.cut_bytes c)

-- 1 where a message is complete
unfoldable pub complete : rules.Join → ℕ
complete (rules.unjoined n) = 0
complete rules.still_open = 0
complete (rules.complete m n) = 1

-- What joining does with a state: numbers, next state and lent buffer are the rules'.
pub record Joins (came : Reassembly) (j : rules.Joined) (r : JoinOutcome) (after : List ℕ) : Type 0 where
  pub number : r.number ≡ rules.join_number j.answer
  pub done : r.complete ≡ complete j.answer
  pub message : r.msg_id ≡ rules.join_msg_id j.answer
  pub long : r.length ≡ rules.join_length j.answer
  pub next : joining_of r.state ≡ j.state
  pub numbers : r.state ≡ handed_back j.answer came j.state
  pub buffer : after ≡ j.buffer
