-- A message that is cut and joined again.
use Rattle.std.specs.Prelude.{ℕ, cond, not, List, ◌++◌, ltb, length, drop, Result, Ok, Err}
use Rattle.rules.specs.House.{max_payload}
use Rattle.rules.specs.Picture.{legal_size}
use Rattle.rules.specs.Telegram as rules
use Rattle.numbers.specs.declared.Refusal.{Refusal}
use Rattle.numbers.specs.Numbers.{number_of}
use Rattle.tel_join_state.specs.declared.Message.{Message}

-- what the code answers, as the rules say it
abbrev pub back_answer : Result Message Refusal → rules.Join
back_answer (Ok m) = rules.complete m.msg_id m.length
back_answer (Err r) = rules.unjoined (number_of r)

pub record Back : Type 0 where
  pub answer : rules.Join
  pub buffer : List ℕ

-- "A message of up to 65,535 bytes, cut and then joined, comes back the same": its MsgID, its length, and its bytes at the start of the buffer
unfoldable pub back : (size msg_id : ℕ) → (payload buffer : List ℕ) → Back
back size msg_id payload b =
    cond (not (legal_size size)) (record { answer = rules.unjoined 10; buffer = b })
    (cond (ltb max_payload (length payload)) (record { answer = rules.unjoined 11; buffer = b })
    (cond (ltb (length b) max_payload) (record { answer = rules.unjoined 13; buffer = b })
    (record { answer = rules.complete msg_id (length payload); buffer = payload ++ drop (length payload) b })))
