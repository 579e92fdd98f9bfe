-- What joining answers, as the rules say it, and what each state stands for.
use Rattle.std.specs.Prelude.{ℕ, ◌≡◌, List, cond, eqb, Option, None, Some, Result, Ok, Err}
use Rattle.rules.specs.Telegram as rules
use Rattle.numbers.specs.declared.Refusal.{Refusal}
use Rattle.numbers.specs.Numbers.{number_of}
use Rattle.tel_join_state.specs.declared.Message.{Message}
use Rattle.tel_join_state.specs.declared.Reassembly.{Reassembly}

abbrev pub join_answer : Result (Option Message) Refusal → rules.Join
join_answer (Ok None) = rules.still_open
join_answer (Ok (Some m)) = rules.complete m.msg_id m.length
join_answer (Err r) = rules.unjoined (number_of r)

-- the MsgID and the length of a message that is complete, else 0
abbrev pub join_msg_id_of : Result (Option Message) Refusal → ℕ
join_msg_id_of (Ok None) = 0
join_msg_id_of (Ok (Some m)) = m.msg_id
join_msg_id_of (Err r) = 0

abbrev pub join_length_of : Result (Option Message) Refusal → ℕ
join_length_of (Ok None) = 0
join_length_of (Ok (Some m)) = m.length
join_length_of (Err r) = 0

-- the message that a state stands for, whatever its numbers are
unfoldable pub joining_of : Reassembly → rules.Joining
joining_of s = cond (eqb s.open 0) rules.idle (rules.opened s.msg_id s.counter s.length)

-- the numbers that the box writes for a message: no stale ones where none is open
unfoldable pub state_of : rules.Joining → Reassembly
state_of rules.idle = record { «open» = 0; msg_id = 0; counter = 0; length = 0 }
state_of (rules.opened m c n) = record { «open» = 1; msg_id = m; counter = c; length = n }

-- the state afterwards: after 10, 13, 14 and 15 the very one that came in
unfoldable pub handed_back : rules.Join → (came : Reassembly) → rules.Joining → Reassembly
handed_back (rules.unjoined n) came j = cond (eqb n 16) (state_of j) came
handed_back rules.still_open came j = state_of j
handed_back (rules.complete m n) came j = state_of j

-- What joining does with a state: the answer, the message that the next state stands for and its very numbers, and the lent buffer afterwards.
pub record Joins (came : Reassembly) (j : rules.Joined) (answer : Result (Option Message) Refusal) (state : Reassembly) (after : List ℕ) : Type 0 where
  pub answered : join_answer answer ≡ j.answer
  pub next : joining_of state ≡ j.state
  pub numbers : state ≡ handed_back j.answer came j.state
  pub buffer : after ≡ j.buffer
