-- Telegrams, from answers to their numbers: what a function ensures of its answer, told as numbers.
use Rattle.std.proofs.Common.{◌≡◌, ℕ, List, Bool, Option, Some, None, Result, Ok, Err, refl, ap, ◌∙◌}
use Rattle.std.specs.Option.{is_some, unwrap_or}
use Rattle.std.specs.Result.{result_unwrap_or}
use mir.Val.{bool_byte}
use Rattle.rules.specs.Telegram as rules
use Rattle.numbers.specs.declared.Refusal.{Refusal}
use Rattle.numbers.specs.Numbers.{number_in}
use Rattle.tel_cut.specs.Answers as segmentation
use Rattle.tel_join_state.specs.declared.Message.{Message}
use Rattle.tel_join_state.specs.declared.Reassembly.{Reassembly}
use Rattle.tel_join_state.specs.Answers as joining
use Rattle.tel_join_state.specs.Answers.{join_answer, join_msg_id_of, join_length_of}
use Rattle.tel_count.specs.Answers.{count_answer}
use Rattle.tel_round_trip.proofs.Promises.{promises}
use Rattle.lathepetal.specs.Numbers.{Cuts, Joins, complete}

-- telegrams counted
pub counts : (c : rules.Count) (answer : Result ℕ Refusal) {number telegrams : ℕ}
    → count_answer answer ≡ c → number ≡ number_in answer → telegrams ≡ result_unwrap_or answer 0
    → (number ≡ rules.count_number c) × (telegrams ≡ rules.count_value c)
counts c answer a n t = let told = promises.counted c answer a in (n ∙ told.0, t ∙ told.1)

-- a telegram cut
pub cuts : {c : rules.Cut} {before after : List ℕ} {answer : Result ℕ Refusal} {number long : ℕ}
    → segmentation.Cuts c before answer after → number ≡ number_in answer → long ≡ result_unwrap_or answer 0
    → Cuts c before (record { number = number; length = long }) after
cuts {c} {answer = answer} h n l =
    let told = promises.cut c answer h.answered in
    record { number = n ∙ told.0; long = l ∙ told.1; buffer = h.buffer }

-- the message of an answer, or zeros
abbrev told_of : Option Message → Message
told_of message = unwrap_or message (record { msg_id = 0; length = 0 })

msg_id_told : (a : Result (Option Message) Refusal) → (told_of (result_unwrap_or a None)).msg_id ≡ join_msg_id_of a
msg_id_told (Ok None) = refl
msg_id_told (Ok (Some m)) = refl
msg_id_told (Err r) = refl

length_told : (a : Result (Option Message) Refusal) → (told_of (result_unwrap_or a None)).length ≡ join_length_of a
length_told (Ok None) = refl
length_told (Ok (Some m)) = refl
length_told (Err r) = refl

complete_told : (a : Result (Option Message) Refusal) → bool_byte (is_some (result_unwrap_or a None)) ≡ complete (join_answer a)
unfolding complete
complete_told (Ok None) = refl
complete_told (Ok (Some m)) = refl
complete_told (Err r) = refl

-- a telegram joined
pub joins : {came state : Reassembly} {j : rules.Joined} {after : List ℕ} (a : Result (Option Message) Refusal) {message : Option Message} {told : Message} {number done : ℕ} {some : Bool}
    → joining.Joins came j a state after → number ≡ number_in a → message ≡ result_unwrap_or a None → told ≡ unwrap_or message (record { msg_id = 0; length = 0 })
    → some ≡ is_some message → done ≡ bool_byte some
    → Joins came j (record { number = number; complete = done; msg_id = told.msg_id; length = told.length; state = state }) after
joins {j = j} a {message} {told} h n m t s d =
    let p = promises.joined j.answer a h.answered in
    let e : told ≡ told_of (result_unwrap_or a None) = t ∙ ap told_of m in
    record {
      number = n ∙ p.0;
      done = d ∙ ap bool_byte (s ∙ ap is_some m) ∙ complete_told a ∙ ap complete h.answered;
      message = ap (λ (x : Message). x.msg_id) e ∙ msg_id_told a ∙ p.1;
      long = ap (λ (x : Message). x.length) e ∙ length_told a ∙ p.2;
      next = h.next;
      numbers = h.numbers;
      buffer = h.buffer;
    }
