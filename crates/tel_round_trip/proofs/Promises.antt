-- The numbers and values of answers, and the bytes behind a telegram.
use Rattle.std.proofs.Common.{◌≡◌, ℕ, ◌+◌, List, length, drop, Option, Some, None, Result, Ok, Err, refl, ap, ◌∙◌, arith}
use Rattle.std.specs.Result.{result_unwrap_or}
use Rattle.laws.specs.Buffers.{sets_behind}
use Rattle.rules.specs.Telegram as rules
use Rattle.rules.specs.Telegram.{count_number, count_value, cut_number, cut_length, cut_bytes, join_number, join_msg_id, join_length}
use Rattle.numbers.specs.declared.Refusal.{Refusal}
use Rattle.numbers.specs.Numbers.{number_in}
use Rattle.tel_count.specs.Answers.{count_answer}
use Rattle.tel_cut.specs.Answers.{numbered, cut_answer, Cuts}
use Rattle.tel_join_state.specs.declared.Message.{Message}
use Rattle.tel_join_state.specs.Answers.{join_answer, join_msg_id_of, join_length_of}
use Rattle.tel_round_trip.specs.Promises.{Promises}

counted : (c : rules.Count) (r : Result ℕ Refusal) → count_answer r ≡ c → (number_in r ≡ count_number c) × (result_unwrap_or r 0 ≡ count_value c)
unfolding count_number count_value
counted c (Ok k) e = (ap count_number e, ap count_value e)
counted c (Err r) e = (ap count_number e, ap count_value e)

cut : (c : rules.Cut) (r : Result ℕ Refusal) → numbered r ≡ cut_answer c → (number_in r ≡ cut_number c) × (result_unwrap_or r 0 ≡ cut_length c)
unfolding cut_number cut_length cut_bytes
cut (rules.uncut n) (Ok k) e = absurd (cc)
cut (rules.uncut n) (Err r) e = (cc, refl)
cut (rules.cut_to t) (Ok k) e = (refl, cc)
cut (rules.cut_to t) (Err r) e = absurd (cc)

joined : (j : rules.Join) (r : Result (Option Message) Refusal) → join_answer r ≡ j
    → (number_in r ≡ join_number j) × (join_msg_id_of r ≡ join_msg_id j) × (join_length_of r ≡ join_length j)
unfolding join_number join_msg_id join_length
joined j (Ok None) e = (ap join_number e, ap join_msg_id e, ap join_length e)
joined j (Ok (Some m)) e = (ap join_number e, ap join_msg_id e, ap join_length e)
joined j (Err r) e = (ap join_number e, ap join_msg_id e, ap join_length e)

behind : (c : rules.Cut) (before after : List ℕ) (r : Result ℕ Refusal) → Cuts c before r after → drop (result_unwrap_or r 0) after ≡ drop (result_unwrap_or r 0) before
unfolding cut_length
behind c before after r h =
    let e : result_unwrap_or r 0 ≡ 0 + length (cut_bytes c) = (cut c r h.answered).1 ∙ omega arith in
    rw e (ap (drop (0 + length (cut_bytes c))) h.buffer ∙ sets_behind before (cut_bytes c) 0)

pub promises : Promises
promises = record { counted = counted; cut = cut; joined = joined; behind = behind }
