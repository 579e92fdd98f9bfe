-- What follows from the contracts, for whoever reads numbers and lengths instead of answers.
use Rattle.std.specs.Prelude.{ℕ, ◌≡◌, List, drop, Option, Result}
use Rattle.std.specs.Result.{result_unwrap_or}
use Rattle.rules.specs.Telegram as rules
use Rattle.numbers.specs.declared.Refusal.{Refusal}
use Rattle.numbers.specs.Numbers.{number_in}
use Rattle.tel_count.specs.Answers.{count_answer}
use Rattle.tel_cut.specs.Answers.{numbered, cut_answer, Cuts}
use Rattle.tel_join_state.specs.declared.Message.{Message}
use Rattle.tel_join_state.specs.Answers.{join_answer, join_msg_id_of, join_length_of}

pub record Promises : Type 0 where
  -- the numbers and values of each answer are the rules'
  pub counted : (c : rules.Count) (r : Result ℕ Refusal) → count_answer r ≡ c → (number_in r ≡ rules.count_number c) × (result_unwrap_or r 0 ≡ rules.count_value c)
  pub cut : (c : rules.Cut) (r : Result ℕ Refusal) → numbered r ≡ cut_answer c → (number_in r ≡ rules.cut_number c) × (result_unwrap_or r 0 ≡ rules.cut_length c)
  pub joined : (j : rules.Join) (r : Result (Option Message) Refusal) → join_answer r ≡ j
      → (number_in r ≡ rules.join_number j) × (join_msg_id_of r ≡ rules.join_msg_id j) × (join_length_of r ≡ rules.join_length j)
  -- "Lent bytes beyond what was written never change."
  pub behind : (c : rules.Cut) (before after : List ℕ) (r : Result ℕ Refusal) → Cuts c before r after → drop (result_unwrap_or r 0) after ≡ drop (result_unwrap_or r 0) before
