-- What cutting answers: a refusal by its number, a telegram by its length.
use Rattle.std.specs.Prelude.{ℕ, ◌≡◌, List, length, Result, Ok, Err}
use Rattle.std.proofs.lemmas.List.Edits.{sets}
use Rattle.rules.specs.Telegram as rules
use Rattle.numbers.specs.declared.Refusal.{Refusal}
use Rattle.numbers.specs.Numbers.{number_of}

abbrev pub cut_answer : rules.Cut → Result ℕ ℕ
cut_answer (rules.uncut n) = Err n
cut_answer (rules.cut_to t) = Ok (length t)

-- an answer in code, with the number of its refusal
abbrev pub numbered : Result ℕ Refusal → Result ℕ ℕ
numbered (Ok n) = Ok n
numbered (Err r) = Err (number_of r)

-- What cutting does: the answer, and the lent buffer afterwards, which has the telegram at its start and is else as it was.
pub record Cuts (c : rules.Cut) (before : List ℕ) (answer : Result ℕ Refusal) (after : List ℕ) : Type 0 where
  pub answered : numbered answer ≡ cut_answer c
  pub buffer : after ≡ sets before 0 (rules.cut_bytes c)
