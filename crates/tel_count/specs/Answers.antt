-- What counting answers, as the rules say it.
use Rattle.std.specs.Prelude.{ℕ, Result, Ok, Err}
use Rattle.rules.specs.Telegram as rules
use Rattle.numbers.specs.declared.Refusal.{Refusal}
use Rattle.numbers.specs.Numbers.{number_of}

abbrev pub count_answer : Result ℕ Refusal → rules.Count
count_answer (Ok k) = rules.count_is k
count_answer (Err r) = rules.uncounted (number_of r)
