-- The number of a refusal: 2 for bytes that are no event, 3 to 8 for an event, and 0 where none of these refuses it.
use Rattle.std.specs.Prelude.{ℕ, ◌-◌, min, cond, not, ◌&&◌, eqb, ltb, None, Some}
use Rattle.std.specs.Prelude as std
use Rattle.std.proofs.Math.Option.{Option, none, some}
use Rattle.rules.specs.House.{max_units}
use Rattle.rules.specs.Picture.{State, Row, is_not_ok, is_open, is_ignored}
use Rattle.rules.specs.Event.{Event, START, NCE, SHUTDOWN, ANSWER, NONE, DELAY}
use Rattle.rules.specs.Step.{takes, not_taken}
use Rattle.numbers.specs.declared.Refusal.{Refusal}
use Rattle.numbers.specs.Numbers.{number_of}

-- 2, 3, 4, or 0 where the table takes the event
unfoldable pub refusal_of : State → Option Event → ℕ
refusal_of s none = 2
refusal_of s (some e) = cond (takes s e) 0 (not_taken e)

-- the number of a refusal that the table has, or 0 where it has none
abbrev pub number_or_none : std.Option Refusal → ℕ
number_or_none None = 0
number_or_none (Some r) = number_of r

-- the table's column of an event
unfoldable pub kind_in : Event → ℕ
kind_in (START n) = 0
kind_in (NCE n) = 1
kind_in SHUTDOWN = 2
kind_in (ANSWER c x a ps) = 3
kind_in (NONE c x) = 4
kind_in (DELAY c) = 5

-- the place of a position's entry, and of the one that an event speaks of; the first where there is none
unfoldable pub place_in : (x : ℕ) → ℕ
place_in x = cond (eqb x 0) 0 (cond (ltb max_units x) 0 (x - 1))

unfoldable pub seat_in : Option Event → ℕ
seat_in none = 0
seat_in (some (START n)) = 0
seat_in (some (NCE n)) = 0
seat_in (some SHUTDOWN) = 0
seat_in (some (ANSWER c x a ps)) = place_in x
seat_in (some (NONE c x)) = place_in x
seat_in (some (DELAY c)) = 0

-- 5, 6 and 7 for pass c and position x, where the pass is n, there are k units, and the row of the position is r
unfoldable pub seat_refusal : (n k : ℕ) → Row → (c x : ℕ) → ℕ
seat_refusal n k r c x = cond (not (eqb c n)) 5 (cond (eqb x 0) 6 (cond (ltb (min k max_units) x) 6 (cond (is_ignored r) 7 0)))

unfoldable pub or_else : (first second : ℕ) → ℕ
or_else n m = cond (eqb n 0) m n

-- 8 of an ANSWER and of a NONE, or 0
abbrev pub unasked_number : State → Row → ℕ
unasked_number s r = cond (is_not_ok s && not (is_open r)) 8 0

abbrev pub unexpected_number : Row → ℕ
unexpected_number r = cond (not (is_open r)) 8 0

-- 5 to 8 of an ANSWER or a NONE, or 0
unfoldable pub reply_refusal : State → (n k : ℕ) → Row → Option Event → ℕ
reply_refusal s n k r none = 0
reply_refusal s n k r (some (START m)) = 0
reply_refusal s n k r (some (NCE m)) = 0
reply_refusal s n k r (some SHUTDOWN) = 0
reply_refusal s n k r (some (ANSWER c x a ps)) = or_else (seat_refusal n k r c x) (unasked_number s r)
reply_refusal s n k r (some (NONE c x)) = or_else (seat_refusal n k r c x) (unexpected_number r)
reply_refusal s n k r (some (DELAY c)) = 0
