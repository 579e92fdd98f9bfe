-- What the registry's marks stand for, whatever their numbers are.
use Rattle.std.specs.Prelude.{ℕ, Bool, cond, not, eqb}
use Rattle.rules.specs.Picture.{State, Off, NotOk, Ok}

-- a state by its number: 0 OFF, 1 NOTOK, any other OK
unfoldable pub state_of : ℕ → State
state_of m = cond (eqb m 0) Off (cond (eqb m 1) NotOk Ok)

unfoldable pub state_number : State → ℕ
state_number Off = 0
state_number NotOk = 1
state_number Ok = 2

-- a delay by its number: 0 where none runs
unfoldable pub runs : ℕ → Bool
runs m = not (eqb m 0)

-- the last state, OK, and the last delay, one that runs: what the box hands out shows no other numbers
abbrev pub last_state : ℕ
last_state = 2

abbrev pub last_delay : ℕ
last_delay = 1

-- the table's row for a state by its number
unfoldable pub state_row : ℕ → ℕ
state_row m = cond (eqb m 0) 0 (cond (eqb m 1) 1 2)
