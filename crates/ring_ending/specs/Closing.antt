-- The ending of an event, from the marks that its steps left and from what the rows leave open: whether a question is open, whether a row
-- is SILENT, and whether one of these counts fewer silences than the most.
use Rattle.std.specs.Prelude.{ℕ, ◌≡◌, Bool, cond, not, ◌&&◌, ◌||◌, List, [], ◌∷◌, ◌++◌}
use Rattle.laws.specs.Buffers.{Wrote}
use Rattle.rules.specs.Picture.{State, Ok, is_not_ok, is_ok}
use Rattle.rules.specs.Order.{Order, OK, WAIT_SHORT, WAIT_LONG, encode_all}
use Rattle.ring_state.specs.State.{state_of, runs}
use Rattle.ring_ending.specs.declared.Closed.{Closed}

-- a scan is over
unfoldable pub is_over : State → (question : Bool) → Bool
is_over s q = is_not_ok s && not q

-- the state afterwards
unfoldable pub state_after : State → (question : Bool) → State
state_after s q = cond (is_over s q) Ok s

-- a delay starts
unfoldable pub starts_delay : State → (delay question silent : Bool) → Bool
starts_delay s d q n = is_ok (state_after s q) && not q && n && not d

unfoldable pub closing_orders : State → (delay question silent short : Bool) → List Order
closing_orders s d q n h = cond (is_over s q) (OK ∷ []) [] ++ cond (starts_delay s d q n) (cond h WAIT_SHORT WAIT_LONG ∷ []) []

-- What closing does: the marks afterwards, and the orders written from `at` on.
pub record Closes (s : State) (d q n h : Bool) (pass : ℕ) (before : List ℕ) (at : ℕ) (r : Closed) (after : List ℕ) : Type 0 where
  pub state : state_of r.state.0 ≡ state_after s q
  pub delay : runs r.delay.0 ≡ d || starts_delay s d q n
  pub wrote : Wrote before at (encode_all pass (closing_orders s d q n h)) r.end after
