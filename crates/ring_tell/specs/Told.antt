-- What is told where an event begins and ends in OK.
use Rattle.std.specs.Prelude.{ℕ, cond, List, [], ◌++◌}
use Rattle.rules.specs.Picture.{State, is_ok, Pair, Row, is_open}
use Rattle.rules.specs.Order.{Order, NEW, INVALID}
use Rattle.rules.specs.Renumber.{Renumbering}
use Rattle.rules.specs.Step.{asks, set_order}
use Rattle.rules.specs.Ending.{tell, lost, gained, tell_rows}

-- what is told of one changed row
unfoldable pub row_told : State → (size : ℕ) → (before after : Row) → List Order
row_told s size b a = cond (is_ok s) (tell INVALID size (lost b a) ++ tell NEW size (gained b a)) []

-- what is told of all rows
unfoldable pub rows_told : State → (size : ℕ) → (before after : List Row) → List Order
rows_told s size bs cs = cond (is_ok s) (tell_rows INVALID lost size bs cs ++ tell_rows NEW gained size bs cs) []

-- what a ring change in OK asks and tells: an ASK for each new row that is open, INVALID for the pairs listed so far
abbrev pub change_told : (size : ℕ) → List Row → List Pair → List Order
change_told size rows ps = asks is_open 1 rows ++ tell INVALID size ps

-- what is told where one row becomes another, and the SET to address a of position x
abbrev pub reply_told : State → (size : ℕ) → (before after : Row) → (x a : ℕ) → Renumbering → List Order
reply_told s size b c x a n = row_told s size b c ++ set_order x a n
