-- The ring picture: states, rows and what they keep, the fresh picture.
use Rattle.std.specs.Prelude.{ℕ, zero, suc, Bool, true, false, cond, not, ◌&&◌, List, [], ◌∷◌, ◌++◌, eqb, leb, length, get_or, take, drop}
use Rattle.laws.specs.Lists.{any}
use Rattle.rules.specs.House.{min_size, max_size, min_address, max_address}

-- "States: OFF, NOTOK, OK."
pub data State : Type 0 where
  Off NotOk Ok : State

unfoldable pub is_not_ok : State → Bool
is_not_ok Off = false
is_not_ok NotOk = true
is_not_ok Ok = false

unfoldable pub is_ok : State → Bool
is_ok Off = false
is_ok NotOk = false
is_ok Ok = true

-- a pair (FBlockID, InstID): the paper's block and number
pub record Pair : Type 0 where
  pub block : ℕ
  pub number : ℕ

unfoldable pub same_pair : Pair → Pair → Bool
same_pair a b = eqb a.block b.block && eqb a.number b.number

unfoldable pub holds : List Pair → Pair → Bool
holds ps a = any (same_pair a) ps

-- "Row status: WAITING (asked), SETTING (renumbering sent), LISTED, SILENT, IGNORED." "Only LISTED and SETTING rows keep an address
-- and pairs. An IGNORED row keeps the address that caused it". A SETTING row has "a place and a try count" too.
pub data Status : Type 0 where
  WAITING : Status
  SETTING : (address : ℕ) (pairs : List Pair) (place tries : ℕ) → Status
  LISTED : (address : ℕ) (pairs : List Pair) → Status
  SILENT : Status
  IGNORED : (address : ℕ) → Status

-- "Each row counts bad announcements and silences."
pub record Row : Type 0 where
  pub status : Status
  pub bad : ℕ
  pub silences : ℕ

-- The paper's ring picture. N is one more than the number of rows while the ring runs: "positions 1 to N−1 are units and they alone
-- have rows". The row of position p is number p − 1.
pub record Picture : Type 0 where
  pub state : State
  pub pass : ℕ
  pub size : ℕ
  pub delay : Bool
  pub rows : List Row

-- the setters; nothing else writes a whole row or picture but the steps themselves
unfoldable pub with_status : Status → Row → Row
with_status s r = record { status = s; bad = r.bad; silences = r.silences }

unfoldable pub with_rows : List Row → Picture → Picture
with_rows rs p = record { state = p.state; pass = p.pass; size = p.size; delay = p.delay; rows = rs }

unfoldable pub with_state : State → Picture → Picture
with_state s p = record { state = s; pass = p.pass; size = p.size; delay = p.delay; rows = p.rows }

unfoldable pub with_delay : Bool → Picture → Picture
with_delay d p = record { state = p.state; pass = p.pass; size = p.size; delay = d; rows = p.rows }

-- What a row keeps, if it keeps anything: "Only LISTED and SETTING rows keep an address and pairs."
pub data Kept : Type 0 where
  nothing : Kept
  kept : (address : ℕ) (pairs : List Pair) → Kept

unfoldable pub kept_by : Status → Kept
kept_by WAITING = nothing
kept_by (SETTING a ps i t) = kept a ps
kept_by (LISTED a ps) = kept a ps
kept_by SILENT = nothing
kept_by (IGNORED a) = nothing

unfoldable pub pairs_of : Kept → List Pair
pairs_of nothing = []
pairs_of (kept a ps) = ps

unfoldable pub has_address : ℕ → Kept → Bool
has_address a nothing = false
has_address a (kept b ps) = eqb a b

unfoldable pub has_other_address : ℕ → Kept → Bool
has_other_address a nothing = false
has_other_address a (kept b ps) = not (eqb a b)

abbrev pub kept_in : Row → Kept
kept_in r = kept_by r.status

unfoldable pub pairs_in : Row → List Pair
pairs_in r = pairs_of (kept_in r)

-- the row keeps this address; it keeps another one
unfoldable pub keeps : ℕ → Row → Bool
keeps a r = has_address a (kept_in r)

unfoldable pub keeps_other : ℕ → Row → Bool
keeps_other a r = has_other_address a (kept_in r)

-- "The first two are open questions."
unfoldable pub is_open_status : Status → Bool
is_open_status WAITING = true
is_open_status (SETTING a ps i t) = true
is_open_status (LISTED a ps) = false
is_open_status SILENT = false
is_open_status (IGNORED a) = false

unfoldable pub is_silent_status : Status → Bool
is_silent_status WAITING = false
is_silent_status (SETTING a ps i t) = false
is_silent_status (LISTED a ps) = false
is_silent_status SILENT = true
is_silent_status (IGNORED a) = false

unfoldable pub is_ignored_status : Status → Bool
is_ignored_status WAITING = false
is_ignored_status (SETTING a ps i t) = false
is_ignored_status (LISTED a ps) = false
is_ignored_status SILENT = false
is_ignored_status (IGNORED a) = true

unfoldable pub is_open : Row → Bool
is_open r = is_open_status r.status

unfoldable pub is_silent : Row → Bool
is_silent r = is_silent_status r.status

unfoldable pub is_ignored : Row → Bool
is_ignored r = is_ignored_status r.status

-- "outside 0101 to 02FF (house)"
unfoldable pub in_range : ℕ → Bool
in_range a = leb min_address a && leb a max_address

-- "An IGNORED row keeps the address that caused it, which bars that address if it lies in 0101 to 02FF hex."
unfoldable pub bars_status : ℕ → Status → Bool
bars_status a WAITING = false
bars_status a (SETTING b ps i t) = false
bars_status a (LISTED b ps) = false
bars_status a SILENT = false
bars_status a (IGNORED b) = eqb a b && in_range a

unfoldable pub bars : ℕ → Row → Bool
bars a r = bars_status a r.status

-- a row that is asked and counts nothing yet, and one for where the ring has no position
unfoldable pub new_row : Row
new_row = record { status = WAITING; bad = 0; silences = 0 }

unfoldable pub no_row : Row
no_row = record { status = IGNORED 0; bad = 0; silences = 0 }

-- the row of a position; a position that the ring does not have is never open
unfoldable pub row_at : List Row → ℕ → Row
row_at rows zero = no_row
row_at rows (suc i) = get_or rows i no_row

-- the row of a position between the rows in front of it and those behind it
pub record Seat : Type 0 where
  pub front : List Row
  pub row : Row
  pub back : List Row

unfoldable pub seat_at : List Row → ℕ → Seat
seat_at rows zero = record { front = []; row = no_row; back = [] }
seat_at rows (suc i) = record { front = take i rows; row = get_or rows i no_row; back = drop (suc i) rows }

unfoldable pub others : Seat → List Row
others s = s.front ++ s.back

-- the rows with another one in this seat
unfoldable pub put : Seat → Row → List Row
put s r = s.front ++ r ∷ s.back

-- the question for position x is open
unfoldable pub open_at : Picture → ℕ → Bool
open_at p x = is_open (row_at p.rows x)

-- N, and 0 where the ring does not run
unfoldable pub nodes_in : State → List Row → ℕ
nodes_in Off rs = 0
nodes_in NotOk rs = suc (length rs)
nodes_in Ok rs = suc (length rs)

unfoldable pub nodes : Picture → ℕ
nodes p = nodes_in p.state p.rows

-- "L of 12 to 45 (house)"
unfoldable pub legal_size : ℕ → Bool
legal_size l = leb min_size l && leb l max_size

-- "A fresh picture is OFF, pass 0"; 10: "where a picture is made, a fresh one for 12 comes back"
unfoldable pub fresh : ℕ → Picture
fresh l = record { state = Off; pass = 0; size = cond (legal_size l) l min_size; delay = false; rows = [] }

-- the number given back where a picture is made
unfoldable pub fresh_number : ℕ → ℕ
fresh_number l = cond (legal_size l) 0 10
