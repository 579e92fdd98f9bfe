-- What each event does to the ring picture, in the order of paper 01's steps, and when it is refused 3 to 9.
use Rattle.std.specs.Prelude.{ℕ, suc, ◌-◌, min, Bool, true, false, cond, not, ◌&&◌, ◌||◌, List, [], ◌∷◌, ◌++◌, map, eqb, leb, ltb, length, replicate}
use Rattle.laws.specs.Lists.{any, collect}
use Rattle.rules.specs.House.{max_bad, max_silences, max_pass}
use Rattle.rules.specs.Picture.{State, Off, NotOk, Ok, is_not_ok, is_ok, Pair, Status, WAITING, SETTING, LISTED, SILENT, IGNORED, Row, Picture, with_status, with_rows}
use Rattle.rules.specs.Picture.{pairs_in, keeps, keeps_other, is_open, is_silent, is_ignored, in_range, bars, new_row, Seat, seat_at, others, put}
use Rattle.rules.specs.Event.{Event, START, NCE, SHUTDOWN, ANSWER, NONE, DELAY}
use Rattle.rules.specs.Order.{Order, ASK, SET, NOTOK}
use Rattle.rules.specs.Renumber.{Judged, judge, goods, free_number, Renumbering, finished, renumbers, renumber, place_of, tries_of}

-- How pairs are told: "rows separately", or at an NCE in OK "packed across rows in listing order".
pub data Packing : Type 0 where
  rows_separately across_rows : Packing

-- What a taken event changes before its ending: the picture, the orders that stand first (NOTOK, ASKs), how pairs are told, and the
-- SET.
pub record Change : Type 0 where
  pub picture : Picture
  pub first : List Order
  pub packing : Packing
  pub set : List Order

pub data Response : Type 0 where
  refuse : (number : ℕ) → Response
  change : Change → Response

-- a refusal with number n where the test holds
unfoldable pub refuse_if : Bool → ℕ → Response → Response
refuse_if true n r = refuse n
refuse_if false n r = r

-- the ASKs of the rows that pass the test, ascending from position x
unfoldable pub asks : (Row → Bool) → ℕ → List Row → List Order
asks f x [] = []
asks f x (r ∷ rs) = cond (f r) (ASK x ∷ asks f (suc x) rs) (asks f (suc x) rs)

-- START: "N set, counters zero, all rows WAITING, ASK each, state NOTOK, pass +1." NCE in NOTOK: "the same, with the order NOTOK first
-- ..; counters and barred addresses are forgotten (REQ 8.61), a running delay ends."
unfoldable pub scanned : List Row → Picture → Picture
scanned rs p = record { state = NotOk; pass = suc p.pass; size = p.size; delay = false; rows = rs }

unfoldable pub scan : List Order → List Row → Picture → Change
scan first rs p = record { picture = scanned rs p; first = first ++ asks is_open 1 rs; packing = rows_separately; set = [] }

unfoldable pub begin : List Order → ℕ → Picture → Change
begin first n p = scan first (replicate (n - 1) new_row) p

-- NCE in OK (ticket 1): "keeps OK and sends no NOTOK: every pair listed so far is told INVALID, packed across rows in listing order,
-- rows are emptied and asked .. Pass and counters move as before, and a running delay ends."
unfoldable pub rescanned : List Row → Picture → Picture
rescanned rs p = record { state = Ok; pass = suc p.pass; size = p.size; delay = false; rows = rs }

unfoldable pub rescan : ℕ → Picture → Change
rescan n p =
    let rs = replicate (n - 1) new_row in
    record { picture = rescanned rs p; first = asks is_open 1 rs; packing = across_rows; set = [] }

-- "In NOTOK nothing changes."
unfoldable pub network_change : ℕ → Picture → Change
network_change n p = cond (is_ok p.state) (rescan n p) (begin (NOTOK ∷ []) n p)

-- SHUTDOWN: "OFF, everything emptied except pass and L. No orders."
unfoldable pub shut_down : Picture → Change
shut_down p = record { picture = record { state = Off; pass = p.pass; size = p.size; delay = false; rows = [] }; first = []; packing = rows_separately; set = [] }

-- a change of rows that asks nothing
unfoldable pub change_rows : List Row → Picture → Change
change_rows rs p = record { picture = with_rows rs p; first = []; packing = rows_separately; set = [] }

-- NONE: "the row loses address and pairs, becomes SILENT, silence count +1, stopping at 20."
unfoldable pub silenced : Row → Row
silenced r = record { status = SILENT; bad = r.bad; silences = min max_silences (suc r.silences) }

-- DELAY: "the running delay ends; every SILENT row becomes WAITING and is asked."
unfoldable pub asked : Row → Row
asked r = cond (is_silent r) (with_status WAITING r) r

unfoldable pub delay_ends : Picture → Change
delay_ends p =
    record {
      picture = record { state = p.state; pass = p.pass; size = p.size; delay = false; rows = map asked p.rows };
      first = asks is_silent 1 p.rows;
      packing = rows_separately;
      set = [];
    }

-- ANSWER, "address first, the first that applies": a to d, or none of them
pub data Verdict : Type 0 where
  barred outside duplicate changed fine : Verdict

-- by what is true of the address: an IGNORED row bars it, it is in range, another row keeps it, this row keeps another one
unfoldable pub first_that_applies : (bars ranged kept other : Bool) → Verdict
first_that_applies true r k o = barred
first_that_applies false false k o = outside
first_that_applies false true true o = duplicate
first_that_applies false true false true = changed
first_that_applies false true false false = fine

-- a: "barred by an IGNORED row"; b: "outside 0101 to 02FF (house)"; c: "kept by another row q"; d: "p keeps another address"
unfoldable pub verdict : List Row → Row → ℕ → Verdict
verdict rest r a = first_that_applies (any (bars a) rest) (in_range a) (any (keeps a) rest) (keeps_other a r)

-- a: "this row becomes IGNORED with that address and loses its pairs; nothing is counted"
unfoldable pub ignored : ℕ → Row → Row
ignored a r = with_status (IGNORED a) r

-- "bad, counted"; the count stops at 3, where the row is IGNORED and counts no more
unfoldable pub counted : Row → Row
counted r = record { status = r.status; bad = min max_bad (suc r.bad); silences = r.silences }

unfoldable pub at_limit : Row → Bool
at_limit r = eqb r.bad max_bad

-- the rows where the one in the seat, and of the others those that count too, become what f makes of them
unfoldable pub on_counted : (Row → Bool) → (Row → Row) → Seat → List Row
on_counted counts f s =
    map (λ (r : Row). cond (counts r) (f r) r) s.front ++ f s.row ∷ map (λ (r : Row). cond (counts r) (f r) r) s.back

-- restart: "all rows not IGNORED emptied, WAITING and asked; bad and silence counts stay"
unfoldable pub emptied : Row → Row
emptied r = cond (is_ignored r) r (with_status WAITING r)

-- "After b, c or d: if a counted row now stands at 3 (house), all rows just counted become IGNORED with the announced address (REQ
-- 8.60) and lose their pairs. Otherwise a restart: pass +1, state and order NOTOK, .. a running delay ends."
unfoldable pub conflict : (Row → Bool) → ℕ → Seat → Picture → Response
conflict counts a s p =
    cond (at_limit (counted s.row) || any (λ (r : Row). counts r && at_limit (counted r)) (others s))
    (change (change_rows (on_counted counts (λ (r : Row). ignored a (counted r)) s) p))
    (refuse_if (leb max_pass p.pass) 9 (change (scan (NOTOK ∷ []) (map emptied (on_counted counts counted s)) p)))

-- "Else the address is kept, the silence count is zero and the pairs are judged in order." Then renumbering: SETTING and the SET, or
-- LISTED.
unfoldable pub status_after : (address : ℕ) → List Pair → Renumbering → Status
status_after a ps finished = LISTED a ps
status_after a ps (renumbers place tries pair new) = SETTING a ps place tries

unfoldable pub set_order : (position address : ℕ) → Renumbering → List Order
set_order x a finished = []
set_order x a (renumbers place tries pair new) = SET x a pair.block pair.number new ∷ []

unfoldable pub judged_for : Seat → List Pair → List Judged
judged_for s ps = judge (collect pairs_in (others s)) [] ps

unfoldable pub renumbering_for : Seat → List Pair → Renumbering
renumbering_for s ps =
    renumber (free_number (collect pairs_in (others s)) ps) (place_of s.row.status) (tries_of s.row.status) (judged_for s ps)

unfoldable pub listed_row : Seat → (address : ℕ) → List Pair → Row
listed_row s a ps = record { status = status_after a (goods (judged_for s ps)) (renumbering_for s ps); bad = s.row.bad; silences = 0 }

unfoldable pub keep_answer : (position address : ℕ) → List Pair → Seat → Picture → Change
keep_answer x a ps s p =
    record { picture = with_rows (put s (listed_row s a ps)) p; first = []; packing = rows_separately; set = set_order x a (renumbering_for s ps) }

-- c counts "for p and q"; b and d for p alone
unfoldable pub nobody : Row → Bool
nobody r = false

unfoldable pub answer : Verdict → (position address : ℕ) → List Pair → Seat → Picture → Response
answer barred x a ps s p = change (change_rows (put s (ignored a s.row)) p)
answer outside x a ps s p = conflict nobody a s p
answer duplicate x a ps s p = conflict (keeps a) a s p
answer changed x a ps s p = conflict nobody a s p
answer fine x a ps s p = change (keep_answer x a ps s p)

-- "A small table fixes which record kinds are taken in which ring state: OFF takes START; NOTOK and OK take all others"
unfoldable pub takes : State → Event → Bool
takes Off (START n) = true
takes Off (NCE n) = false
takes Off SHUTDOWN = false
takes Off (ANSWER c x a ps) = false
takes Off (NONE c x) = false
takes Off (DELAY c) = false
takes NotOk (START n) = false
takes NotOk (NCE n) = true
takes NotOk SHUTDOWN = true
takes NotOk (ANSWER c x a ps) = true
takes NotOk (NONE c x) = true
takes NotOk (DELAY c) = true
takes Ok (START n) = false
takes Ok (NCE n) = true
takes Ok SHUTDOWN = true
takes Ok (ANSWER c x a ps) = true
takes Ok (NONE c x) = true
takes Ok (DELAY c) = true

-- 3: "not running (kinds 2 to 6)"; 4: "START while running"
unfoldable pub not_taken : Event → ℕ
not_taken (START n) = 4
not_taken (NCE n) = 3
not_taken SHUTDOWN = 3
not_taken (ANSWER c x a ps) = 3
not_taken (NONE c x) = 3
not_taken (DELAY c) = 3

-- 6: "position 0 or ≥ N"
unfoldable pub no_position : Picture → ℕ → Bool
no_position p x = eqb x 0 || ltb (length p.rows) x

-- the event's own step, with refusals 5: "pass isn't the current one"; 6; 7: "position IGNORED"; 8: "NONE without open question;
-- ANSWER in NOTOK without one; DELAY with none running"; 9: "pass would exceed 4,294,967,295"
unfoldable pub respond : Picture → Event → Response
respond p (START n) = refuse_if (leb max_pass p.pass) 9 (change (begin [] n p))
respond p (NCE n) = refuse_if (leb max_pass p.pass) 9 (change (network_change n p))
respond p SHUTDOWN = change (shut_down p)
respond p (ANSWER c x a ps) =
    let s = seat_at p.rows x in
    refuse_if (not (eqb c p.pass)) 5
    (refuse_if (no_position p x) 6
    (refuse_if (is_ignored s.row) 7
    (refuse_if (is_not_ok p.state && not (is_open s.row)) 8 (answer (verdict (others s) s.row a) x a ps s p))))
respond p (NONE c x) =
    let s = seat_at p.rows x in
    refuse_if (not (eqb c p.pass)) 5
    (refuse_if (no_position p x) 6 (refuse_if (is_ignored s.row) 7 (refuse_if (not (is_open s.row)) 8 (change (change_rows (put s (silenced s.row)) p)))))
respond p (DELAY c) = refuse_if (not (eqb c p.pass)) 5 (refuse_if (not p.delay) 8 (change (delay_ends p)))
