-- The ending of every event: OK, what is told of lost and new pairs, and the waits.
use Rattle.std.specs.Prelude.{ℕ, zero, suc, ◌-◌, ◌/◌, Bool, cond, not, ◌&&◌, ◌||◌, List, [], ◌∷◌, ◌++◌, map, ltb, length, take, drop}
use Rattle.laws.specs.Lists.{any, select}
use Rattle.rules.specs.House.{max_silences}
use Rattle.rules.specs.Picture.{Ok, is_not_ok, is_ok, Pair, holds, Row, Picture, with_state, with_delay, pairs_in, is_open, is_silent}
use Rattle.rules.specs.Order.{Order, OK, NEW, INVALID, WAIT_SHORT, WAIT_LONG}
use Rattle.rules.specs.Listing.{listed_pairs}
use Rattle.rules.specs.Step.{Packing, rows_separately, across_rows, Change}

-- "After every event in NOTOK: if no question is open, state OK and order OK."
unfoldable pub becomes_ok : Picture → Bool
becomes_ok p = is_not_ok p.state && not (any is_open p.rows)

unfoldable pub settled : Picture → Picture
settled p = with_state (cond (becomes_ok p) Ok p.state) p

unfoldable pub ok_order : Picture → List Order
ok_order p = cond (becomes_ok p) (OK ∷ []) []

-- the pairs of the first list that the second does not hold
unfoldable pub missing : List Pair → List Pair → List Pair
missing xs ys = select (λ (a : Pair). not (holds ys a)) xs

-- "at most (L−1)/2 rounded down per order"; the first number is how many orders there can be at most
unfoldable pub packed : (most cap : ℕ) → List Pair → List (List Pair)
packed zero cap ps = []
packed (suc most) cap [] = []
packed (suc most) cap (a ∷ rest) = take cap (a ∷ rest) ∷ packed most cap (drop cap (a ∷ rest))

unfoldable pub tell : (List Pair → Order) → (size : ℕ) → List Pair → List Order
tell order size ps = map order (packed (length ps) ((size - 1) / 2) ps)

-- "INVALID lists pairs no longer kept, NEW those newly kept"
unfoldable pub lost : (before after : Row) → List Pair
lost b a = missing (pairs_in b) (pairs_in a)

unfoldable pub gained : (before after : Row) → List Pair
gained b a = missing (pairs_in a) (pairs_in b)

-- "by position then announced order, rows separately"
unfoldable pub tell_rows : (List Pair → Order) → (Row → Row → List Pair) → ℕ → (before after : List Row) → List Order
tell_rows order pairs size [] after = []
tell_rows order pairs size (b ∷ bs) [] = []
tell_rows order pairs size (b ∷ bs) (a ∷ rest) = tell order size (pairs b a) ++ tell_rows order pairs size bs rest

-- "every pair listed so far is told INVALID, packed across rows in listing order": all rows are emptied, and nothing is newly kept
unfoldable pub told_by : Packing → (before changed : Picture) → List Order
told_by rows_separately b c = tell_rows INVALID lost c.size b.rows c.rows ++ tell_rows NEW gained c.size b.rows c.rows
told_by across_rows b c = tell INVALID c.size (listed_pairs b)

-- "If the event began in OK and never left it"
unfoldable pub told : Packing → (before changed : Picture) → List Order
told k b c = cond (is_ok b.state && is_ok c.state) (told_by k b c) []

-- "After an event that ends in OK with no open question, a SILENT row and no delay running"
unfoldable pub waits : Picture → Bool
waits p = is_ok p.state && not (any is_open p.rows) && any is_silent p.rows && not p.delay

-- "WAIT SHORT if some SILENT row counts below 20, else WAIT LONG (003); the delay runs."
unfoldable pub wait_order : Picture → List Order
wait_order p =
    cond (waits p) (cond (any (λ (r : Row). is_silent r && ltb r.silences max_silences) p.rows) WAIT_SHORT WAIT_LONG ∷ []) []

-- the ending of an event whose steps left picture q: the picture afterwards, and the orders OK and WAIT
unfoldable pub ended : Picture → Picture
ended q = let p = settled q in with_delay (p.delay || waits p) p

unfoldable pub end_orders : Picture → List Order
end_orders q = ok_order q ++ wait_order (settled q)

-- "Within one event: NOTOK, ASKs ascending, INVALID, NEW, SET, OK, WAIT."
unfoldable pub orders_of : Picture → Change → List Order
orders_of b c = (c.first ++ told c.packing b c.picture ++ c.set) ++ end_orders c.picture

-- the picture that the event leaves
unfoldable pub picture_of : Change → Picture
picture_of c = ended c.picture
