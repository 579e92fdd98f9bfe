-- Order records read: what bytes say, and the orders of one event taken apart.
use Rattle.std.specs.Prelude.{ℕ, zero, suc, ◌+◌, ◌*◌, cond, ◌&&◌, ◌||◌, List, [], ◌∷◌, eqb, length, get_or, take, drop}
use Rattle.std.proofs.Math.Option.{Option, none, some}
use Rattle.rules.specs.Event.{be2, be4, read_pairs}
use Rattle.rules.specs.Order.{Order, ASK, SET, OK, NOTOK, NEW, INVALID, WAIT_SHORT, WAIT_LONG}
use Rattle.rules.specs.Run.{Sent, sent_with}

-- how many bytes an order has that begins with these, by its kind and count: "mark 4D 4F, kind (1), pass (4). Kinds: 1 ASK + position;
-- 2 SET + position, address (2), block, old, new; 3 OK; 4 NOTOK; 5 NEW and 6 INVALID + count + pairs; 7 WAIT SHORT; 8 WAIT LONG."
unfoldable pub length_by : (kind count : ℕ) → ℕ
length_by kind count = cond (eqb kind 1) 8 (cond (eqb kind 2) 13 (cond (eqb kind 5 || eqb kind 6) (8 + 2 * count) 7))

unfoldable pub order_length : List ℕ → ℕ
order_length b = length_by (get_or b 2 0) (get_or b 7 0)

-- what an order of this kind says; none: there is no such kind
unfoldable pub order_by : (kind : ℕ) → List ℕ → Option Order
order_by kind b =
    cond (eqb kind 1) (some (ASK (get_or b 7 0)))
    (cond (eqb kind 2) (some (SET (get_or b 7 0) (be2 b 8) (get_or b 10 0) (get_or b 11 0) (get_or b 12 0)))
    (cond (eqb kind 3) (some OK)
    (cond (eqb kind 4) (some NOTOK)
    (cond (eqb kind 5) (some (NEW (read_pairs (drop 8 b))))
    (cond (eqb kind 6) (some (INVALID (read_pairs (drop 8 b))))
    (cond (eqb kind 7) (some WAIT_SHORT) (cond (eqb kind 8) (some WAIT_LONG) none)))))))

unfoldable pub sent_of : (pass : ℕ) → Option Order → Option Sent
sent_of n none = none
sent_of n (some o) = some (sent_with n o)

-- None: "an order of wrong length, mark or kind is refused 2".
unfoldable pub decode_order : List ℕ → Option Sent
decode_order b =
    cond (eqb (length b) (order_length b) && eqb (get_or b 0 0) 0x4D && eqb (get_or b 1 0) 0x4F) (sent_of (be4 b 3) (order_by (get_or b 2 0) b)) none

-- the orders that a master writes one behind the other, each by itself; the first number is how many there can be at most
unfoldable pub orders_from : (most : ℕ) → List ℕ → List (List ℕ)
orders_from zero b = []
orders_from (suc most) [] = []
orders_from (suc most) (x ∷ b) = take (order_length (x ∷ b)) (x ∷ b) ∷ orders_from most (drop (order_length (x ∷ b)) (x ∷ b))

unfoldable pub orders_in : List ℕ → List (List ℕ)
orders_in b = orders_from (length b) b
