-- Orders as data, and their bytes.
use Rattle.std.specs.Prelude.{ℕ, List, [], ◌∷◌, ◌++◌, length}
use Rattle.laws.specs.Lists.{collect}
use Rattle.rules.specs.Picture.{Pair}
use Rattle.rules.specs.Event.{two, four, pair_bytes}

-- "Kinds: 1 ASK + position; 2 SET + position, address (2), block, old, new; 3 OK; 4 NOTOK; 5 NEW and 6 INVALID + count + pairs; 7 WAIT
-- SHORT; 8 WAIT LONG."
pub data Order : Type 0 where
  ASK : (position : ℕ) → Order
  SET : (position address block old new : ℕ) → Order
  OK NOTOK : Order
  NEW INVALID : List Pair → Order
  WAIT_SHORT WAIT_LONG : Order

-- what stands behind the pass, with the kind
unfoldable pub kind_of : Order → ℕ
kind_of (ASK x) = 1
kind_of (SET x a b o n) = 2
kind_of OK = 3
kind_of NOTOK = 4
kind_of (NEW ps) = 5
kind_of (INVALID ps) = 6
kind_of WAIT_SHORT = 7
kind_of WAIT_LONG = 8

unfoldable pub body_of : Order → List ℕ
body_of (ASK x) = x ∷ []
body_of (SET x a b o n) = x ∷ two a ++ b ∷ o ∷ n ∷ []
body_of OK = []
body_of NOTOK = []
body_of (NEW ps) = length ps ∷ collect pair_bytes ps
body_of (INVALID ps) = length ps ∷ collect pair_bytes ps
body_of WAIT_SHORT = []
body_of WAIT_LONG = []

-- "Order: mark 4D 4F, kind (1), pass (4)."
unfoldable pub encode : ℕ → Order → List ℕ
encode pass o = 0x4D ∷ 0x4F ∷ kind_of o ∷ four pass ++ body_of o

-- the orders of one event, one behind the other
unfoldable pub encode_all : ℕ → List Order → List ℕ
encode_all pass os = collect (encode pass) os
