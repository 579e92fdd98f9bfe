-- The listing and the look-up.
use Rattle.std.specs.Prelude.{ℕ, suc, cond, List, [], ◌∷◌, ◌++◌, map}
use Rattle.rules.specs.Picture.{is_ok, Pair, same_pair, Kept, nothing, kept, kept_in, Row, Picture}

-- a listed entry: "Listed positions are those whose row is LISTED or SETTING; listed entries are those of the listing."
pub record Entry : Type 0 where
  pub position : ℕ
  pub address : ℕ
  pub pair : Pair

pub record Listed : Type 0 where
  pub position : ℕ
  pub address : ℕ

unfoldable pub entry : (position address : ℕ) → Pair → Entry
entry x a p = record { position = x; address = a; pair = p }

unfoldable pub entries_of : (position : ℕ) → Kept → List Entry
entries_of x nothing = []
entries_of x (kept a ps) = map (entry x a) ps

unfoldable pub listed_of : (position : ℕ) → Kept → List Listed
listed_of x nothing = []
listed_of x (kept a ps) = record { position = x; address = a } ∷ []

unfoldable pub entries_from : (position : ℕ) → List Row → List Entry
entries_from x [] = []
entries_from x (r ∷ rs) = entries_of x (kept_in r) ++ entries_from (suc x) rs

unfoldable pub listed_from : (position : ℕ) → List Row → List Listed
listed_from x [] = []
listed_from x (r ∷ rs) = listed_of x (kept_in r) ++ listed_from (suc x) rs

-- "the whole listing .., by position and announced order: the pairs kept by LISTED and SETTING rows. It can be had in every state and
-- is empty in OFF."
unfoldable pub listing : Picture → List Entry
listing p = entries_from 1 p.rows

-- the listed pairs, "in listing order"
unfoldable pub listed_pairs : Picture → List Pair
listed_pairs p = map (λ (e : Entry). e.pair) (listing p)

unfoldable pub listed_positions : Picture → List Listed
listed_positions p = listed_from 1 p.rows

-- "Look-up of (block, number) gives position and address"; 18: "state isn't OK"; 17: "not listed". A refusal gives 0 for both.
pub data Lookup : Type 0 where
  found : (position address : ℕ) → Lookup
  not_found : (number : ℕ) → Lookup

unfoldable pub first_of : Pair → List Entry → Lookup
first_of a [] = not_found 17
first_of a (e ∷ es) = let later = first_of a es in cond (same_pair a e.pair) (found e.position e.address) later

unfoldable pub look_up : Picture → Pair → Lookup
look_up p a = cond (is_ok p.state) (first_of a (listing p)) (not_found 18)

unfoldable pub lookup_number : Lookup → ℕ
lookup_number (found x a) = 0
lookup_number (not_found n) = n

unfoldable pub lookup_position : Lookup → ℕ
lookup_position (found x a) = x
lookup_position (not_found n) = 0

unfoldable pub lookup_address : Lookup → ℕ
lookup_address (found x a) = a
lookup_address (not_found n) = 0
