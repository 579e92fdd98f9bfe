-- What is claimed of two lists of rows. Numbers are those of the papers.
use Rattle.std.specs.Prelude.{ℕ, ◌+◌, ◌*◌, ◌<◌, ◌≤◌, ◌≡◌, Bool, not, List, [], ◌∷◌, ◌++◌, map, ◌≢◌, eqb, length, drop}
use Rattle.laws.specs.Lists.{select, collect}
use Rattle.laws.specs.Alls.{All, Pairwise}
use Rattle.rules.specs.Picture.{Pair, same_pair, holds, Picture, fresh}
use Rattle.rules.specs.Run.{Record, after}
use Rattle.rules.specs.Listing.{Entry, entry, Listed, listing, listed_positions}
use Rattle.rules_diff.specs.Differences.{NodeRow, listed_rows, Seen, absent, present, seen_at, Line, position_gone, position_new, address_changed, pair_gone, pair_new, differences, line_bytes, lines_bytes, uncompared, differ, compare, compared_lent}

-- a row that is none of those which 2 is for: "a row with a position outside 1 to 63, more than 24 pairs or a pair twice"
pub record Good (r : NodeRow) : Type 0 where
  pub low : 1 ≤ r.position
  pub high : r.position ≤ 63
  pub few : length r.pairs ≤ 24
  pub once : Pairwise (λ (a b : Pair). a ≢ b) r.pairs

-- "rows .. in rising position order"
abbrev pub Rising : List NodeRow → Type 0
Rising rs = Pairwise (λ (r q : NodeRow). r.position < q.position) rs

-- "Refusals: 2 for a row ..; 20 ..; 21 .. given exactly if they don't fit; in this order". A line has 6 bytes.
pub record Checks (f s : List NodeRow) (room : ℕ) : Type 0 where
  pub malformed : (All Good f → All Good s → ⊥) → compare f s room ≡ uncompared 2
  pub unordered : All Good f → All Good s → (Rising f → Rising s → ⊥) → compare f s room ≡ uncompared 20
  pub no_room : All Good f → All Good s → Rising f → Rising s → room < 6 * length (differences f s) → compare f s room ≡ uncompared 21
  pub fits : All Good f → All Good s → Rising f → Rising s → 6 * length (differences f s) ≤ room → compare f s room ≡ differ (differences f s)

-- ".. and nothing is written"; else the lines stand at the start of the lent buffer, and nothing behind them changes.
pub record Writes (f s : List NodeRow) (lent : List ℕ) : Type 0 where
  pub refused : (n : ℕ) → compare f s (length lent) ≡ uncompared n → compared_lent lent (compare f s (length lent)) ≡ lent
  pub told : (ls : List Line) → compare f s (length lent) ≡ differ ls
      → compared_lent lent (compare f s (length lent)) ≡ lines_bytes ls ++ drop (6 * length ls) lent

-- "A line is kind (1 to 5, as listed), position, address (2; the second listing's, kinds 2 and 3), block, number (kinds 4 and 5), unused bytes
-- 0." The address is its high byte and its low byte.
pub record LineBytes (x : ℕ) : Type 0 where
  pub gone : line_bytes (position_gone x) ≡ 1 ∷ x ∷ 0 ∷ 0 ∷ 0 ∷ 0 ∷ []
  pub new : (high low : ℕ) → high < 256 → low < 256 → line_bytes (position_new x (256 * high + low)) ≡ 2 ∷ x ∷ high ∷ low ∷ 0 ∷ 0 ∷ []
  pub changed : (high low : ℕ) → high < 256 → low < 256 → line_bytes (address_changed x (256 * high + low)) ≡ 3 ∷ x ∷ high ∷ low ∷ 0 ∷ 0 ∷ []
  pub gone_pair : (p : Pair) → line_bytes (pair_gone x p) ≡ 4 ∷ x ∷ 0 ∷ 0 ∷ p.block ∷ p.number ∷ []
  pub new_pair : (p : Pair) → line_bytes (pair_new x p) ≡ 5 ∷ x ∷ 0 ∷ 0 ∷ p.block ∷ p.number ∷ []
  -- one line behind the other
  pub none : lines_bytes [] ≡ []
  pub more : (l : Line) (ls : List Line) → lines_bytes (l ∷ ls) ≡ line_bytes l ++ lines_bytes ls

-- At most 3,087 lines, so that 18,522 bytes are room for all differences.
pub record Most (f s : List NodeRow) : Type 0 where
  pub lines : All Good f → All Good s → length (differences f s) ≤ 3_087
  pub room : (n : ℕ) → 18_522 ≤ n → compare f s n ≢ uncompared 21

-- What a list has at a position is the row for it.
pub record Sees (rs : List NodeRow) (x : ℕ) : Type 0 where
  pub nobody : All (λ (q : NodeRow). q.position ≢ x) rs → seen_at x rs ≡ absent
  pub somebody : (front : List NodeRow) (r : NodeRow) (back : List NodeRow) → rs ≡ front ++ r ∷ back → All (λ (q : NodeRow). q.position ≢ x) front
      → r.position ≡ x → seen_at x rs ≡ present r.address r.pairs

-- the position that a line is about
unfoldable pub line_position : Line → ℕ
line_position (position_gone x) = x
line_position (position_new x a) = x
line_position (address_changed x a) = x
line_position (pair_gone x p) = x
line_position (pair_new x p) = x

unfoldable pub is_about : ℕ → Line → Bool
is_about x l = eqb x (line_position l)

-- the pairs of the first list that are not in the second
abbrev pub not_in : List Pair → List Pair → List Pair
not_in qs ps = select (λ (a : Pair). not (holds qs a)) ps

-- "the exact differences .. by position, then in this order, then as announced": the lines about each position, and no others.
pub record Tells (f s : List NodeRow) : Type 0 where
  pub ascends : Pairwise (λ (l m : Line). line_position l ≤ line_position m) (differences f s)
  pub nowhere : (x : ℕ) → seen_at x f ≡ absent → seen_at x s ≡ absent → select (is_about x) (differences f s) ≡ []
  pub gone : (x a : ℕ) (ps : List Pair) → 1 ≤ x → x ≤ 63 → seen_at x f ≡ present a ps → seen_at x s ≡ absent
      → select (is_about x) (differences f s) ≡ position_gone x ∷ []
  pub new : (x b : ℕ) (qs : List Pair) → 1 ≤ x → x ≤ 63 → seen_at x f ≡ absent → seen_at x s ≡ present b qs
      → select (is_about x) (differences f s) ≡ position_new x b ∷ map (pair_new x) qs
  pub stays : (x a : ℕ) (ps qs : List Pair) → 1 ≤ x → x ≤ 63 → seen_at x f ≡ present a ps → seen_at x s ≡ present a qs
      → select (is_about x) (differences f s) ≡ map (pair_gone x) (not_in qs ps) ++ map (pair_new x) (not_in ps qs)
  pub moves : (x a b : ℕ) (ps qs : List Pair) → 1 ≤ x → x ≤ 63 → a ≢ b → seen_at x f ≡ present a ps → seen_at x s ≡ present b qs
      → select (is_about x) (differences f s) ≡ address_changed x b ∷ map (pair_gone x) (not_in qs ps) ++ map (pair_new x) (not_in ps qs)

-- the same at a position: "the same addresses and the same sets of pairs"
abbrev pub SameAt : Seen → Seen → Type 0
SameAt absent absent = Unit {0}
SameAt absent (present b qs) = ⊥
SameAt (present a ps) absent = ⊥
SameAt (present a ps) (present b qs) = (a ≡ b) × ((p : Pair) → holds ps p ≡ holds qs p)

-- what a line makes of what stands at its position
unfoldable pub with_address : ℕ → Seen → Seen
with_address b absent = absent
with_address b (present a ps) = present b ps

unfoldable pub without_pair : Pair → Seen → Seen
without_pair p absent = absent
without_pair p (present a ps) = present a (select (λ (q : Pair). not (same_pair p q)) ps)

unfoldable pub with_pair : Pair → Seen → Seen
with_pair p absent = absent
with_pair p (present a ps) = present a (ps ++ p ∷ [])

unfoldable pub made : Line → Seen → Seen
made (position_gone x) s = absent
made (position_new x a) s = present a []
made (address_changed x a) s = with_address a s
made (pair_gone x p) s = without_pair p s
made (pair_new x p) s = with_pair p s

unfoldable pub made_all : List Line → Seen → Seen
made_all [] s = s
made_all (l ∷ ls) s = made_all ls (made l s)

-- what lines make of a list at a position: those about it, in their order
unfoldable pub applied : List Line → List NodeRow → ℕ → Seen
applied ls f x = made_all (select (is_about x) ls) (seen_at x f)

-- "No line comes out exactly if both hold the same positions, with the same addresses and the same sets of pairs. The first listing with
-- the differences applied, positions by their pairs as sets, is the second."
pub record Exact (f s : List NodeRow) (room : ℕ) : Type 0 where
  pub same : compare f s room ≡ differ [] → (x : ℕ) → SameAt (seen_at x f) (seen_at x s)
  pub none : All Good f → All Good s → Rising f → Rising s → ((x : ℕ) → SameAt (seen_at x f) (seen_at x s)) → compare f s room ≡ differ []
  pub applies : (ls : List Line) → compare f s room ≡ differ ls → (x : ℕ) → SameAt (applied ls f x) (seen_at x s)

-- The rows that a picture hands out are its listing: the listed positions, and the entries of the listing.
unfoldable pub listed_as : NodeRow → Listed
listed_as r = record { position = r.position; address = r.address }

unfoldable pub entries_as : NodeRow → List Entry
entries_as r = map (entry r.position r.address) r.pairs

pub record WholeRows (p : Picture) : Type 0 where
  pub positions : map listed_as (listed_rows p) ≡ listed_positions p
  pub entries : collect entries_as (listed_rows p) ≡ listing p

-- "A listing of the ring picture": of any two pictures, each after a list of records from a fresh one, the rows are never refused 2 or 20.
pub record Listings (l m : ℕ) (rs qs : List Record) (room : ℕ) : Type 0 where
  pub good : All Good (listed_rows (after (fresh l) rs))
  pub rising : Rising (listed_rows (after (fresh l) rs))
  pub compared : (n : ℕ) → compare (listed_rows (after (fresh l) rs)) (listed_rows (after (fresh m) qs)) room ≡ uncompared n → n ≡ 21
