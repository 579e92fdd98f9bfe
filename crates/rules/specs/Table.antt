-- Tables of what is given and what the box gives: the words that they are written in.
use Rattle.std.specs.Prelude.{ℕ, zero, suc, ◌/◌, ◌%◌, ◌^◌, List, [], ◌∷◌, map, replicate, take}
use Rattle.rules.specs.House.{min_room}
use Rattle.rules.specs.Picture.{Picture, fresh, fresh_number}
use Rattle.rules.specs.Run.{Record, Result}
use Rattle.rules.specs.Listing.{Entry, Listed, Lookup}
use Rattle.rules.specs.Telegram.{Count, Cut, Joining, Join, JoinedAll}
use Rattle.rules.specs.Evaluate.{play_from, play_picture, play_listing, play_listed, play_look_up, play_count, play_cut, play_join}

-- so many bytes of a number, the highest first: hex 8 0x4D45_01_00000000_03 is the paper's `4D45 01 00000000 03`
unfoldable pub hex : (bytes : ℕ) → ℕ → List ℕ
hex zero n = []
hex (suc k) n = n / 256 ^ k % 256 ∷ hex k n

-- a record with just enough order room
abbrev pub with_room : (bytes : ℕ) → ℕ → Record
with_room k n = record { bytes = hex k n; room = min_room }

-- a record that is taken and gives orders; one that is taken and gives none; one that is refused
abbrev pub gives : (bytes : ℕ) → ℕ → Result
gives k n = record { number = 0; length = k; bytes = hex k n }

abbrev pub no_orders : Result
no_orders = record { number = 0; length = 0; bytes = [] }

abbrev pub refusal : ℕ → Result
refusal n = record { number = n; length = 0; bytes = [] }

abbrev pub entry : (position address block number : ℕ) → Entry
entry x a b n = record { position = x; address = a; pair = record { block = b; number = n } }

-- what can be given: a size to make a picture for; records from a fresh picture for L, or from one that stands at a pass; the picture,
-- the listing, the listed positions and a look-up after them; a payload to count or cut; telegrams to join, into a buffer of so many bytes 0
pub data Given : Type 0 where
  to_make : (size : ℕ) → Given
  records : (size : ℕ) → List Record → Given
  records_from : (size pass : ℕ) → List Record → Given
  picture_after : (size : ℕ) → List Record → Given
  listing_after : (size : ℕ) → List Record → Given
  listed_after : (size : ℕ) → List Record → Given
  look_up_after : (size : ℕ) → List Record → (block number : ℕ) → Given
  to_count : (size bytes : ℕ) → Given
  to_cut : (size msg_id : ℕ) (payload : List ℕ) (k room : ℕ) → Given
  to_join : (size : ℕ) → Joining → (room : ℕ) → List (List ℕ) → Given

-- what comes of it; of a picture its number and its L, of joining the answers, the state and the buffer's first eight bytes
pub data Obtained : Type 0 where
  made : (number size : ℕ) → Obtained
  results : List Result → Obtained
  picture : Picture → Obtained
  listing : List Entry → Obtained
  listed : List Listed → Obtained
  look_up : Lookup → Obtained
  count : Count → Obtained
  telegram : Cut → Obtained
  joined : List Join → Joining → (start : List ℕ) → Obtained

abbrev pub standing_at : ℕ → Picture → Picture
standing_at pass p = record { state = p.state; pass = pass; size = p.size; delay = p.delay; rows = p.rows }

unfoldable pub joined_of : JoinedAll → Obtained
joined_of j = joined j.answers j.state (take 8 j.buffer)

unfoldable pub obtain : Given → Obtained
unfolding play_from play_picture play_listing play_listed play_look_up play_count play_cut play_join joined_of
obtain (to_make size) = made (fresh_number size) (fresh size).size
obtain (records size rs) = results (play_from (fresh size) rs)
obtain (records_from size pass rs) = results (play_from (standing_at pass (fresh size)) rs)
obtain (picture_after size rs) = picture (play_picture size rs)
obtain (listing_after size rs) = listing (play_listing size rs)
obtain (listed_after size rs) = listed (play_listed size rs)
obtain (look_up_after size rs b n) = look_up (play_look_up size rs (record { block = b; number = n }))
obtain (to_count size n) = count (play_count size (replicate n 0))
obtain (to_cut size msg_id payload k room) = telegram (play_cut size msg_id payload k room)
obtain (to_join size s room ts) = joined_of (play_join size s (replicate room 0) ts)

pub record Edge : Type 0 where
  pub given : Given
  pub expected : Obtained

abbrev pub edge : Given → Obtained → Edge
edge g o = record { given = g; expected = o }

-- the two columns of a table: it holds if they are the same
unfoldable pub obtained : List Edge → List Obtained
obtained es = map (λ (e : Edge). obtain e.given) es

unfoldable pub expected : List Edge → List Obtained
expected es = map (λ (e : Edge). e.expected) es
