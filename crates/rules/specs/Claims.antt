-- What the rules promise, as types that quote the demands; proofs/ has a proof of each.
use Rattle.std.specs.Prelude.{ℕ, suc, ◌+◌, ◌-◌, ◌*◌, ◌/◌, ◌<◌, ◌≤◌, ◌≡◌, Bool, true, false, cond, not, ◌&&◌, ◌||◌, List, [], ◌∷◌, ◌++◌, map, ◌≢◌, eqb, length, get_or, take, drop, replicate}
use Rattle.std.proofs.Math.Option.{Option, none, some}
use Rattle.rules.specs.Picture.{State, Off, NotOk, Ok, is_ok, nodes_in, Status, WAITING, SILENT, is_silent_status, Row, Pair, Picture, holds, pairs_in, keeps, bars, row_at, open_at, fresh, fresh_number, seat_at, others}
use Rattle.rules.specs.Event.{Event, START, NCE, SHUTDOWN, ANSWER, NONE, DELAY, decode, encode_event}
use Rattle.rules.specs.House.{min_number, max_number}
use Rattle.rules.specs.Renumber.{is_in, free_number}
use Rattle.rules.specs.Step.{takes}
use Rattle.rules.specs.Order.{encode_all, Order, ASK, SET, OK, NOTOK, NEW, INVALID, WAIT_SHORT, WAIT_LONG, encode}
use Rattle.rules.specs.Run.{Outcome, refused, taken, Record, offered, next, after, history, Sent, sent_by, written, lent, result_of}
use Rattle.rules.specs.Telegram.{uncounted, count_number, count_value, uncut, cut_number, cut_bytes, cut_length, unjoined, join_number, join_msg_id, join_length}
use Rattle.rules.specs.Telegram.{telegram_of, telegrams, count_of, count, count_is, cut, cut_to, Joining, idle, still_open, complete, join, join_all}
use Rattle.laws.specs.Lists.{select, collect, up_from}
use Rattle.laws.specs.Alls.{All, Pairwise}
use Rattle.rules.specs.Listing.{Entry, listing, listed_positions, look_up, found, not_found, lookup_number, lookup_position, lookup_address}

-- the event that a record is taken as; none where it is refused
unfoldable pub if_taken : Outcome → Option Event → Option Event
if_taken (refused n) e = none
if_taken (taken q os) e = e

unfoldable pub accepted : Picture → Record → Option Event
accepted p r = if_taken (offered p r) (decode r.bytes)

-- an answer or a silence
unfoldable pub is_reply : Event → Bool
is_reply (START n) = false
is_reply (NCE n) = false
is_reply SHUTDOWN = false
is_reply (ANSWER c x a ps) = true
is_reply (NONE c x) = true
is_reply (DELAY c) = false

unfoldable pub count_reply : Option Event → ℕ
count_reply none = 0
count_reply (some e) = cond (is_reply e) 1 0

-- how many answers and silences of a list are taken
unfoldable pub replies_in : Picture → List Record → ℕ
replies_in p [] = 0
replies_in p (r ∷ rs) = count_reply (accepted p r) + replies_in (next p r) rs

-- "An open question is of the pass that its last ASK or SET carried": the pass of the last of these orders for position x, if there is one
unfoldable pub is_for : ℕ → Order → Bool
is_for x (ASK y) = eqb x y
is_for x (SET y a b o n) = eqb x y
is_for x OK = false
is_for x NOTOK = false
is_for x (NEW ps) = false
is_for x (INVALID ps) = false
is_for x WAIT_SHORT = false
is_for x WAIT_LONG = false

unfoldable pub later : Option ℕ → Option ℕ → Option ℕ
later none m = m
later (some n) m = some n

unfoldable pub question_pass : List Sent → ℕ → Option ℕ
question_pass [] x = none
question_pass (s ∷ ss) x = later (question_pass ss x) (cond (is_for x s.order) (some s.pass) none)

-- a list of records from a fresh picture for L: the picture, and the orders given out, after the first k of them
unfoldable pub picture_at : ℕ → List Record → ℕ → Picture
picture_at l rs k = after (fresh l) (take k rs)

unfoldable pub sent_at : ℕ → List Record → ℕ → List Sent
sent_at l rs k = history (fresh l) (take k rs)

unfoldable pub record_at : List Record → ℕ → Record
record_at rs k = get_or rs k (record { bytes = []; room = 0 })

-- the answers and silences taken among the records from number i on that come before number m
unfoldable pub replies_between : ℕ → List Record → (i m : ℕ) → ℕ
replies_between l rs i m = replies_in (picture_at l rs i) (take (m - i) (drop i rs))

-- "no two listed positions share an address, and no two listed entries share block and instance number"
unfoldable pub address_at : Picture → ℕ → ℕ
address_at p i = (get_or (listed_positions p) i (record { position = 0; address = 0 })).address

unfoldable pub pair_at : Picture → ℕ → Pair
pair_at p i = (get_or (listing p) i (record { position = 0; address = 0; pair = record { block = 0; number = 0 } })).pair

pub record Distinct (p : Picture) : Type 0 where
  pub addresses : (i j : ℕ) → i < j → j < length (listed_positions p) → address_at p i ≢ address_at p j
  pub pairs : (i j : ℕ) → i < j → j < length (listing p) → pair_at p i ≢ pair_at p j

-- the bytes of an event: eight, each below 256, and they decode to it
pub record Exists8 (e : Event) : Type 0 where
  pub decodes : decode (encode_event e) ≡ some e
  pub eight : length (encode_event e) ≡ 8
  pub bytes : All (λ (b : ℕ). b < 256) (encode_event e)

-- the state on the way to OK with no question open: NOTOK; but after an NCE in OK it is OK until a restart opens another pass
unfoldable pub way_state : (from_ok same_pass : Bool) → State
way_state from_ok same_pass = cond (from_ok && same_pass) Ok NotOk

-- "some question of the current pass is open, and a well-formed silence for any open one, with 8,192 bytes of order room, is taken":
-- every open question is of the current pass, and such a silence exists as 8 bytes. The START or NCE came in OK or not, and opened
-- pass n.
pub record Awaits (from_ok : Bool) (n : ℕ) (p : Picture) (sent : List Sent) : Type 0 where
  pub state : p.state ≡ way_state from_ok (eqb p.pass n)
  pub some_open : (x : ℕ) × (open_at p x ≡ true)
  pub current : (x : ℕ) → open_at p x ≡ true → question_pass sent x ≡ some p.pass
  pub silence : (x : ℕ) → open_at p x ≡ true → (r : Record) → decode r.bytes ≡ some (NONE p.pass x) → 8_192 ≤ r.room
      → accepted p r ≡ some (NONE p.pass x)
  pub writable : (x : ℕ) → open_at p x ≡ true → Exists8 (NONE p.pass x)

-- "any accepted START or NCE in the list, naming N positions (1 to 64)"
abbrev pub Names : Option Event → ℕ → Type 0
Names none n = ⊥
Names (some (START m)) n = m ≡ n
Names (some (NCE m)) n = m ≡ n
Names (some SHUTDOWN) n = ⊥
Names (some (ANSWER c x a ps)) n = ⊥
Names (some (NONE c x)) n = ⊥
Names (some (DELAY c)) n = ⊥

-- "let only answers and silences be taken, each for a position whose question is open; refused records of any sort may stand between"
abbrev pub Allowed : Picture → Option Event → Type 0
Allowed p none = Unit {0}
Allowed p (some (START m)) = ⊥
Allowed p (some (NCE m)) = ⊥
Allowed p (some SHUTDOWN) = ⊥
Allowed p (some (ANSWER c x a ps)) = open_at p x ≡ true
Allowed p (some (NONE c x)) = open_at p x ≡ true
Allowed p (some (DELAY c)) = ⊥

-- "at most 73 × (N−1) × (2N−1)"
unfoldable pub bound : ℕ → ℕ
bound n = 73 * (n - 1) * (2 * n - 1)

-- "the state is OK with no question open". Where it was NOTOK before, this is when OK comes.
pub record Arrived (p : Picture) : Type 0 where
  pub ok : p.state ≡ Ok
  pub closed : (x : ℕ) → open_at p x ≡ false

-- "OK comes after at most 73 × (N−1) × (2N−1) of them, unless the list holds fewer. From it until then, after each record", the ring
-- awaits an answer or a silence; "for an NCE in OK: after at most the same number of replies to open questions the state is OK with no
-- question open." The START or NCE is the record in front of place i; the list is looked at up to place e, its end or an earlier one.
pub data Reaches (l : ℕ) (rs : List Record) (from_ok : Bool) (i e n : ℕ) : Type 0 where
  arrives : (m : ℕ) → i ≤ m → m ≤ e → Arrived (picture_at l rs m) → replies_between l rs i m ≤ bound n
      → ((j : ℕ) → i ≤ j → j < m → Awaits from_ok (picture_at l rs i).pass (picture_at l rs j) (sent_at l rs j)) → Reaches l rs from_ok i e n
  holds_fewer : replies_between l rs i e < bound n
      → ((j : ℕ) → i ≤ j → j ≤ e → Awaits from_ok (picture_at l rs i).pass (picture_at l rs j) (sent_at l rs j)) → Reaches l rs from_ok i e n

-- Demand 3, of a whole list of records and any L, for START, NCE in NOTOK and NCE in OK. "After it let only answers and silences be
-- taken" is asked of the records up to place e, so that whatever comes later takes nothing from any START or NCE of the list; e may be
-- the list's end.
pub record Demand3 (l : ℕ) (rs : List Record) : Type 0 where
  pub distinct : (k : ℕ) → k ≤ length rs → Distinct (picture_at l rs k)
  pub reaches : (i e n : ℕ) → i < e → e ≤ length rs → Names (accepted (picture_at l rs i) (record_at rs i)) n
      → ((j : ℕ) → i < j → j < e → Allowed (picture_at l rs j) (accepted (picture_at l rs j) (record_at rs j)))
      → (1 ≤ n) × (n ≤ 64) × Reaches l rs (is_ok (picture_at l rs i).state) (suc i) e n

-- "It can be had in every state and is empty in OFF."
pub record EmptyInOff (l : ℕ) (rs : List Record) : Type 0 where
  pub empty : (k : ℕ) → k ≤ length rs → (picture_at l rs k).state ≡ Off → listing (picture_at l rs k) ≡ []

-- "the whole listing .., by position and announced order: the pairs kept by LISTED and SETTING rows": the pairs of each position are
-- those that its row keeps, in their order, each with the address that the row keeps, and the positions ascend. No entry is cut off.
unfoldable pub stands_at : ℕ → Entry → Bool
stands_at x e = eqb x e.position

pub record WholeListing (p : Picture) : Type 0 where
  pub pairs : (x : ℕ) → map (λ (e : Entry). e.pair) (select (stands_at x) (listing p)) ≡ pairs_in (row_at p.rows x)
  pub addresses : All (λ (e : Entry). keeps e.address (row_at p.rows e.position) ≡ true) (listing p)
  pub ascends : Pairwise (λ (d e : Entry). d.position ≤ e.position) (listing p)

-- The events that have bytes: "N is 1 to 64", a pass of four bytes and an address of two, "up to 24 pairs", and no "block 00, 01 or
-- FF". Decoding the bytes of such an event gives the event.
abbrev pub Writable : Event → Type 0
Writable (START n) = (1 ≤ n) × (n ≤ 64)
Writable (NCE n) = (1 ≤ n) × (n ≤ 64)
Writable SHUTDOWN = Unit {0}
Writable (ANSWER c x a ps) = (c ≤ 4_294_967_295) × (a < 65_536) × (length ps ≤ 24) × All (λ (p : Pair). (0x02 ≤ p.block) × (p.block ≤ 0xFE)) ps
Writable (NONE c x) = c ≤ 4_294_967_295
Writable (DELAY c) = c ≤ 4_294_967_295

pub record Decodes (e : Event) : Type 0 where
  pub decodes : Writable e → decode (encode_event e) ≡ some e

-- And backwards: bytes that decode to an event are the bytes of that event. So a record is malformed, number 2, exactly where it is
-- the bytes of no such event.
pub record DecodesOnly (b : List ℕ) : Type 0 where
  pub only : All (λ (x : ℕ). x < 256) b → (e : Event) → decode b ≡ some e → (b ≡ encode_event e) × Writable e

-- After every record of every list: "pass would exceed 4,294,967,295" never happens, and the sizes are the paper's.
pub record Bounds (l : ℕ) (rs : List Record) : Type 0 where
  pub pass : (k : ℕ) → k ≤ length rs → (picture_at l rs k).pass ≤ 4_294_967_295
  pub rows : (k : ℕ) → k ≤ length rs → length (picture_at l rs k).rows ≤ 63
  pub pairs : (k x : ℕ) → k ≤ length rs → length (pairs_in (row_at (picture_at l rs k).rows x)) ≤ 24
  pub entries : (k : ℕ) → k ≤ length rs → length (listing (picture_at l rs k)) ≤ 1_512

-- No record of any list writes more than 5,952 bytes of orders, so that 8,192 bytes of order room do: they stand at the start of the
-- lent buffer. "Lent bytes beyond what was written never change."
pub record Fits (l : ℕ) (rs : List Record) : Type 0 where
  pub fits : (k : ℕ) → k < length rs → length (written (offered (picture_at l rs k) (record_at rs k))) ≤ 5_952
  pub beyond : (k : ℕ) → k < length rs → (buffer : List ℕ) → 8_192 ≤ length buffer
      → lent buffer (offered (picture_at l rs k) (record_at rs k))
      ≡ written (offered (picture_at l rs k) (record_at rs k)) ++ drop (length (written (offered (picture_at l rs k) (record_at rs k)))) buffer

-- Demand 1: "A refusal leaves the ring picture and every lent byte as they stood."
pub record Refusal (p : Picture) (r : Record) : Type 0 where
  pub unchanged : (n : ℕ) → offered p r ≡ refused n
      → (next p r ≡ p) × (sent_by (offered p r) ≡ []) × ((buffer : List ℕ) → lent buffer (offered p r) ≡ buffer)

-- "Orders carry the pass after the event."
pub record Carried (p : Picture) (r : Record) : Type 0 where
  pub pass : All (λ (s : Sent). s.pass ≡ (next p r).pass) (sent_by (offered p r))
  pub bytes : written (offered p r) ≡ collect (λ (s : Sent). encode s.pass s.order) (sent_by (offered p r))

-- Pairs told in orders of at most `most`: no order is empty, and all but the last are full.
pub data Full (most : ℕ) : List (List Pair) → Type 0 where
  no_order_lem : Full most []
  last_order : {ps : List Pair} → 1 ≤ length ps → length ps ≤ most → Full most (ps ∷ [])
  full_order : {ps : List Pair} {rest : List (List Pair)} → 1 ≤ length ps → length ps ≡ most → Full most rest → Full most (ps ∷ rest)

-- a row that is asked and counts nothing yet, and the picture that a START or NCE naming N positions leaves
abbrev pub waiting_row : Row
waiting_row = record { status = WAITING; bad = 0; silences = 0 }

abbrev pub begun : State → ℕ → Picture → Picture
begun s n p = record { state = s; pass = suc p.pass; size = p.size; delay = false; rows = replicate (n - 1) waiting_row }

-- START: "N set, counters zero, all rows WAITING, ASK each, state NOTOK, pass +1." NCE in NOTOK: "the same, with the order NOTOK first".
-- Where there is nobody to be asked OK comes at once.
pub record Begins (first : List Order) (n : ℕ) (p : Picture) (o : Outcome) : Type 0 where
  pub alone : n ≡ 1 → o ≡ taken (begun Ok n p) (first ++ OK ∷ [])
  pub others : 2 ≤ n → o ≡ taken (begun NotOk n p) (first ++ map ASK (up_from 1 (n - 1)))

-- Ticket 1: "an NCE in OK keeps OK and sends no NOTOK: every pair listed so far is told INVALID, packed across rows in listing order,
-- rows are emptied and asked .. Pass and counters move as before, and a running delay ends." It is taken, with an ASK for each of the
-- positions 1 to N−1 and then INVALIDs alone. These hold the pairs of the listing, one behind the other, (L−1)/2 in an order.
pub record KeepsOk (n : ℕ) (p : Picture) (o : Outcome) : Type 0 where
  pub told : List (List Pair)
  pub outcome : o ≡ taken (begun Ok n p) (map ASK (up_from 1 (n - 1)) ++ map INVALID told)
  pub in_listing_order : collect (λ (ps : List Pair). ps) told ≡ map (λ (e : Entry). e.pair) (listing p)
  pub packed : Full ((p.size - 1) / 2) told

-- Every START in OFF and every NCE, with room and a pass left, order for order: of a picture that some list of records leaves.
pub record RingChange (p : Picture) (r : Record) : Type 0 where
  pub starts : (n : ℕ) → p.state ≡ Off → decode r.bytes ≡ some (START n) → 8_192 ≤ r.room → p.pass < 4_294_967_295
      → Begins [] n p (offered p r)
  pub in_not_ok : (n : ℕ) → p.state ≡ NotOk → decode r.bytes ≡ some (NCE n) → 8_192 ≤ r.room → p.pass < 4_294_967_295
      → Begins (NOTOK ∷ []) n p (offered p r)
  pub in_ok : (n : ℕ) → p.state ≡ Ok → decode r.bytes ≡ some (NCE n) → 8_192 ≤ r.room → p.pass < 4_294_967_295
      → KeepsOk n p (offered p r)

-- a record of the kinds 4 to 6 that carries another pass than this one
abbrev pub OfAnotherPass : Event → ℕ → Type 0
OfAnotherPass (START n) m = ⊥
OfAnotherPass (NCE n) m = ⊥
OfAnotherPass SHUTDOWN m = ⊥
OfAnotherPass (ANSWER c x a ps) m = c ≢ m
OfAnotherPass (NONE c x) m = c ≢ m
OfAnotherPass (DELAY c) m = c ≢ m

-- "Records are checked in the order 1 to 9": whatever the picture is, 1 and 2 are looked at first; and 5 for what the state takes.
pub record Checks (p : Picture) (r : Record) : Type 0 where
  pub room : r.room < 8_192 → offered p r ≡ refused 1
  pub malformed : 8_192 ≤ r.room → decode r.bytes ≡ none → offered p r ≡ refused 2
  pub another_pass : 8_192 ≤ r.room → (e : Event) → decode r.bytes ≡ some e → takes p.state e ≡ true → OfAnotherPass e p.pass
      → offered p r ≡ refused 5

-- a number that is used with a block: a pair of the other rows has it, or one of this answer
abbrev pub is_used : (elsewhere announced : List Pair) → (block number : ℕ) → Bool
is_used elsewhere announced b n = holds elsewhere (record { block = b; number = n }) || holds announced (record { block = b; number = n })

-- "Free number: the least of 01 to FE that no other row keeps for that block and that stands with that block nowhere in this answer."
pub record FreeNumber (elsewhere announced : List Pair) (b : ℕ) : Type 0 where
  pub least : (n : ℕ) → free_number elsewhere announced b ≡ some n
      → (0x01 ≤ n) × (n ≤ 0xFE) × (is_used elsewhere announced b n ≡ false) × ((m : ℕ) → 0x01 ≤ m → m < n → is_used elsewhere announced b m ≡ true)
  pub none_left : free_number elsewhere announced b ≡ none → (m : ℕ) → 0x01 ≤ m → m ≤ 0xFE → is_used elsewhere announced b m ≡ true
  pub all_used : ((m : ℕ) → 0x01 ≤ m → m ≤ 0xFE → is_used elsewhere announced b m ≡ true) → free_number elsewhere announced b ≡ none

-- A SET answers the announcement at hand: it goes to the position and the address that announced in this record and this pass, names
-- one of the announced pairs, and offers a number from 01 to FE that stands nowhere in the announcement and that no row keeps: the
-- least one, with every smaller number in the announcement or kept by a row of another position.
pub record SetAimed (e : Option Event) (q : Picture) (position address block old new : ℕ) : Type 0 where
  pub announced : List Pair
  pub answers : e ≡ some (ANSWER q.pass position address announced)
  pub kept : keeps address (row_at q.rows position) ≡ true
  pub named : holds announced (record { block = block; number = old }) ≡ true
  pub low : min_number ≤ new
  pub high : new ≤ max_number
  pub unannounced : holds announced (record { block = block; number = new }) ≡ false
  pub unlisted : (x : ℕ) → holds (pairs_in (row_at q.rows x)) (record { block = block; number = new }) ≡ false
  pub least : (m : ℕ) → min_number ≤ m → m < new → is_used (collect pairs_in (others (seat_at q.rows position))) announced block m ≡ true

abbrev pub Aimed : Option Event → Picture → Order → Type 0
Aimed e q (ASK x) = Unit {0}
Aimed e q (SET x a b o n) = SetAimed e q x a b o n
Aimed e q OK = Unit {0}
Aimed e q NOTOK = Unit {0}
Aimed e q (NEW ps) = Unit {0}
Aimed e q (INVALID ps) = Unit {0}
Aimed e q WAIT_SHORT = Unit {0}
Aimed e q WAIT_LONG = Unit {0}

pub record SetsAimed (p : Picture) (r : Record) : Type 0 where
  pub aimed : All (λ (s : Sent). Aimed (accepted p r) (next p r) s.order) (sent_by (offered p r))

-- After every record of every list no listed position has an address that an IGNORED row bars: of two units with one address neither
-- stays listed once one of them is IGNORED for it.
pub record Unbarred (l : ℕ) (rs : List Record) : Type 0 where
  pub unbarred : (k x y a : ℕ) → k ≤ length rs → bars a (row_at (picture_at l rs k).rows x) ≡ true → keeps a (row_at (picture_at l rs k).rows y) ≡ false

-- Demand 2: "A message of up to 65,535 bytes, cut and then joined, comes back the same": open until the last telegram, then the MsgID, the
-- length and the payload at the buffer's start, from any join state and with any bytes behind it
pub record RoundTrip (size msg_id : ℕ) (payload : List ℕ) (s : Joining) (lent : List ℕ) : Type 0 where
  pub answers : (join_all size s lent (telegrams size msg_id payload)).answers
      ≡ replicate (count_of size (length payload) - 1) still_open ++ complete msg_id (length payload) ∷ []
  pub state : (join_all size s lent (telegrams size msg_id payload)).state ≡ idle
  pub buffer : (join_all size s lent (telegrams size msg_id payload)).buffer ≡ payload ++ drop (length payload) lent

-- the telegrams 1 to the count are what cutting gives, wherever the lent room holds them
pub record Cuts (size msg_id : ℕ) (payload : List ℕ) : Type 0 where
  pub counted : count size payload ≡ count_is (count_of size (length payload))
  pub cuts : (k room : ℕ) → 1 ≤ k → k ≤ count_of size (length payload) → length (telegram_of size msg_id payload k) ≤ room
      → cut size msg_id payload k room ≡ cut_to (telegram_of size msg_id payload k)

-- "Payload up to L: one telegram, TelID 0. More: .. each a counter byte .. and L−1 payload bytes, the last 1 to L−1."
pub record Lengths (size msg_id : ℕ) (payload : List ℕ) : Type 0 where
  pub one : length payload ≤ size
      → (count_of size (length payload) ≡ 1) × (length (telegram_of size msg_id payload 1) ≡ 6 + length payload)
  pub several : size < length payload → (k : ℕ) → 1 ≤ k → k < count_of size (length payload)
      → length (telegram_of size msg_id payload k) ≡ 6 + size
  pub last : size < length payload
      → (length (telegram_of size msg_id payload (count_of size (length payload))) ≡ 7 + (length payload - (count_of size (length payload) - 1) * (size - 1)))
      × (1 ≤ length payload - (count_of size (length payload) - 1) * (size - 1))
      × (length payload - (count_of size (length payload) - 1) * (size - 1) ≤ size - 1)

-- "Beside its number a refusal gives 0 for each length, position and address"; what is given gives number 0 and its own values. N is 0
-- in OFF. No row but a SILENT one is waited for.
pub record Values : Type 0 where
  pub refused_record : (n : ℕ) → result_of (refused n) ≡ record { number = n; length = 0; bytes = [] }
  pub taken_record : (q : Picture) (os : List Order) → ((result_of (taken q os)).number ≡ 0) × ((result_of (taken q os)).length ≡ length (encode_all q.pass os))
  pub not_found_entry : (n : ℕ) → (lookup_number (not_found n) ≡ n) × (lookup_position (not_found n) ≡ 0) × (lookup_address (not_found n) ≡ 0)
  pub found_entry : (x a : ℕ) → (lookup_number (found x a) ≡ 0) × (lookup_position (found x a) ≡ x) × (lookup_address (found x a) ≡ a)
  pub not_counted : (n : ℕ) → (count_number (uncounted n) ≡ n) × (count_value (uncounted n) ≡ 0)
  pub counted : (k : ℕ) → (count_number (count_is k) ≡ 0) × (count_value (count_is k) ≡ k)
  pub not_cut : (n : ℕ) → (cut_number (uncut n) ≡ n) × (cut_length (uncut n) ≡ 0) × (cut_bytes (uncut n) ≡ [])
  pub cut_telegram : (t : List ℕ) → (cut_number (cut_to t) ≡ 0) × (cut_length (cut_to t) ≡ length t) × (cut_bytes (cut_to t) ≡ t)
  pub not_joined : (n : ℕ) → (join_number (unjoined n) ≡ n) × (join_msg_id (unjoined n) ≡ 0) × (join_length (unjoined n) ≡ 0)
  pub not_yet_joined : (join_number still_open ≡ 0) × (join_msg_id still_open ≡ 0) × (join_length still_open ≡ 0)
  pub joined_message : (m n : ℕ) → (join_number (complete m n) ≡ 0) × (join_msg_id (complete m n) ≡ m) × (join_length (complete m n) ≡ n)
  pub nodes_off : (rows : List Row) → nodes_in Off rows ≡ 0
  pub nodes_not_ok : (rows : List Row) → nodes_in NotOk rows ≡ suc (length rows)
  pub nodes_ok : (rows : List Row) → nodes_in Ok rows ≡ suc (length rows)
  pub silent_alone : (s : Status) → is_silent_status s ≡ true → s ≡ SILENT

-- "A small table fixes which record kinds are taken in which ring state: OFF takes START; NOTOK and OK take all others". The kind is
-- the third byte of a record, and START is kind 1.
abbrev pub kind_byte : Event → ℕ
kind_byte e = get_or (encode_event e) 2 0

pub record StatesByKinds (e : Event) : Type 0 where
  pub off : takes Off e ≡ eqb (kind_byte e) 1
  pub not_ok : takes NotOk e ≡ not (eqb (kind_byte e) 1)
  pub ok : takes Ok e ≡ not (eqb (kind_byte e) 1)

-- The numbers by what is asked for: a record, a picture, a count, cutting, joining and a look-up.
abbrev pub record_numbers : List ℕ
record_numbers = 1 ∷ 2 ∷ 3 ∷ 4 ∷ 5 ∷ 6 ∷ 7 ∷ 8 ∷ 9 ∷ []

abbrev pub fresh_numbers : List ℕ
fresh_numbers = 10 ∷ []

abbrev pub count_numbers : List ℕ
count_numbers = 10 ∷ 11 ∷ []

abbrev pub cut_numbers : List ℕ
cut_numbers = 10 ∷ 11 ∷ 12 ∷ 13 ∷ []

abbrev pub join_numbers : List ℕ
join_numbers = 10 ∷ 13 ∷ 14 ∷ 15 ∷ 16 ∷ []

abbrev pub look_up_numbers : List ℕ
look_up_numbers = 17 ∷ 18 ∷ []

-- Each call gives only its own numbers, and gives each of them: records and look-ups after some list of records from the fresh picture
-- for any L.
pub record Numbers : Type 0 where
  pub of_record : (p : Picture) (r : Record) (n : ℕ) → offered p r ≡ refused n → is_in record_numbers n ≡ true
  pub of_fresh : (l : ℕ) → fresh_number l ≢ 0 → is_in fresh_numbers (fresh_number l) ≡ true
  pub of_count : (size : ℕ) (payload : List ℕ) (n : ℕ) → count size payload ≡ uncounted n → is_in count_numbers n ≡ true
  pub of_cut : (size msg_id : ℕ) (payload : List ℕ) (k room n : ℕ) → cut size msg_id payload k room ≡ uncut n → is_in cut_numbers n ≡ true
  pub of_join : (size : ℕ) (s : Joining) (buffer telegram : List ℕ) (n : ℕ) → (join size s buffer telegram).answer ≡ unjoined n → is_in join_numbers n ≡ true
  pub of_look_up : (p : Picture) (a : Pair) (n : ℕ) → look_up p a ≡ not_found n → is_in look_up_numbers n ≡ true
  pub record_gives : (l : ℕ) → All (λ (n : ℕ). (rs : List Record) × (r : Record) × (offered (after (fresh l) rs) r ≡ refused n)) record_numbers
  pub fresh_gives : All (λ (n : ℕ). (l : ℕ) × (fresh_number l ≡ n)) fresh_numbers
  pub count_gives : All (λ (n : ℕ). (size : ℕ) × (payload : List ℕ) × (count size payload ≡ uncounted n)) count_numbers
  pub cut_gives : All (λ (n : ℕ). (size msg_id : ℕ) × (payload : List ℕ) × (k room : ℕ) × (cut size msg_id payload k room ≡ uncut n)) cut_numbers
  pub join_gives : All (λ (n : ℕ). (size : ℕ) × (s : Joining) × (buffer telegram : List ℕ) × ((join size s buffer telegram).answer ≡ unjoined n)) join_numbers
  pub look_up_gives : (l : ℕ) → All (λ (n : ℕ). (rs : List Record) × (a : Pair) × (look_up (after (fresh l) rs) a ≡ not_found n)) look_up_numbers
