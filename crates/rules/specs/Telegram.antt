-- Telegrams: a message cut into them, and joined again.
use Rattle.std.specs.Prelude.{ℕ, ◌+◌, ◌-◌, ◌*◌, ◌/◌, ◌%◌, Bool, cond, not, ◌&&◌, ◌||◌, List, [], ◌∷◌, ◌++◌, map, eqb, leb, ltb, length, get_or, take, drop}
use Rattle.std.proofs.lemmas.List.Edits.{sets}
use Rattle.laws.specs.Lists.{up_from}
use Rattle.rules.specs.House.{max_payload}
use Rattle.rules.specs.Picture.{legal_size}
use Rattle.rules.specs.Event.{be4, four}

-- "TelID stands in the high four bits and TelLen in the low twelve"
unfoldable pub head_bytes : (tel_id tel_len : ℕ) → List ℕ
head_bytes id len = (id * 16 + len / 256) ∷ len % 256 ∷ []

unfoldable pub tel_id_of : List ℕ → ℕ
tel_id_of t = get_or t 4 0 / 16

unfoldable pub tel_len_of : List ℕ → ℕ
tel_len_of t = get_or t 4 0 % 16 * 256 + get_or t 5 0

-- "MsgID (4), two bytes .., then TelLen bytes"
unfoldable pub telegram : (msg_id tel_id : ℕ) → List ℕ → List ℕ
telegram msg_id id body = four msg_id ++ head_bytes id (length body) ++ body

-- "Payload up to L: one telegram, TelID 0. More: .. each a counter byte .. and L−1 payload bytes, the last 1 to L−1."
unfoldable pub count_of : (size bytes : ℕ) → ℕ
count_of size n = cond (leb n size) 1 ((n + (size - 2)) / (size - 1))

-- the TelID of telegram number k of several: "TelID 1, 2 .. 2, 3"
unfoldable pub tel_id_for : (count k : ℕ) → ℕ
tel_id_for count k = cond (eqb k 1) 1 (cond (eqb k count) 3 2)

-- the payload bytes of telegram number j + 1 of several
unfoldable pub part_of : (size : ℕ) → List ℕ → ℕ → List ℕ
part_of size payload j = take (size - 1) (drop (j * (size - 1)) payload)

-- telegram number k of a message: "a counter byte (0, 1, .. modulo 256)"
unfoldable pub telegram_of : (size msg_id : ℕ) → List ℕ → (k : ℕ) → List ℕ
telegram_of size msg_id payload k =
    cond (leb (length payload) size) (telegram msg_id 0 payload)
    (telegram msg_id (tel_id_for (count_of size (length payload)) k) ((k - 1) % 256 ∷ part_of size payload (k - 1)))

-- how many telegrams: 10: "L outside 12 to 45"; 11: "payload above 65,535"
pub data Count : Type 0 where
  uncounted : (number : ℕ) → Count
  count_is : ℕ → Count

unfoldable pub count : (size : ℕ) → List ℕ → Count
count size payload =
    cond (not (legal_size size)) (uncounted 10) (cond (ltb max_payload (length payload)) (uncounted 11) (count_is (count_of size (length payload))))

-- "cutting 10, 11, 12, 13"; 12: "telegram number outside 1 to the count"; 13: "lent room shorter than the telegram"
pub data Cut : Type 0 where
  uncut : (number : ℕ) → Cut
  cut_to : (bytes : List ℕ) → Cut

unfoldable pub cut : (size msg_id : ℕ) → List ℕ → (k room : ℕ) → Cut
cut size msg_id payload k room =
    cond (not (legal_size size)) (uncut 10)
    (cond (ltb max_payload (length payload)) (uncut 11)
    (cond (eqb k 0 || ltb (count_of size (length payload)) k) (uncut 12)
    (cond (ltb room (length (telegram_of size msg_id payload k))) (uncut 13) (cut_to (telegram_of size msg_id payload k)))))

-- the telegrams 1 to the count
unfoldable pub telegrams : (size msg_id : ℕ) → List ℕ → List (List ℕ)
telegrams size msg_id payload = map (telegram_of size msg_id payload) (up_from 1 (count_of size (length payload)))

-- what the joiner remembers: no message open, or one with its MsgID, the counter that comes next and its length so far
pub data Joining : Type 0 where
  idle : Joining
  opened : (msg_id counter length : ℕ) → Joining

-- what a telegram gives: more is to come, or the message, or a refusal
pub data Join : Type 0 where
  unjoined : (number : ℕ) → Join
  still_open : Join
  complete : (msg_id length : ℕ) → Join

pub record Joined : Type 0 where
  pub answer : Join
  pub state : Joining
  pub buffer : List ℕ

-- 10, 13, 14 and 15 change nothing
unfoldable pub unchanged : ℕ → Joining → List ℕ → Joined
unchanged n s b = record { answer = unjoined n; state = s; buffer = b }

-- 16: "an open message is dropped", "buffer unchanged"
unfoldable pub dropped : List ℕ → Joined
dropped b = record { answer = unjoined 16; state = idle; buffer = b }

-- "TelID 1 begins": its counter is 0
unfoldable pub begins : (msg_id counter : ℕ) → List ℕ → List ℕ → Joined
begins msg_id counter part b =
    cond (eqb counter 0) (record { answer = still_open; state = opened msg_id 1 (length part); buffer = sets b 0 part }) (dropped b)

-- "TelID 2 continues it, TelID 3 completes it": the same MsgID, the next counter, "total above 65,535" refused 16
unfoldable pub continues : (final : Bool) → Joining → (msg_id counter : ℕ) → List ℕ → List ℕ → Joined
continues final idle msg_id counter part b = dropped b
continues final (opened m c n) msg_id counter part b =
    cond (eqb msg_id m && eqb counter c && leb (n + length part) max_payload)
    (record {
      answer = cond final (complete m (n + length part)) still_open;
      state = cond final idle (opened m ((c + 1) % 256) (n + length part));
      buffer = sets b n part;
    })
    (dropped b)

-- a well-formed telegram: "TelID 0 completes; TelID 1 begins; either drops an open message."
unfoldable pub join_to : (tel_id : ℕ) → Joining → (msg_id : ℕ) → List ℕ → List ℕ → Joined
join_to id s msg_id body b =
    cond (eqb id 0) (record { answer = complete msg_id (length body); state = idle; buffer = sets b 0 body })
    (cond (eqb id 1) (begins msg_id (get_or body 0 0) (drop 1 body) b) (continues (eqb id 3) s msg_id (get_or body 0 0) (drop 1 body) b))

-- 14: "telegram below 6 bytes, TelLen wrong or above L, TelID 1 to 3 with TelLen 0"
unfoldable pub malformed : (size : ℕ) → List ℕ → Bool
malformed size t =
    ltb (length t) 6 || not (eqb (length t) (6 + tel_len_of t)) || ltb size (tel_len_of t) || eqb (tel_len_of t) 0 && leb 1 (tel_id_of t) && leb (tel_id_of t) 3

-- "Joining takes one at a time into a lent buffer": 10, 13 "join buffer below 65,535", 14, 15 "TelID 4 or above", 16
unfoldable pub join : (size : ℕ) → Joining → (buffer telegram : List ℕ) → Joined
join size s b t =
    cond (not (legal_size size)) (unchanged 10 s b)
    (cond (ltb (length b) max_payload) (unchanged 13 s b)
    (cond (malformed size t) (unchanged 14 s b)
    (cond (leb 4 (tel_id_of t)) (unchanged 15 s b) (join_to (tel_id_of t) s (be4 t 0) (drop 6 t) b))))

-- a list of telegrams, one after the other: the answers, and the state and the buffer at the end
pub record JoinedAll : Type 0 where
  pub answers : List Join
  pub state : Joining
  pub buffer : List ℕ

unfoldable pub join_all : (size : ℕ) → Joining → (buffer : List ℕ) → List (List ℕ) → JoinedAll
join_all size s b [] = record { answers = []; state = s; buffer = b }
join_all size s b (t ∷ ts) =
    let j = join size s b t in
    let later = join_all size j.state j.buffer ts in
    record { answers = j.answer ∷ later.answers; state = later.state; buffer = later.buffer }

-- the numbers and values given back: 0 beside a number, and a MsgID and a length only where the message is complete
unfoldable pub count_number : Count → ℕ
count_number (uncounted n) = n
count_number (count_is k) = 0

unfoldable pub count_value : Count → ℕ
count_value (uncounted n) = 0
count_value (count_is k) = k

unfoldable pub cut_number : Cut → ℕ
cut_number (uncut n) = n
cut_number (cut_to t) = 0

unfoldable pub cut_bytes : Cut → List ℕ
cut_bytes (uncut n) = []
cut_bytes (cut_to t) = t

unfoldable pub cut_length : Cut → ℕ
cut_length c = length (cut_bytes c)

unfoldable pub join_number : Join → ℕ
join_number (unjoined n) = n
join_number still_open = 0
join_number (complete m n) = 0

unfoldable pub join_msg_id : Join → ℕ
join_msg_id (unjoined n) = 0
join_msg_id still_open = 0
join_msg_id (complete m n) = m

unfoldable pub join_length : Join → ℕ
join_length (unjoined n) = 0
join_length still_open = 0
join_length (complete m n) = n
