-- The numbers that each call gives: only its own, and each of them.
use Prim.Native.Nat.{ℕ, zero, suc, ◌+◌, ◌-◌, ◌<◌, ◌≤◌}
use mathlib.Core.Path.{◌≡◌, refl, ◌∙◌, ap, subst}
use mathlib.Core.Bool.{Bool, true, false, not, ◌&&◌, ◌||◌}
use mathlib.Core.List.{List, [], ◌∷◌}
use mathlib.Core.Logic.{◌≢◌}
use mathlib.Core.Option.{Option, none, some}
use native.Mathlib.Omega.{arith}
use borrow.Author.Tests.{lt-leb, lt-ltb, le-ltb}
use lib.Dec.{eqb, leb, ltb}
use lib.ListN.{length, drop, replicate, length-replicate}
use Rattle.laws.specs.Lists.{any}
use Rattle.laws.specs.Bools.{on_cond}
use Rattle.laws.specs.Alls.{All, all_nil, all_cons}
use Rattle.rules.specs.House.{min_size, min_room, max_pass, max_payload}
use Rattle.rules.specs.Picture.{Ok, is_ok, Pair, same_pair, Row, Picture, legal_size, fresh, fresh_number, Seat, keeps, seat_at, others}
use Rattle.rules.specs.Event.{Event, START, NCE, SHUTDOWN, ANSWER, NONE, DELAY, be4, decode}
use Rattle.rules.specs.Renumber.{is_in}
use Rattle.rules.specs.Step.{Response, refuse, change, refuse_if, network_change, Verdict, barred, outside, duplicate, changed, fine, verdict, nobody, counted, at_limit, conflict, answer, not_taken, respond}
use Rattle.rules.specs.Run.{Outcome, refused, taken, on_event, on_decoded, concluded, step, Record, offered, left, after, next}
use Rattle.rules.specs.Listing.{Entry, Lookup, found, not_found, first_of, listing, look_up}
use Rattle.rules.specs.Telegram.{tel_id_of, count_of, telegram_of, Count, uncounted, count_is, count, Cut, uncut, cut_to, cut, Joining, idle, opened, Join, unjoined, still_open, complete, Joined, unchanged, dropped, begins, continues, join_to, malformed, join}
use Rattle.rules.specs.Evaluate.{play_picture, play_look_up, play_count, play_cut, play_join}
use Rattle.rules.specs.Table.{hex, with_room}
use Rattle.rules.specs.Claims.{record_numbers, fresh_numbers, count_numbers, cut_numbers, join_numbers, look_up_numbers, Numbers}

-- records: 1 and 2 before the event is known, 3 and 4 by the table of states, 5 to 9 by the event's own step
abbrev Responds : Response → Type 0
Responds (refuse n) = is_in record_numbers n ≡ true
Responds (change c) = Unit {0}

abbrev Refuses : Outcome → Type 0
Refuses (refused n) = is_in record_numbers n ≡ true
Refuses (taken q os) = Unit {0}

if_refused : (b : Bool) (n : ℕ) (r : Response) → is_in record_numbers n ≡ true → Responds r → Responds (refuse_if b n r)
unfolding refuse_if
if_refused true n r h k = h
if_refused false n r h k = k

in_conflict : (counts : Row → Bool) (a : ℕ) (s : Seat) (p : Picture) → Responds (conflict counts a s p)
unfolding conflict is_in any
in_conflict counts a s p =
    on_cond Responds (at_limit (counted s.row) || any (λ (r : Row). counts r && at_limit (counted r)) (others s)) _ _ (λ _. tt)
    (λ _. if_refused (leb max_pass p.pass) 9 _ refl tt)

in_answer : (v : Verdict) (x a : ℕ) (ps : List Pair) (s : Seat) (p : Picture) → Responds (answer v x a ps s p)
unfolding answer
in_answer barred x a ps s p = tt
in_answer outside x a ps s p = in_conflict nobody a s p
in_answer duplicate x a ps s p = in_conflict (keeps a) a s p
in_answer changed x a ps s p = in_conflict nobody a s p
in_answer fine x a ps s p = tt

in_respond : (p : Picture) (e : Event) → Responds (respond p e)
unfolding respond is_in any
in_respond p (START n) = if_refused _ 9 _ refl tt
in_respond p (NCE n) = if_refused _ 9 _ refl tt
in_respond p SHUTDOWN = tt
in_respond p (ANSWER c x a ps) =
    let s = seat_at p.rows x in
    if_refused _ 5 _ refl (if_refused _ 6 _ refl (if_refused _ 7 _ refl (if_refused _ 8 _ refl (in_answer (verdict (others s) s.row a) x a ps s p))))
in_respond p (NONE c x) = if_refused _ 5 _ refl (if_refused _ 6 _ refl (if_refused _ 7 _ refl (if_refused _ 8 _ refl tt)))
in_respond p (DELAY c) = if_refused _ 5 _ refl (if_refused _ 8 _ refl tt)

in_table : (e : Event) → is_in record_numbers (not_taken e) ≡ true
unfolding not_taken is_in any
in_table (START n) = refl
in_table (NCE n) = refl
in_table SHUTDOWN = refl
in_table (ANSWER c x a ps) = refl
in_table (NONE c x) = refl
in_table (DELAY c) = refl

in_decoded : (p : Picture) (o : Option Event) → Responds (on_decoded p o)
unfolding on_decoded on_event is_in any
in_decoded p none = refl
in_decoded p (some e) = if_refused _ (not_taken e) _ (in_table e) (in_respond p e)

in_outcome : (p : Picture) (s : Response) → Responds s → Refuses (concluded p s)
unfolding concluded
in_outcome p (refuse n) h = h
in_outcome p (change c) h = tt

in_record : (p : Picture) (r : Record) → Refuses (offered p r)
unfolding step is_in any
in_record p r = in_outcome p _ (if_refused _ 1 _ refl (in_decoded p (decode r.bytes)))

-- making a picture, counting and cutting
in_fresh : (l : ℕ) → fresh_number l ≢ 0 → is_in fresh_numbers (fresh_number l) ≡ true
unfolding fresh_number is_in any
in_fresh l = on_cond (λ (n : ℕ). n ≢ 0 → is_in fresh_numbers n ≡ true) (legal_size l) 0 10 (λ _ h. absurd (h refl)) (λ _ h. refl)

abbrev Counts : Count → Type 0
Counts (uncounted n) = is_in count_numbers n ≡ true
Counts (count_is k) = Unit {0}

in_count : (size : ℕ) (payload : List ℕ) → Counts (count size payload)
unfolding count is_in any
in_count size payload =
    on_cond Counts (not (legal_size size)) _ _ (λ _. refl) (λ _. on_cond Counts (ltb max_payload (length payload)) _ _ (λ _. refl) (λ _. tt))

abbrev Cuts : Cut → Type 0
Cuts (uncut n) = is_in cut_numbers n ≡ true
Cuts (cut_to t) = Unit {0}

in_cut : (size msg_id : ℕ) (payload : List ℕ) (k room : ℕ) → Cuts (cut size msg_id payload k room)
unfolding cut is_in any
in_cut size msg_id payload k room =
    on_cond Cuts (not (legal_size size)) _ _ (λ _. refl)
    (λ _. on_cond Cuts (ltb max_payload (length payload)) _ _ (λ _. refl)
    (λ _. on_cond Cuts (eqb k 0 || ltb (count_of size (length payload)) k) _ _ (λ _. refl)
    (λ _. on_cond Cuts (ltb room (length (telegram_of size msg_id payload k))) _ _ (λ _. refl) (λ _. tt))))

-- joining
abbrev Joins : Join → Type 0
Joins (unjoined n) = is_in join_numbers n ≡ true
Joins still_open = Unit {0}
Joins (complete m n) = Unit {0}

abbrev Answers : Joined → Type 0
Answers j = Joins j.answer

in_begins : (msg_id counter : ℕ) (part b : List ℕ) → Answers (begins msg_id counter part b)
unfolding begins dropped is_in any
in_begins msg_id counter part b = on_cond Answers (eqb counter 0) _ _ (λ _. tt) (λ _. refl)

in_continues : (final : Bool) (s : Joining) (msg_id counter : ℕ) (part b : List ℕ) → Answers (continues final s msg_id counter part b)
unfolding continues dropped is_in any
in_continues final idle msg_id counter part b = refl
in_continues final (opened m c n) msg_id counter part b =
    on_cond Answers (eqb msg_id m && eqb counter c && leb (n + length part) max_payload) _ _ (λ _. on_cond Joins final _ _ (λ _. tt) (λ _. tt)) (λ _. refl)

in_joined : (id : ℕ) (s : Joining) (msg_id : ℕ) (body b : List ℕ) → Answers (join_to id s msg_id body b)
unfolding join_to
in_joined id s msg_id body b =
    on_cond Answers (eqb id 0) _ _ (λ _. tt) (λ _. on_cond Answers (eqb id 1) _ _ (λ _. in_begins msg_id _ _ b) (λ _. in_continues _ s msg_id _ _ b))

in_join : (size : ℕ) (s : Joining) (b t : List ℕ) → Answers (join size s b t)
unfolding join unchanged is_in any
in_join size s b t =
    on_cond Answers (not (legal_size size)) _ _ (λ _. refl)
    (λ _. on_cond Answers (ltb (length b) max_payload) _ _ (λ _. refl)
    (λ _. on_cond Answers (malformed size t) _ _ (λ _. refl)
    (λ _. on_cond Answers (leb 4 (tel_id_of t)) _ _ (λ _. refl) (λ _. in_joined (tel_id_of t) s (be4 t 0) (drop 6 t) b))))

-- a look-up
abbrev Finds : Lookup → Type 0
Finds (found x a) = Unit {0}
Finds (not_found n) = is_in look_up_numbers n ≡ true

in_first : (a : Pair) (es : List Entry) → Finds (first_of a es)
unfolding first_of is_in any
in_first a [] = refl
in_first a (e ∷ es) = on_cond Finds (same_pair a e.pair) _ _ (λ _. tt) (λ _. in_first a es)

in_look_up : (p : Picture) (a : Pair) → Finds (look_up p a)
unfolding look_up is_in any
in_look_up p a = on_cond Finds (is_ok p.state) _ _ (λ _. in_first a (listing p)) (λ _. refl)

-- START and NCE for a ring of one node
first : Record
unfolding hex
first = with_room 8 0x4D45_01_00000000_01

rescan : Record
unfolding hex
rescan = with_room 8 0x4D45_02_00000000_01

abbrev RecordGives : ℕ → ℕ → Type 0
RecordGives l n = (rs : List Record) × (r : Record) × (offered (after (fresh l) rs) r ≡ refused n)

gives_1 : (l : ℕ) → RecordGives l 1
unfolding play_picture
gives_1 l = ([], record { bytes = []; room = 0 }, refl)

gives_2 : (l : ℕ) → RecordGives l 2
unfolding play_picture
gives_2 l = ([], record { bytes = []; room = min_room }, refl)

gives_3 : (l : ℕ) → RecordGives l 3
unfolding play_picture rescan hex
gives_3 l = ([], rescan, refl)

gives_4 : (l : ℕ) → RecordGives l 4
unfolding play_picture first hex
gives_4 l = (first ∷ [], first, refl)

-- in a ring of two: a silence of pass 0, one of position 2, and one of position 1 after its third bad address
gives_5 : (l : ℕ) → RecordGives l 5
unfolding play_picture hex
gives_5 l = (with_room 8 0x4D45_01_00000000_02 ∷ [], with_room 8 0x4D45_05_00000000_01, refl)

gives_6 : (l : ℕ) → RecordGives l 6
unfolding play_picture hex
gives_6 l = (with_room 8 0x4D45_01_00000000_02 ∷ [], with_room 8 0x4D45_05_00000001_02, refl)

gives_7 : (l : ℕ) → RecordGives l 7
unfolding play_picture hex
gives_7 l = (
  with_room 8 0x4D45_01_00000000_02
      ∷ with_room 11 0x4D45_04_00000001_01_0100_00
      ∷ with_room 11 0x4D45_04_00000002_01_0100_00
      ∷ with_room 11 0x4D45_04_00000003_01_0100_00
      ∷ [],
  with_room 8 0x4D45_05_00000003_01,
  refl,
)

-- the end of a delay that does not run
gives_8 : (l : ℕ) → RecordGives l 8
unfolding play_picture first hex
gives_8 l = (first ∷ [], with_room 8 0x4D45_06_00000001_00, refl)

-- a ring of one node that has come to pass k; each rescan brings it to the next, up to the last one
module _ (l : ℕ) where
  alone : ℕ → Picture
  alone k = record { state = Ok; pass = k; size = (fresh l).size; delay = false; rows = [] }

  started : (rs : List Record) → after (fresh l) (first ∷ rs) ≡ after (alone 1) rs
  unfolding play_picture hex alone first
  started rs = refl

  rescanned : (k : ℕ) → k < max_pass → next (alone k) rescan ≡ alone (suc k)
  unfolding play_picture hex alone rescan
  rescanned k h =
      ap (λ (b : Bool). left (alone k) (concluded (alone k) (refuse_if b 9 (change (network_change 1 (alone k)))))) (lt-leb max_pass k h)

  rescans : (m k : ℕ) → k + m ≤ max_pass → after (alone k) (replicate m rescan) ≡ alone (k + m)
  unfolding after
  rescans zero k h = let e : k ≡ k + 0 = omega arith in ap alone e
  rescans (suc m) k h =
      let e : suc k + m ≡ k + suc m = omega arith in
      ap (λ (p : Picture). after p (replicate m rescan)) (rescanned k (omega arith)) ∙ rescans m (suc k) (omega arith) ∙ ap alone e

  last_pass : offered (alone max_pass) rescan ≡ refused 9
  unfolding play_picture hex alone rescan
  last_pass = refl

-- so many rescans lead from pass 1 to the last one; nothing counts them out
many : ℕ
many = max_pass - 1

many_is : 1 + many ≡ max_pass
unfolding many
many_is = refl

gives_9 : (l : ℕ) → RecordGives l 9
gives_9 l =
    let e : after (fresh l) (first ∷ replicate many rescan) ≡ alone l max_pass =
    started l (replicate many rescan) ∙ rescans l many 1 (omega (arith, many_is)) ∙ ap (alone l) many_is in
    (first ∷ replicate many rescan, rescan, ap (λ (p : Picture). offered p rescan) e ∙ last_pass l)

records_give : (l : ℕ) → All (RecordGives l) record_numbers
records_give l =
    all_cons (gives_1 l)
    (all_cons (gives_2 l)
    (all_cons (gives_3 l)
    (all_cons (gives_4 l)
    (all_cons (gives_5 l) (all_cons (gives_6 l) (all_cons (gives_7 l) (all_cons (gives_8 l) (all_cons (gives_9 l) all_nil))))))))

fresh_gives_lem : All (λ (n : ℕ). (l : ℕ) × (fresh_number l ≡ n)) fresh_numbers
unfolding play_picture
fresh_gives_lem = all_cons (0, refl) all_nil

-- more bytes than a message has; nothing counts them out
long : List ℕ
long = replicate (suc max_payload) 0

long_is : length long ≡ suc max_payload
unfolding long
long_is = length-replicate {A = ℕ} (suc max_payload) 0

long_above : ltb max_payload (length long) ≡ true
long_above = lt-ltb max_payload (length long) (omega (arith, long_is))

long_enough : ltb (length long) max_payload ≡ false
long_enough = le-ltb (length long) max_payload (omega (arith, long_is))

count_gives_lem : All (λ (n : ℕ). (size : ℕ) × (payload : List ℕ) × (count size payload ≡ uncounted n)) count_numbers
unfolding play_count
count_gives_lem = all_cons (0, [], refl) (all_cons {x = 11} (min_size, long, rw long_above) all_nil)

cut_gives_lem : All (λ (n : ℕ). (size msg_id : ℕ) × (payload : List ℕ) × (k room : ℕ) × (cut size msg_id payload k room ≡ uncut n)) cut_numbers
unfolding play_cut
cut_gives_lem =
    all_cons (0, 0, [], 1, 0, refl)
    (all_cons {x = 11} (min_size, 0, long, 1, 0, rw long_above) (all_cons (min_size, 0, [], 0, 0, refl) (all_cons (min_size, 0, [], 1, 0, refl) all_nil)))

join_gives_lem : All (λ (n : ℕ). (size : ℕ) × (s : Joining) × (buffer telegram : List ℕ) × ((join size s buffer telegram).answer ≡ unjoined n)) join_numbers
unfolding play_join hex
join_gives_lem =
    all_cons (0, idle, [], [], refl)
    (all_cons (min_size, idle, [], [], refl)
    (all_cons {x = 14} (min_size, idle, long, [], rw long_enough)
    (all_cons {x = 15} (min_size, idle, long, hex 6 0x00000000_4000, rw long_enough)
    (all_cons {x = 16} (min_size, idle, long, hex 7 0x00000000_2001_00, rw long_enough) all_nil))))

look_up_gives_lem : (l : ℕ) → All (λ (n : ℕ). (rs : List Record) × (a : Pair) × (look_up (after (fresh l) rs) a ≡ not_found n)) look_up_numbers
unfolding play_look_up first hex
look_up_gives_lem l = all_cons (first ∷ [], record { block = 0x22; number = 0x01 }, refl) (all_cons ([], record { block = 0x22; number = 0x01 }, refl) all_nil)

pub numbers : Numbers
numbers =
    record {
      of_record = λ p r n h. subst Refuses h (in_record p r);
      of_fresh = in_fresh;
      of_count = λ size payload n h. subst Counts h (in_count size payload);
      of_cut = λ size msg_id payload k room n h. subst Cuts h (in_cut size msg_id payload k room);
      of_join = λ size s b t n h. subst Joins h (in_join size s b t);
      of_look_up = λ p a n h. subst Finds h (in_look_up p a);
      record_gives = records_give;
      fresh_gives = fresh_gives_lem;
      count_gives = count_gives_lem;
      cut_gives = cut_gives_lem;
      join_gives = join_gives_lem;
      look_up_gives = look_up_gives_lem;
    }
