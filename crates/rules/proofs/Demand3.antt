-- Demand 3, of every list of records from a fresh picture.
use Prim.Native.Nat.{ℕ, zero, suc, ◌+◌, ◌-◌, ◌*◌, ◌<◌, ◌≤◌, ◌/◌, ◌%◌}
use mathlib.Core.Path.{◌≡◌, refl, sym, ◌∙◌, ap, subst}
use mathlib.Core.Bool.{Bool, true, false, cond, not, ◌&&◌}
use mathlib.Core.List.{List, [], ◌∷◌, ◌++◌, append_assoc, append-nil}
use mathlib.Core.Option.{Option, some}
use mathlib.Core.Logic.{◌⊎◌, inl, inr}
use native.Mathlib.Omega.{arith}
use native.Mathlib.Nat.{not-suc-le-zero, le_of_suc-le-suc}
use borrow.Author.Tests.{ltb-true, ltb-false, le-ltb, eq-eqb, ne_eqb}
use lib.Dec.{eqb, ltb, eqb-suc-zero}
use lib.ListN.{length, get_or, take, drop, replicate, length-take, length-drop, get_or-eq_default}
use lib.Seq.{take-add, take-suc, take-take, get_or-take, get_or-drop}
use Rattle.laws.specs.Lists.{any}
use Rattle.laws.specs.Bools.{clash, and_none, or_false, or_right, refute}
use Rattle.laws.specs.Alls.{All, all_nil, all_cons, all_everywhere, any_found, any_none}
use Rattle.laws.specs.Sums.{total_at}
use Rattle.rules.specs.House.{min_room, max_nodes, max_pairs, max_tries}
use Rattle.rules.specs.Picture.{State, Off, NotOk, Ok, is_not_ok, is_ok, Status, WAITING, SETTING, LISTED, SILENT, IGNORED, Row, Picture, with_state, with_delay, with_rows, is_open, is_open_status, is_ignored, is_ignored_status, new_row, no_row, row_at, open_at, fresh, seat_at, put}
use Rattle.rules.specs.Event.{Event, START, NCE, SHUTDOWN, ANSWER, NONE, DELAY, decode, encode_event, header, four, two}
use Rattle.rules.specs.Step.{Change, Response, change, scanned, scan, begin, rescanned, rescan, change_rows, silenced, keep_answer, takes, no_position, respond}
use Rattle.rules.specs.Ending.{becomes_ok, settled, ended, picture_of}
use Rattle.rules.specs.Run.{Outcome, on_event, on_decoded, concluded, step, Record, offered, left, sent_by, Sent, next, after, history}
use Rattle.rules.specs.Claims.{Exists8, if_taken, accepted, is_reply, count_reply, replies_in, picture_at, sent_at, record_at, replies_between, way_state, Awaits, Arrived, Names, Allowed, bound, Reaches, arrives, holds_fewer, Demand3}
use Rattle.rules.proofs.Ways.{Ways, refuse_if_false, every_taken, Offered, was_refused, was_taken, offered_cases}
use Rattle.rules.proofs.Sound.{Sound, Formed}
use Rattle.rules.proofs.Decode.{formed}
use Rattle.rules.proofs.Encode.{decode_encode}
use Rattle.rules.proofs.Measure.{work, level, open_work, falls, level_begins}
use Rattle.rules.proofs.Runs.{Running, running_fresh, running_taken}
use Rattle.rules.proofs.Along.{along, along_next}
use Rattle.rules.proofs.Distinct.{sound_distinct}

-- an open question has a row, and the row is not IGNORED
open_seated : (p : Picture) (x : ℕ) → open_at p x ≡ true → (no_position p x ≡ false) × (is_open (seat_at p.rows x).row ≡ true)
unfolding open_at row_at no_position seat_at is_open no_row is_open_status
open_seated p zero h = clash h refl
open_seated p (suc i) h = (or_false (eqb (suc i) 0) (ltb (length p.rows) (suc i)) (eqb-suc-zero i) (refute (ltb (length p.rows) (suc i)) beyond), h)
  where
    beyond : ltb (length p.rows) (suc i) ≡ true → ltb (length p.rows) (suc i) ≡ false
    beyond e = clash h (ap is_open (get_or-eq_default p.rows no_row (le_of_suc-le-suc (ltb-true _ _ e))))

open_heard : (r : Row) → is_open r ≡ true → is_ignored r ≡ false
unfolding is_open is_ignored is_open_status is_ignored_status
open_heard r h = go r.status h
  where
    go : (s : Status) → is_open_status s ≡ true → is_ignored_status s ≡ false
    go WAITING h = refl
    go (SETTING a ps i t) h = refl
    go (LISTED a ps) h = refl
    go SILENT h = refl
    go (IGNORED a) h = clash h refl

-- a silence for an open question is taken
silence_responds : (p : Picture) (x : ℕ) → open_at p x ≡ true
    → respond p (NONE p.pass x) ≡ change (change_rows (put (seat_at p.rows x) (silenced (seat_at p.rows x).row)) p)
unfolding respond
silence_responds p x o =
    let s = open_seated p x o in
    refuse_if_false _ _ (ap not (eq-eqb p.pass p.pass refl))
    ∙ refuse_if_false _ _ s.0
    ∙ refuse_if_false _ _ (open_heard _ s.1)
    ∙ refuse_if_false _ _ (ap not s.1)

silence_taken : (p : Picture) (x : ℕ) → takes p.state (NONE p.pass x) ≡ true → open_at p x ≡ true → (r : Record) → decode r.bytes ≡ some (NONE p.pass x)
    → min_room ≤ r.room
    → accepted p r ≡ some (NONE p.pass x)
unfolding accepted step if_taken concluded on_decoded on_event
silence_taken p x s o r d m =
    ap (λ (z : Response). if_taken (concluded p z) (decode r.bytes))
    (refuse_if_false _ _ (le-ltb r.room min_room m)
    ∙ ap (on_decoded p) d
    ∙ refuse_if_false _ _ (ap not s)
    ∙ silence_responds p x o)
    ∙ d

some_open_lem : (p : Picture) → any is_open p.rows ≡ true → (x : ℕ) × (open_at p x ≡ true)
unfolding open_at row_at
some_open_lem p h = let f = any_found is_open no_row p.rows h in (suc f.0, f.2)

-- the bytes of a header are bytes
header_bytes : (kind pass x : ℕ) → kind < 256 → x < 256 → All (λ (b : ℕ). b < 256) (header kind pass x)
unfolding header four two
header_bytes kind pass x k h =
    let low : (n : ℕ) → n % 256 < 256 = λ n. omega arith in
    let m : ◌≤◌ 0x4E 256 = omega arith in
    let e : ◌≤◌ 0x46 256 = omega arith in
    all_cons m (all_cons e (all_cons k (all_cons (low (pass / 65_536 / 256)) (all_cons (low (pass / 65_536))
    (all_cons (low (pass / 256)) (all_cons (low pass) (all_cons h all_nil)))))))

-- the silence for an open question has eight bytes
exists8 : (p : Picture) (x : ℕ) → Sound p → open_at p x ≡ true → Exists8 (NONE p.pass x)
unfolding encode_event header four two no_position
exists8 p x h o =
    let l = ltb-false (length p.rows) x (or_right (eqb x 0) (ltb (length p.rows) x) (open_seated p x o).0) in
    let f = h.rows.few in
    record {
      decodes = decode_encode (NONE p.pass x) h.pass;
      eight = refl;
      bytes = header_bytes 5 p.pass x (omega arith) (omega arith);
    }

-- a picture on the way: its state, a pass that is the first one or later, and an open question
record Way (from_ok : Bool) (n : ℕ) (p : Picture) : Type 0 where
  state : p.state ≡ way_state from_ok (eqb p.pass n)
  since : n ≤ p.pass
  some_open : any is_open p.rows ≡ true

-- a silence is taken on the way
way_takes : (b t : Bool) (c x : ℕ) (s : State) → s ≡ way_state b t → takes s (NONE c x) ≡ true
unfolding way_state takes
way_takes b t c x s h = ap (λ (z : State). takes z (NONE c x)) h ∙ go (b && t)
  where
    go : (u : Bool) → takes (cond u Ok NotOk) (NONE c x) ≡ true
    go true = refl
    go false = refl

-- what a running picture awaits on the way
awaits : (b : Bool) (n : ℕ) (p : Picture) (sent : List Sent) → Running p sent → Way b n p → Awaits b n p sent
awaits b n p sent r w =
    record {
      state = w.state;
      some_open = some_open_lem p w.some_open;
      current = r.current;
      silence = λ x o q d m. silence_taken p x (way_takes b (eqb p.pass n) p.pass x p.state w.state) o q d m;
      writable = λ x o. exists8 p x r.sound o;
    }

-- it has arrived where no question is open
none_open : (rows : List Row) → any is_open rows ≡ false → (x : ℕ) → is_open (row_at rows x) ≡ false
unfolding row_at is_open no_row is_open_status
none_open rows h zero = refl
none_open rows h (suc i) = all_everywhere {P = λ (r : Row). is_open r ≡ false} i no_row refl (any_none is_open rows h)

arrived : (p : Picture) → p.state ≡ Ok → any is_open p.rows ≡ false → Arrived p
unfolding open_at
arrived p s h = record { ok = s; closed = none_open p.rows h }

-- while a question is open there is something left to answer
level_open : (rows : List Row) → any is_open rows ≡ true → 1 ≤ level rows
unfolding level
level_open rows h =
    let f = any_found is_open no_row rows h in
    let w = open_work (get_or rows f.0 no_row) f.2 in
    let t = total_at work rows f.0 no_row f.1 in
    omega arith

-- the ring is on the way, or it has arrived
abbrev Going : (from_ok : Bool) → ℕ → Picture → Type 0
Going b n p = Way b n p ⊎ ((p.state ≡ Ok) × (any is_open p.rows ≡ false))

-- a change that keeps to the way, whatever questions it leaves open
record Stays (b : Bool) (n : ℕ) (p : Picture) : Type 0 where
  state : p.state ≡ way_state b (eqb p.pass n)
  since : n ≤ p.pass

settled_goes : (b : Bool) (n : ℕ) (c : Change) → Stays b n c.picture → Going b n (picture_of c)
unfolding picture_of ended settled with_state with_delay becomes_ok is_not_ok way_state
settled_goes b n c h = go (any is_open c.picture.rows) refl
  where
    stays : (s : State) → cond (is_not_ok s && false) Ok s ≡ s
    stays Off = refl
    stays NotOk = refl
    stays Ok = refl

    ends : (t : Bool) → cond (is_not_ok (cond t Ok NotOk) && true) Ok (cond t Ok NotOk) ≡ Ok
    ends true = refl
    ends false = refl

    becomes : Bool → State
    becomes o = cond (is_not_ok c.picture.state && not o) Ok c.picture.state

    go : (o : Bool) → any is_open c.picture.rows ≡ o → Going b n (picture_of c)
    go true e = inl (record { state = ap becomes e ∙ stays c.picture.state ∙ h.state; since = h.since; some_open = e })
    go false e =
        inr (ap becomes e ∙ ap (λ (s : State). cond (is_not_ok s && true) Ok s) h.state ∙ ends (b && eqb c.picture.pass n), e)

-- an answer or a silence for an open question keeps to the way: a restart opens a later pass, in NOTOK
module _ (b : Bool) (n : ℕ) (p : Picture) where
  restarted : n ≤ p.pass → NotOk ≡ way_state b (eqb (suc p.pass) n)
  unfolding way_state
  restarted h =
      sym (ap (λ (t : Bool). cond (b && t) Ok NotOk) (ne_eqb (suc p.pass) n (λ e. absurd (omega (arith, e))))
      ∙ ap (λ (t : Bool). cond t Ok NotOk) (and_none b))

  stays_ways : Ways p (λ (e : Event) (c : Change). Allowed p (some e) → Way b n p → Stays b n c.picture)
  unfolding scan scanned change_rows with_rows keep_answer
  stays_ways =
      record {
        starts = λ m l h. absurd h;
        ring_changes = λ m l i h. absurd h;
        ring_changes_in_ok = λ m l i h. absurd h;
        shuts = λ h. absurd h;
        silences = λ c x i o h w. record { state = w.state; since = w.since };
        delays = λ c d h. absurd h;
        bars = λ c x a ps i o z h w. record { state = w.state; since = w.since };
        ignores = λ c x a ps i o counts k z h w. record { state = w.state; since = w.since };
        restarts = λ c x a ps i o counts z l h w. record { state = restarted w.since; since = omega (arith, w.since) };
        keeps = λ c x a ps i o k h w. record { state = w.state; since = w.since };
      }

-- a START or NCE leaves new rows, and OK only where it came in OK
record Begins (from_ok : Bool) (n : ℕ) (p : Picture) : Type 0 where
  state : p.state ≡ way_state from_ok true
  rows : p.rows ≡ replicate (n - 1) new_row

begins_ways : (p : Picture) (n : ℕ)
    → Ways p (λ (e : Event) (c : Change). takes p.state e ≡ true → Names (some e) n → Begins (is_ok p.state) n c.picture)
unfolding begin scan scanned rescan rescanned takes is_ok way_state
begins_ways p n =
    record {
      starts = λ m l t h. record { state = from_other (starts_off p.state m t); rows = ap new h };
      ring_changes = λ m l i t h. record { state = from_other i; rows = ap new h };
      ring_changes_in_ok = λ m l i t h. record { state = from_ok_lem i; rows = ap new h };
      shuts = λ t h. absurd h;
      silences = λ c x i o t h. absurd h;
      delays = λ c d t h. absurd h;
      bars = λ c x a ps i o z t h. absurd h;
      ignores = λ c x a ps i o counts k z t h. absurd h;
      restarts = λ c x a ps i o counts b l t h. absurd h;
      keeps = λ c x a ps i o k t h. absurd h;
    }
  where
    new : ℕ → List Row
    new k = replicate (k - 1) new_row

    from_ok_lem : {b : Bool} → b ≡ true → Ok ≡ way_state b true
    from_ok_lem h = sym (ap (λ (t : Bool). cond (t && true) Ok NotOk) h)

    from_other : {b : Bool} → b ≡ false → NotOk ≡ way_state b true
    from_other h = sym (ap (λ (t : Bool). cond (t && true) Ok NotOk) h)

    starts_off : (s : State) (m : ℕ) → takes s (START m) ≡ true → is_ok s ≡ false
    starts_off Off m t = refl
    starts_off NotOk m t = refl
    starts_off Ok m t = clash t refl

-- a record that is allowed, counted if it is an answer or a silence, lowers the level by as much
allowed_reply : (p : Picture) (e : Event) → Allowed p (some e) → is_reply e ≡ true
unfolding is_reply
allowed_reply p (START n) h = absurd h
allowed_reply p (NCE n) h = absurd h
allowed_reply p SHUTDOWN h = absurd h
allowed_reply p (ANSWER c x a ps) h = refl
allowed_reply p (NONE c x) h = refl
allowed_reply p (DELAY c) h = absurd h

module _ (b : Bool) (n : ℕ) where
  abbrev Moved : Picture → Option Event → Picture → Type 0
  Moved p e q = (count_reply e + level q.rows ≤ level p.rows) × Going b n q

  moved_reply : (p : Picture) (e : Event) (c : Change) → respond p e ≡ change c → Formed e → Allowed p (some e) → Way b n p
      → Moved p (some e) (picture_of c)
  unfolding picture_of ended settled with_state with_delay count_reply
  moved_reply p e c q f a w =
      let l : level c.picture.rows < level p.rows = falls p e c q a f in
      let i = allowed_reply p e a in
      (rw i (omega arith), settled_goes b n c (every_taken p _ (stays_ways b n p) e c q a w))

  moves : (p : Picture) (r : Record) → Way b n p → Allowed p (accepted p r) → Moved p (accepted p r) (next p r)
  unfolding accepted if_taken left count_reply
  moves p r w = go (offered_cases p r)
    where
      go : {o : Outcome} → Offered p r o → Allowed p (if_taken o (decode r.bytes)) → Moved p (if_taken o (decode r.bytes)) (left p o)
      go was_refused a = (omega arith, inl w)
      go (was_taken {c} e d m t q) a =
          subst (λ (z : Option Event). Allowed p z → Moved p z (picture_of c)) (sym d)
          (λ y. moved_reply p e c q (formed r.bytes e d) y w) a

-- an accepted START or NCE naming N positions begins at the bound
record Begun (p : Picture) (n : ℕ) (q : Picture) : Type 0 where
  low : 1 ≤ n
  high : n ≤ max_nodes
  level : level q.rows ≤ bound n
  going : Going (is_ok p.state) q.pass q

begun : (p : Picture) (r : Record) (n : ℕ) → Names (accepted p r) n → Begun p n (next p r)
unfolding accepted if_taken left bound picture_of ended settled with_state with_delay
begun p r n = go (offered_cases p r)
  where
    named : (e : Event) → Formed e → Names (some e) n → (1 ≤ n) × (n ≤ max_nodes)
    named (START m) f h = (omega (arith, f.0), omega (arith, f.1))
    named (NCE m) f h = (omega (arith, f.0), omega (arith, f.1))
    named SHUTDOWN f h = absurd h
    named (ANSWER c x a ps) f h = absurd h
    named (NONE c x) f h = absurd h
    named (DELAY c) f h = absurd h

    start : (e : Event) (c : Change) → takes p.state e ≡ true → respond p e ≡ change c → Formed e → Names (some e) n → Begun p n (picture_of c)
    start e c t q f h =
        let k = named e f h in
        let b = every_taken p _ (begins_ways p n) e c q t h in
        let l : level c.picture.rows ≡ suc (max_pairs * max_tries) * (n - 1) * (2 * n - 1) = ap level b.rows ∙ level_begins n k.0 in
        let s : c.picture.state ≡ way_state (is_ok p.state) (eqb c.picture.pass c.picture.pass) =
        b.state ∙ ap (way_state (is_ok p.state)) (sym (eq-eqb c.picture.pass c.picture.pass refl)) in
        record {
          low = k.0;
          high = k.1;
          level = omega arith;
          going = settled_goes (is_ok p.state) c.picture.pass c (record { state = s; since = omega arith });
        }

    go : {o : Outcome} → Offered p r o → Names (if_taken o (decode r.bytes)) n → Begun p n (left p o)
    go was_refused h = absurd h
    go (was_taken {c} e d m t q) h = start e c t q (formed r.bytes e d) (subst (λ (z : Option Event). Names z n) d h)

-- only answers and silences for open questions are taken, record after record
abbrev Only : Picture → List Record → Type 0
Only p [] = Unit {0}
Only p (r ∷ rs) = Allowed p (accepted p r) × Only (next p r) rs

only : (p : Picture) (rs : List Record) (d : Record)
    → ((j : ℕ) → j < length rs → Allowed (after p (take j rs)) (accepted (after p (take j rs)) (get_or rs j d))) → Only p rs
unfolding after
only p [] d h = tt
only p (r ∷ rs) d h = (h 0 (omega arith), only (next p r) rs d (λ j l. h (suc j) (omega arith)))

module _ (f : Bool) (n : ℕ) where
  -- what comes of a list that goes on from a picture, with the places counted from there
  data Onward (p : Picture) (sent : List Sent) (rs : List Record) (b : ℕ) : Type 0 where
    comes : (m : ℕ) → m ≤ length rs → Arrived (after p (take m rs)) → replies_in p (take m rs) ≤ b
        → ((j : ℕ) → j < m → Awaits f n (after p (take j rs)) (sent ++ history p (take j rs))) → Onward p sent rs b
    ends : replies_in p rs < b → ((j : ℕ) → j ≤ length rs → Awaits f n (after p (take j rs)) (sent ++ history p (take j rs))) → Onward p sent rs b

  -- one record in front
  onward_next : (p : Picture) (sent : List Sent) (r : Record) (rs : List Record) (b : ℕ) → Awaits f n p sent → count_reply (accepted p r) ≤ b
      → Onward (next p r) (sent ++ sent_by (offered p r)) rs (b - count_reply (accepted p r)) → Onward p sent (r ∷ rs) b
  unfolding after history replies_in
  onward_next p sent r rs b w k (comes m l s c h) = comes (suc m) (omega arith) s (omega arith) here
    where
      here : (j : ℕ) → j < suc m → Awaits f n (after p (take j (r ∷ rs))) (sent ++ history p (take j (r ∷ rs)))
      here zero l = rw append-nil w
      here (suc j) l = rw (← append_assoc) (h j (le_of_suc-le-suc l))
  onward_next p sent r rs b w k (ends c h) = ends (omega arith) here
    where
      here : (j : ℕ) → j ≤ suc (length rs) → Awaits f n (after p (take j (r ∷ rs))) (sent ++ history p (take j (r ∷ rs)))
      here zero l = rw append-nil w
      here (suc j) l = rw (← append_assoc) (h j (le_of_suc-le-suc l))

  onward : (rs : List Record) (p : Picture) (sent : List Sent) (b : ℕ) → Running p sent → Going f n p → level p.rows ≤ b → Only p rs
      → Onward p sent rs b
  unfolding after history replies_in
  onward [] p sent b r (inr s) l o = comes 0 (omega arith) (arrived p s.0 s.1) (omega arith) (λ j k. absurd (not-suc-le-zero k))
  onward (q ∷ rs) p sent b r (inr s) l o = comes 0 (omega arith) (arrived p s.0 s.1) (omega arith) (λ j k. absurd (not-suc-le-zero k))
  onward [] p sent b r (inl w) l o = let k = level_open p.rows w.some_open in ends (omega arith) here
    where
      here : (j : ℕ) → j ≤ 0 → Awaits f n (after p (take j [])) (sent ++ history p (take j []))
      here zero k = rw append-nil (awaits f n p sent r w)
      here (suc j) k = absurd (not-suc-le-zero k)
  onward (q ∷ rs) p sent b r (inl w) l o =
      let m = moves f n p q w o.0 in
      onward_next p sent q rs b (awaits f n p sent r w) (omega (arith, m.0))
      (onward rs (next p q) (sent ++ sent_by (offered p q)) (b - count_reply (accepted p q)) (along_next Running running_taken p sent q r) m.1 (omega (arith, m.0)) o.1)

-- lists cut in two
pub after_append : (p : Picture) (xs ys : List Record) → after p (xs ++ ys) ≡ after (after p xs) ys
unfolding after
after_append p [] ys = refl
after_append p (x ∷ xs) ys = after_append (next p x) xs ys

pub history_append : (p : Picture) (xs ys : List Record) → history p (xs ++ ys) ≡ history p xs ++ history (after p xs) ys
unfolding after history
history_append p [] ys = refl
history_append p (x ∷ xs) ys = ap (λ (l : List Sent). sent_by (offered p x) ++ l) (history_append (next p x) xs ys) ∙ sym (append_assoc (sent_by (offered p x)) (history (next p x) xs) (history (after (next p x) xs) ys))

module _ (l : ℕ) (rs : List Record) where
  picture_split : (i d : ℕ) → after (picture_at l rs i) (take d (drop i rs)) ≡ picture_at l rs (i + d)
  unfolding picture_at
  picture_split i d = sym (ap (after (fresh l)) (take-add i d rs) ∙ after_append (fresh l) (take i rs) (take d (drop i rs)))

  sent_split : (i d : ℕ) → sent_at l rs i ++ history (picture_at l rs i) (take d (drop i rs)) ≡ sent_at l rs (i + d)
  unfolding picture_at sent_at
  sent_split i d = sym (ap (history (fresh l)) (take-add i d rs) ∙ history_append (fresh l) (take i rs) (take d (drop i rs)))

  picture_next : (i : ℕ) → i < length rs → next (picture_at l rs i) (record_at rs i) ≡ picture_at l rs (suc i)
  unfolding picture_at record_at after
  picture_next i h = sym (ap (after (fresh l)) (take-suc rs i _ h) ∙ after_append (fresh l) (take i rs) (record_at rs i ∷ []))

  pub running_at : (k : ℕ) → Running (picture_at l rs k) (sent_at l rs k)
  unfolding picture_at sent_at
  running_at k = along Running running_taken (fresh l) [] (take k rs) (running_fresh l)

  -- the records from place i up to place e
  stretch : (i e : ℕ) → List Record
  stretch i e = take (e - i) (drop i rs)

  stretch_at : (i e j : ℕ) → j < e - i → get_or (stretch i e) j (record { bytes = []; room = 0 }) ≡ record_at rs (i + j)
  unfolding stretch record_at
  stretch_at i e j h = get_or-take (e - i) (drop i rs) j _ h ∙ get_or-drop i rs j _

  module _ (i e : ℕ) (h : i ≤ e) (g : e ≤ length rs) where
    stretch_length : length (stretch i e) ≡ e - i
    unfolding stretch
    stretch_length = rw (length-take, length-drop) (omega arith)

    stretch_take : (d : ℕ) → d ≤ e - i → take d (stretch i e) ≡ take d (drop i rs)
    unfolding stretch
    stretch_take d k = take-take d (e - i) (drop i rs) k

    awaits_at : (b : Bool) (n j : ℕ) → i ≤ j → j ≤ e
        → Awaits b n (after (picture_at l rs i) (take (j - i) (stretch i e)))
        (sent_at l rs i ++ history (picture_at l rs i) (take (j - i) (stretch i e)))
        → Awaits b n (picture_at l rs j) (sent_at l rs j)
    awaits_at b n j m k w =
        let f : i + (j - i) ≡ j = omega arith in
        let d : j - i ≤ e - i = omega arith in
        subst (λ (z : ℕ). Awaits b n (picture_at l rs z) (sent_at l rs z)) f
        (rw (stretch_take (j - i) d, picture_split i (j - i), sent_split i (j - i)) at w)

    reached : (b : Bool) (n : ℕ) → Onward b (picture_at l rs i).pass (picture_at l rs i) (sent_at l rs i) (stretch i e) (bound n) → Reaches l rs b i e n
    unfolding replies_between stretch
    reached b n (comes m k s r w) =
        let f = stretch_length in
        let d : m ≤ e - i = omega arith in
        let c : i + m - i ≡ m = omega arith in
        arrives (i + m) (omega arith) (omega arith) (rw (stretch_take m d, picture_split i m) at s)
        (rw c (rw (stretch_take m d) at r))
        (λ j x y. awaits_at b (picture_at l rs i).pass j x (omega arith) (w (j - i) (omega arith)))
    reached b n (ends r w) = let f = stretch_length in holds_fewer r (λ j x y. awaits_at b (picture_at l rs i).pass j x y (w (j - i) (omega arith)))

-- Demand 3, whole.
pub demand3 : (l : ℕ) (rs : List Record) → Demand3 l rs
unfolding record_at
demand3 l rs =
    record { distinct = λ k h. sound_distinct (picture_at l rs k) (running_at l rs k).sound.rows; reaches = reaches }
  where
    reaches : (i e n : ℕ) → i < e → e ≤ length rs → Names (accepted (picture_at l rs i) (record_at rs i)) n
        → ((j : ℕ) → i < j → j < e → Allowed (picture_at l rs j) (accepted (picture_at l rs j) (record_at rs j)))
        → (1 ≤ n) × (n ≤ max_nodes) × Reaches l rs (is_ok (picture_at l rs i).state) (suc i) e n
    reaches i e n h g m a =
        let f = picture_next l rs i (omega arith) in
        let b : Begun (picture_at l rs i) n (picture_at l rs (suc i)) = subst (Begun (picture_at l rs i) n) f (begun (picture_at l rs i) (record_at rs i) n m) in
        let s = stretch_length l rs (suc i) e h g in (
          b.low,
          b.high,
          reached l rs (suc i) e h g (is_ok (picture_at l rs i).state) n
              (onward (is_ok (picture_at l rs i).state) (picture_at l rs (suc i)).pass (stretch l rs (suc i) e) (picture_at l rs (suc i))
              (sent_at l rs (suc i)) (bound n) (running_at l rs (suc i)) b.going b.level
              (only (picture_at l rs (suc i)) (stretch l rs (suc i) e) _ (λ j k. allowed j (omega arith)))),
        )
      where
        here : ℕ → Picture
        here j = after (picture_at l rs (suc i)) (take j (stretch l rs (suc i) e))

        allowed : (j : ℕ) → j < e - suc i
            → Allowed (here j) (accepted (here j) (get_or (stretch l rs (suc i) e) j (record { bytes = []; room = 0 })))
        allowed j k =
            let d : j ≤ e - suc i = omega arith in
            let p : here j ≡ picture_at l rs (suc i + j) =
            ap (after (picture_at l rs (suc i))) (stretch_take l rs (suc i) e h g j d) ∙ picture_split l rs (suc i) j in
            let r : get_or (stretch l rs (suc i) e) j (record { bytes = []; room = 0 }) ≡ record_at rs (suc i + j) = stretch_at l rs (suc i) e j k in
            rw (p, r) (a (suc i + j) (omega arith) (omega arith))
