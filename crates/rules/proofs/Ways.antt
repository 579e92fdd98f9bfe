-- All the ways in which a record is taken, once: a property of every change is shown way by way, and of every record by `offered-cases`.
use Prim.Native.Nat.{ℕ, zero, suc, ◌<◌, ◌≤◌}
use mathlib.Core.Path.{◌≡◌, refl, sym, ap, subst}
use mathlib.Core.Bool.{Bool, true, false, not, ◌&&◌, ◌||◌}
use mathlib.Core.List.{List, [], ◌∷◌, map}
use mathlib.Core.Option.{Option, none, some}
use mathlib.Core.Logic.{◌⊎◌, inl, inr}
use native.Mathlib.Omega.{arith}
use borrow.Author.Tests.{ltb-false, leb-false, eqb-true}
use lib.Dec.{eqb, leb, ltb}
use lib.ListN.{length}
use lib.Seq.{split_at, length-take-le}
use Rattle.laws.specs.Lists.{any}
use Rattle.laws.specs.Bools.{clash, and_false, or_left, or_right, not_false, on_cond}
use Rattle.laws.specs.Alls.{All, all_of, all_map, any_none}
use Rattle.rules.specs.House.{min_room, max_pass}
use Rattle.rules.specs.Picture.{NotOk, is_not_ok, is_ok, Pair, Row, Picture, is_open, is_ignored, keeps, keeps_other, bars, in_range, Seat, seat_at, others, put, no_row}
use Rattle.rules.specs.Event.{Event, START, NCE, SHUTDOWN, ANSWER, NONE, DELAY, decode}
use Rattle.rules.specs.Order.{NOTOK}
use Rattle.rules.specs.Step.{Change, Response, refuse, change, refuse_if, scan, begin, rescan, network_change, shut_down, change_rows, silenced, delay_ends, Verdict, barred, outside, duplicate, changed, fine}
use Rattle.rules.specs.Step.{first_that_applies, verdict, ignored, counted, at_limit, on_counted, emptied, conflict, keep_answer, nobody, answer, takes, not_taken, no_position, respond}
use Rattle.rules.specs.Ending.{picture_of, orders_of}
use Rattle.rules.specs.Run.{Outcome, refused, taken, on_event, on_decoded, concluded, step, Record, offered}

-- a property of what is changed, if anything is
abbrev Always : (Change → Type 0) → Response → Type 0
Always P (refuse n) = Unit {0}
Always P (change c) = P c

-- a refusal whose test is decided
pub refuse_if_true : {b : Bool} (n : ℕ) (r : Response) → b ≡ true → refuse_if b n r ≡ refuse n
unfolding refuse_if
refuse_if_true n r h = ap (λ (t : Bool). refuse_if t n r) h

pub refuse_if_false : {b : Bool} (n : ℕ) (r : Response) → b ≡ false → refuse_if b n r ≡ r
unfolding refuse_if
refuse_if_false n r h = ap (λ (t : Bool). refuse_if t n r) h

always_refuse_if : (P : Change → Type 0) (b : Bool) (n : ℕ) (r : Response) → (b ≡ false → Always P r) → Always P (refuse_if b n r)
unfolding refuse_if
always_refuse_if P true n r f = tt
always_refuse_if P false n r f = f refl

-- the record names a position of the ring that is not IGNORED, and carries the current pass
pub record Seated (p : Picture) (c x : ℕ) : Type 0 where
  pub current : c ≡ p.pass
  pub split : p.rows ≡ put (seat_at p.rows x) (seat_at p.rows x).row
  pub here : x ≡ suc (length (seat_at p.rows x).front)
  pub heard : is_ignored (seat_at p.rows x).row ≡ false

-- the rows that count beside the one in the seat all keep the announced address
abbrev pub Keepers : (Row → Bool) → ℕ → Type 0
Keepers counts a = (r : Row) → counts r ≡ true → keeps a r ≡ true

-- what is known of the announced address: that an IGNORED row bars it
abbrev pub Barred : ℕ → List Row → Type 0
Barred a rest = any (bars a) rest ≡ true

-- that all other rows that keep it count, or it is out of range
abbrev pub Cleared : (Row → Bool) → ℕ → List Row → Type 0
Cleared counts a rest = (in_range a ≡ false) ⊎ All (λ (r : Row). keeps a r ≡ true → counts r ≡ true) rest

-- that nothing is wrong with it
pub record Fine (a : ℕ) (r : Row) (rest : List Row) : Type 0 where
  pub unbarred : any (bars a) rest ≡ false
  pub ranged : in_range a ≡ true
  pub unkept : any (keeps a) rest ≡ false
  pub same : keeps_other a r ≡ false

-- no counted row stands at the limit
pub record Below (counts : Row → Bool) (s : Seat) : Type 0 where
  pub row : at_limit (counted s.row) ≡ false
  pub rest : any (λ (r : Row). counts r && at_limit (counted r)) (others s) ≡ false

-- one field for each way in which an event is taken
pub record Ways (p : Picture) (P : Event → Change → Type 0) : Type 0 where
  pub starts : (n : ℕ) → p.pass < max_pass → P (START n) (begin [] n p)
  pub ring_changes : (n : ℕ) → p.pass < max_pass → is_ok p.state ≡ false → P (NCE n) (begin (NOTOK ∷ []) n p)
  pub ring_changes_in_ok : (n : ℕ) → p.pass < max_pass → is_ok p.state ≡ true → P (NCE n) (rescan n p)
  pub shuts : P SHUTDOWN (shut_down p)
  pub silences : (c x : ℕ) → Seated p c x → is_open (seat_at p.rows x).row ≡ true
      → P (NONE c x) (change_rows (put (seat_at p.rows x) (silenced (seat_at p.rows x).row)) p)
  pub delays : (c : ℕ) → p.delay ≡ true → P (DELAY c) (delay_ends p)
  pub bars : (c x a : ℕ) (ps : List Pair) → Seated p c x → (p.state ≡ NotOk → is_open (seat_at p.rows x).row ≡ true)
      → Barred a (others (seat_at p.rows x)) → P (ANSWER c x a ps) (change_rows (put (seat_at p.rows x) (ignored a (seat_at p.rows x).row)) p)
  pub ignores : (c x a : ℕ) (ps : List Pair) → Seated p c x → (p.state ≡ NotOk → is_open (seat_at p.rows x).row ≡ true)
      → (counts : Row → Bool) → Keepers counts a → Cleared counts a (others (seat_at p.rows x))
      → P (ANSWER c x a ps) (change_rows (on_counted counts (λ (r : Row). ignored a (counted r)) (seat_at p.rows x)) p)
  pub restarts : (c x a : ℕ) (ps : List Pair) → Seated p c x → (p.state ≡ NotOk → is_open (seat_at p.rows x).row ≡ true)
      → (counts : Row → Bool) → Below counts (seat_at p.rows x) → p.pass < max_pass
      → P (ANSWER c x a ps) (scan (NOTOK ∷ []) (map emptied (on_counted counts counted (seat_at p.rows x))) p)
  pub keeps : (c x a : ℕ) (ps : List Pair) → Seated p c x → (p.state ≡ NotOk → is_open (seat_at p.rows x).row ≡ true)
      → Fine a (seat_at p.rows x).row (others (seat_at p.rows x)) → P (ANSWER c x a ps) (keep_answer x a ps (seat_at p.rows x) p)

-- a position that the ring has is a seat between the rows in front of it and those behind it
seated : (p : Picture) (c x : ℕ) → not (eqb c p.pass) ≡ false → no_position p x ≡ false → is_ignored (seat_at p.rows x).row ≡ false → Seated p c x
unfolding no_position seat_at put
seated p c zero e f h = clash refl (or_left (eqb 0 0) (ltb (length p.rows) 0) f)
seated p c (suc i) e f h =
    let l : i < length p.rows = omega (arith, ltb-false (length p.rows) (suc i) (or_right (eqb (suc i) 0) (ltb (length p.rows) (suc i)) f)) in
    record {
      current = eqb-true c p.pass (not_false (eqb c p.pass) e);
      split = split_at p.rows i no_row l;
      here = ap suc (sym (length-take-le i p.rows (omega arith)));
      heard = h;
    }

open_in_notok : (p : Picture) (b : Bool) → (is_not_ok p.state && not b) ≡ false → p.state ≡ NotOk → b ≡ true
unfolding is_not_ok
open_in_notok p b h e = not_false b (and_false (is_not_ok p.state) (not b) (ap is_not_ok e) h)

room_for_pass : (n : ℕ) → leb max_pass n ≡ false → n < max_pass
room_for_pass n h = leb-false max_pass n h

nobody_keeps : (a : ℕ) → Keepers nobody a
unfolding nobody
nobody_keeps a r h = clash h refl

on_verdict : (Q : Verdict → Type 0) (rest : List Row) (r : Row) (a : ℕ) → (Barred a rest → Q barred) → (in_range a ≡ false → Q outside) → Q duplicate
    → (any (keeps a) rest ≡ false → Q changed) → (Fine a r rest → Q fine) → Q (verdict rest r a)
unfolding verdict first_that_applies
on_verdict Q rest r a b o d c f = go _ refl _ refl _ refl _ refl
  where
    go : (b₁ : Bool) → any (bars a) rest ≡ b₁ → (b₂ : Bool) → in_range a ≡ b₂ → (b₃ : Bool) → any (keeps a) rest ≡ b₃ → (b₄ : Bool)
        → keeps_other a r ≡ b₄ → Q (first_that_applies b₁ b₂ b₃ b₄)
    go true e₁ b₂ e₂ b₃ e₃ b₄ e₄ = b e₁
    go false e₁ false e₂ b₃ e₃ b₄ e₄ = o e₂
    go false e₁ true e₂ true e₃ b₄ e₄ = d
    go false e₁ true e₂ false e₃ true e₄ = c e₃
    go false e₁ true e₂ false e₃ false e₄ = f (record { unbarred = e₁; ranged = e₂; unkept = e₃; same = e₄ })

module _ (p : Picture) (P : Event → Change → Type 0) (w : Ways p P) where
  module _ (c x a : ℕ) (ps : List Pair) (s : Seated p c x) (o : p.state ≡ NotOk → is_open (seat_at p.rows x).row ≡ true) where
    in_conflict : (counts : Row → Bool) → Keepers counts a → Cleared counts a (others (seat_at p.rows x))
        → Always (P (ANSWER c x a ps)) (conflict counts a (seat_at p.rows x) p)
    unfolding conflict
    in_conflict counts k z =
        let row = at_limit (counted (seat_at p.rows x).row) in
        let rest = any (λ (r : Row). counts r && at_limit (counted r)) (others (seat_at p.rows x)) in
        on_cond (Always (P (ANSWER c x a ps))) (row || rest) _ _
        (λ h. w.ignores c x a ps s o counts k z)
        (λ h. always_refuse_if (P (ANSWER c x a ps)) _ _ _
        (λ g. w.restarts c x a ps s o counts (record { row = or_left row rest h; rest = or_right row rest h }) (room_for_pass p.pass g)))

    in_answer : Always (P (ANSWER c x a ps)) (answer (verdict (others (seat_at p.rows x)) (seat_at p.rows x).row a) x a ps (seat_at p.rows x) p)
    unfolding answer
    in_answer =
        on_verdict (λ (v : Verdict). Always (P (ANSWER c x a ps)) (answer v x a ps (seat_at p.rows x) p)) (others (seat_at p.rows x)) (seat_at p.rows x).row a
        (λ h. w.bars c x a ps s o h)
        (λ h. in_conflict _ (nobody_keeps a) (inl h))
        (in_conflict _ (λ r h. h) (inr (all_of _ (λ r h. h))))
        (λ h. in_conflict nobody (nobody_keeps a) (inr (all_map (λ (r : Row) (e : keeps a r ≡ false) (f : keeps a r ≡ true). clash f e) (any_none (keeps a) (others (seat_at p.rows x)) h))))
        (λ h. w.keeps c x a ps s o h)

  in_every_way : (e : Event) → Always (P e) (respond p e)
  unfolding respond network_change
  in_every_way (START n) = always_refuse_if (P (START n)) _ _ _ (λ h. w.starts n (room_for_pass p.pass h))
  in_every_way (NCE n) =
      always_refuse_if (P (NCE n)) _ _ _
      (λ h. on_cond (P (NCE n)) (is_ok p.state) (rescan n p) (begin (NOTOK ∷ []) n p)
      (λ e. w.ring_changes_in_ok n (room_for_pass p.pass h) e)
      (λ e. w.ring_changes n (room_for_pass p.pass h) e))
  in_every_way SHUTDOWN = w.shuts
  in_every_way (ANSWER c x a ps) =
      always_refuse_if (P (ANSWER c x a ps)) _ _ _
      (λ e. always_refuse_if (P (ANSWER c x a ps)) _ _ _
      (λ f. always_refuse_if (P (ANSWER c x a ps)) _ _ _
      (λ g. always_refuse_if (P (ANSWER c x a ps)) _ _ _
      (λ h. in_answer c x a ps (seated p c x e f g) (open_in_notok p (is_open (seat_at p.rows x).row) h)))))
  in_every_way (NONE c x) =
      always_refuse_if (P (NONE c x)) _ _ _
      (λ e. always_refuse_if (P (NONE c x)) _ _ _
      (λ f. always_refuse_if (P (NONE c x)) _ _ _
      (λ g. always_refuse_if (P (NONE c x)) _ _ _
      (λ h. w.silences c x (seated p c x e f g) (not_false (is_open (seat_at p.rows x).row) h)))))
  in_every_way (DELAY c) =
      always_refuse_if (P (DELAY c)) _ _ _ (λ e. always_refuse_if (P (DELAY c)) _ _ _ (λ f. w.delays c (not_false p.delay f)))

  -- what every way has, every event that is taken has
  pub every_taken : (e : Event) (c : Change) → respond p e ≡ change c → P e c
  every_taken e c h = subst (Always (P e)) h (in_every_way e)

-- what a record meets: a refusal, or an event that is taken and changes the picture
pub data Offered (p : Picture) (r : Record) : Outcome → Type 0 where
  was_refused : {n : ℕ} → Offered p r (refused n)
  was_taken : {c : Change} (e : Event) → decode r.bytes ≡ some e → min_room ≤ r.room → takes p.state e ≡ true → respond p e ≡ change c
      → Offered p r (taken (picture_of c) (orders_of p c))

pub offered_cases : (p : Picture) (r : Record) → Offered p r (offered p r)
unfolding step concluded refuse_if on_decoded on_event
offered_cases p r = room (ltb r.room min_room) refl
  where
    responded : (e : Event) → decode r.bytes ≡ some e → min_room ≤ r.room → takes p.state e ≡ true → (s : Response) → respond p e ≡ s
        → Offered p r (concluded p s)
    responded e d m t (refuse n) q = was_refused
    responded e d m t (change c) q = was_taken e d m t q

    table : (e : Event) → decode r.bytes ≡ some e → min_room ≤ r.room → (b : Bool) → takes p.state e ≡ b
        → Offered p r (concluded p (refuse_if (not b) (not_taken e) (respond p e)))
    table e d m true t = responded e d m t (respond p e) refl
    table e d m false t = was_refused

    event : min_room ≤ r.room → (o : Option Event) → decode r.bytes ≡ o → Offered p r (concluded p (on_decoded p o))
    event m none d = was_refused
    event m (some e) d = table e d m (takes p.state e) refl

    room : (b : Bool) → ltb r.room min_room ≡ b → Offered p r (concluded p (refuse_if b 1 (on_decoded p (decode r.bytes))))
    room true h = was_refused
    room false h = event (ltb-false r.room min_room h) (decode r.bytes) refl
