-- The claim of ticket 7: while the master is OK, what the unit keeps is listed.
use Prim.Native.Nat.{ℕ, zero, suc, ◌-◌, ◌≤◌}
use mathlib.Core.Path.{◌≡◌, refl, sym, ◌∙◌, ap, subst}
use mathlib.Core.Bool.{Bool, true, false, cond, not, ◌&&◌, ◌||◌}
use mathlib.Core.List.{List, [], ◌∷◌, ◌++◌}
use mathlib.Core.Logic.{◌⊎◌, inl, inr}
use native.Mathlib.Omega.{arith}
use borrow.Author.Tests.{eq-eqb}
use lib.Dec.{eqb}
use lib.ListN.{replicate}
use Rattle.laws.specs.Lists.{any}
use Rattle.laws.specs.Bools.{clash, and_true, or_true_left, or_true_right, cond_true, cond_same}
use Rattle.laws.specs.Alls.{All, all_nil, all_map, all_both, all_of, Each, each_map, any_left, any_right}
use Rattle.rules.specs.Picture.{State, Off, NotOk, Ok, is_not_ok, is_ok, Pair, same_pair, Row, Picture, with_rows, with_state, with_delay, is_open, is_open_status, new_row, seat_at, put, fresh}
use Rattle.rules.specs.Event.{Event}
use Rattle.rules.specs.Order.{Order, NOTOK, INVALID}
use Rattle.rules.specs.Listing.{Entry, Lookup, found, not_found, listing, listed_pairs, first_of, look_up, lookup_address}
use Rattle.rules.specs.Step.{Packing, rows_separately, Change, asks, scanned, scan, begin, rescanned, rescan, shut_down, change_rows, asked, delay_ends, listed_row, keep_answer}
use Rattle.rules.specs.Ending.{becomes_ok, settled, ok_order, lost, tell_rows, told_by, told, ended, end_orders, orders_of, picture_of}
use Rattle.rules.specs.Run.{Outcome, Record, offered, left, written, next}
use Rattle.rules.proofs.Ways.{Ways, every_taken, Seated, Offered, was_refused, was_taken, offered_cases}
use Rattle.rules.proofs.Sound.{Sound, sound_ways, each_put, each_counted}
use Rattle.rules.proofs.Decode.{formed}
use Rattle.rules.proofs.Runs.{running_fresh}
use Rattle.rules_unit.specs.Reading.{orders_from, orders_in}
use Rattle.rules_unit.specs.Slave.{Known, Slave, make, with_known, learn, turned, lived}
use Rattle.rules_unit.specs.Bench.{Bench, Act, offers, readings, act, acted, fresh_bench}
use Rattle.rules_unit.specs.Bench as benches
use Rattle.rules_unit.specs.Claims.{matches, IsListed, Coherent}
use Rattle.rules_unit.proofs.Hearing.{heard_all, names, read_all, heard_pass, heard_keeps, heard_unnamed, emptied_by_notok, emptied_by_pass}
use Rattle.rules_unit.proofs.Memory.{remember_all}
use Rattle.rules_unit.proofs.Telling.{lists, listed_rows_lem, listed_pair, in_told, Stays, listed_or_told, stays_same, stays_silenced, stays_ignored, stays_out, stays_asked, stays_listed}

-- what each state says of a kept answer: nothing, that there is none, that it is listed
abbrev Claimed : State → Picture → Known → Type 0
Claimed Off p k = Unit {0}
Claimed NotOk p k = ⊥
Claimed Ok p k = IsListed p k

-- master and unit agree
record Agrees (p : Picture) (u : Slave) : Type 0 where
  pub sound : Sound p
  pub pass : u.pass ≤ p.pass
  pub known : All (Claimed p.state p) u.known

-- after an event the unit's pass is not ahead, and its answers are as the state says
abbrev After : Picture → Slave → Change → Type 0
After p u c = (u.pass ≤ c.picture.pass) × All (Claimed (picture_of c).state (picture_of c)) (heard_all c.picture.pass u (orders_of p c)).known

-- what an event tells is among its orders
told_orders : (f : Order → Bool) (p : Picture) (c : Change) → any f (told c.packing p c.picture) ≡ true → any f (orders_of p c) ≡ true
unfolding orders_of
told_orders f p c h =
    let t = told c.packing p c.picture in
    any_left f (c.first ++ t ++ c.set) (end_orders c.picture) (any_left f (c.first ++ t) c.set (any_right f c.first t h))

-- a START asks somebody or says OK
start_orders : (p : Picture) (k : ℕ) → any (λ (o : Order). true) (orders_of p (scan [] (replicate k new_row) p)) ≡ true
unfolding orders_of scan scanned asks is_open is_open_status new_row any end_orders ok_order becomes_ok is_not_ok
start_orders p zero = any_right (λ (o : Order). true) (told rows_separately p (scanned [] p) ++ []) (end_orders (scanned [] p)) refl
start_orders p (suc k) = refl

-- in OK no ending leaves it, and rows are told separately
ok_ends : (c : Change) → c.picture.state ≡ Ok → (picture_of c).state ≡ Ok
unfolding picture_of ended settled with_state with_delay becomes_ok
ok_ends c e = ap (λ (s : State). cond (is_not_ok s && not (any is_open c.picture.rows)) Ok s) e ∙ cond_ok
  where
    cond_ok : cond (is_not_ok Ok && not (any is_open c.picture.rows)) Ok Ok ≡ Ok
    cond_ok = cond_same (is_not_ok Ok && not (any is_open c.picture.rows)) Ok

off_ends : (c : Change) → c.picture.state ≡ Off → (picture_of c).state ≡ Off
unfolding picture_of ended settled with_state with_delay becomes_ok is_not_ok
off_ends c e = ap (λ (s : State). cond (is_not_ok s && not (any is_open c.picture.rows)) Ok s) e

told_in_ok : (f : Order → Bool) (p : Picture) (c : Change) → p.state ≡ Ok → c.picture.state ≡ Ok → any f (told_by c.packing p c.picture) ≡ true
    → any f (orders_of p c) ≡ true
unfolding told is_ok
told_in_ok f p c s t h =
    told_orders f p c (ap (any f) (cond_true _ [] (and_true (is_ok p.state) (is_ok c.picture.state) (ap is_ok s) (ap is_ok t))) ∙ h)

is_ok_lem : (s : State) → is_ok s ≡ true → s ≡ Ok
unfolding is_ok
is_ok_lem Off h = clash h refl
is_ok_lem NotOk h = clash h refl
is_ok_lem Ok h = refl

-- the ending leaves rows, pass and L
pictured : (c : Change) → Sound c.picture → Sound (picture_of c)
unfolding picture_of ended settled with_state with_delay
pictured c h = record { rows = h.rows; pass = h.pass; size = h.size }

module _ (p : Picture) (u : Slave) (h : Agrees p u) where
  -- an answer that was listed and is named by no order
  left_over : p.state ≡ Ok → (c : Change) → All (λ (k : Known). IsListed p k × (any (names k) (orders_of p c) ≡ false)) (heard_all c.picture.pass u (orders_of p c)).known
  left_over s c =
      all_both (heard_keeps c.picture.pass u (orders_of p c) (subst (λ (t : State). All (Claimed t p) u.known) s h.known))
      (heard_unnamed c.picture.pass u (orders_of p c))

  size : 3 ≤ p.size
  size = omega (arith, h.sound.size)

  -- a scan that begins with NOTOK empties the unit, and so does any order of a new pass
  starts : (n : ℕ) → After p u (begin [] n p)
  unfolding begin scan scanned
  starts n = (omega (arith, h.pass), emptied_by_pass (suc p.pass) u (orders_of p (begin [] n p)) (omega (arith, h.pass)) (start_orders p (n - 1)))

  scans : (rows : List Row) → After p u (scan (NOTOK ∷ []) rows p)
  unfolding scan scanned orders_of
  scans rows = (omega (arith, h.pass), emptied_by_notok (suc p.pass) u _)

  -- an NCE in OK names all that was listed
  rescans : (n : ℕ) → is_ok p.state ≡ true → After p u (rescan n p)
  unfolding rescan rescanned told_by listed_pairs
  rescans n o =
      let s = is_ok_lem p.state o in (
        omega (arith, h.pass),
        all_map
            (λ k e. clash (told_in_ok (names k) p (rescan n p) s refl (in_told k p.size (listed_pairs p) size (listed_pair k (listing p) e.0))) e.1)
            (left_over s (rescan n p)),
      )

  shuts : After p u (shut_down p)
  unfolding shut_down picture_of ended settled with_state with_delay becomes_ok is_not_ok
  shuts = (h.pass, all_of _ (λ k. tt))

  -- any other event changes rows that keep their address or no pairs, and in OK tells what they lose
  changes : (c : Change) → c.picture.pass ≡ p.pass → c.picture.state ≡ p.state → c.picture.size ≡ p.size → c.packing ≡ rows_separately
      → Each Stays p.rows c.picture.rows → After p u c
  unfolding listing picture_of ended settled with_state with_delay told_by
  changes c n s z r e = (omega (arith, h.pass, n), go p.state refl)
    where
      K : List Known
      K = (heard_all c.picture.pass u (orders_of p c)).known

      still : p.state ≡ Ok → (k : Known) → IsListed p k × (any (names k) (orders_of p c) ≡ false) → IsListed (picture_of c) k
      still f k m =
          listed_rows_lem k 1 c.picture.rows
          ∙ either (listed_or_told k c.picture.size (omega (arith, size, z)) e (sym (listed_rows_lem k 1 p.rows) ∙ m.0))
        where
          either : (any (lists k) c.picture.rows ≡ true) ⊎ (any (names k) (tell_rows INVALID lost c.picture.size p.rows c.picture.rows) ≡ true)
              → any (lists k) c.picture.rows ≡ true
          either (inl l) = l
          either (inr l) =
              clash
              (told_in_ok (names k) p c f (s ∙ f) (subst (λ (q : Packing). any (names k) (told_by q p c.picture) ≡ true) (sym r) (any_left (names k) (tell_rows INVALID lost c.picture.size p.rows c.picture.rows) _ l)))
              m.1

      go : (t : State) → p.state ≡ t → All (Claimed (picture_of c).state (picture_of c)) K
      go Off f = subst (λ (t : State). All (Claimed t (picture_of c)) K) (sym (off_ends c (s ∙ f))) (all_of K (λ k. tt))
      go NotOk f =
          all_map (λ k b. absurd b)
          (heard_keeps c.picture.pass u (orders_of p c) (subst (λ (t : State). All (Claimed t p) u.known) f h.known))
      go Ok f = subst (λ (t : State). All (Claimed t (picture_of c)) K) (sym (ok_ends c (s ∙ f))) (all_map (still f) (left_over f c))

  seat_changes : (c x : ℕ) → Seated p c x → (rows : List Row) → Each Stays (put (seat_at p.rows x) (seat_at p.rows x).row) rows → After p u (change_rows rows p)
  unfolding change_rows with_rows
  seat_changes c x s rows e = changes (change_rows rows p) refl refl refl refl (subst (λ (l : List Row). Each Stays l rows) (sym s.split) e)

  ways : Ways p (λ (e : Event) (c : Change). After p u c)
  unfolding begin delay_ends keep_answer with_rows
  ways =
      record {
        starts = λ n l. starts n;
        ring_changes = λ n l i. scans _;
        ring_changes_in_ok = λ n l i. rescans n i;
        shuts = shuts;
        silences = λ c x s o. seat_changes c x s _ (each_put Stays stays_same (seat_at p.rows x) _ (stays_silenced _));
        delays = λ c d. changes (delay_ends p) refl refl refl refl (each_map Stays asked stays_asked p.rows);
        bars = λ c x a ps s o z. seat_changes c x s _ (each_put Stays stays_same (seat_at p.rows x) _ (stays_ignored a _));
        ignores = λ c x a ps s o counts k z. seat_changes c x s _ (each_counted Stays stays_same counts _ (λ r e. stays_out a r) (seat_at p.rows x) (stays_out a _));
        restarts = λ c x a ps s o counts b l. scans _;
        keeps = λ c x a ps s o k.
            changes (keep_answer x a ps (seat_at p.rows x) p) refl refl refl refl
            (subst (λ (l : List Row). Each Stays l (put (seat_at p.rows x) (listed_row (seat_at p.rows x) a ps))) (sym s.split)
            (each_put Stays stays_same (seat_at p.rows x) _ (stays_listed (seat_at p.rows x) a ps k.same)));
      }

  -- one record, and all its orders read
  offered_agrees : (r : Record) → Agrees (next p r) (lived u (readings (written (offered p r))))
  unfolding left written readings orders_in orders_from lived picture_of ended settled with_state with_delay
  offered_agrees r = go (offered_cases p r)
    where
      go : {o : Outcome} → Offered p r o → Agrees (left p o) (lived u (readings (written o)))
      go was_refused = h
      go (was_taken {c} e d m t q) =
          let w : After p u c = every_taken p _ ways e c q in
          let sound = pictured c (every_taken p _ (sound_ways p h.sound) e c q (formed r.bytes e d)) in
          subst (Agrees (picture_of c)) (sym (read_all (picture_of c).pass sound.pass u (orders_of p c)))
          (record { sound = sound; pass = heard_pass (picture_of c).pass u (orders_of p c) w.0; known = w.1 })

-- what is found is in the listing
is_found : Lookup → Bool
is_found (found x b) = true
is_found (not_found n) = false

not_found_lem : {X : Type 0} {n x b : ℕ} → not_found n ≡ found x b → X
unfolding is_found
not_found_lem h = clash refl (sym (ap is_found h))

found_listed : (a : Pair) (x b : ℕ) (es : List Entry) → first_of a es ≡ found x b → any (matches (record { pair = a; address = b })) es ≡ true
unfolding first_of any matches lookup_address
found_listed a x b [] h = not_found_lem h
found_listed a x b (e ∷ es) h = go (same_pair a e.pair) refl h (found_listed a x b es)
  where
    go : (t : Bool) → same_pair a e.pair ≡ t → cond t (found e.position e.address) (first_of a es) ≡ found x b
        → (first_of a es ≡ found x b → any (matches (record { pair = a; address = b })) es ≡ true)
        → ((same_pair a e.pair && eqb b e.address) || any (matches (record { pair = a; address = b })) es) ≡ true
    go true q f later = or_true_left _ _ (and_true (same_pair a e.pair) (eqb b e.address) q (eq-eqb b e.address (sym (ap lookup_address f))))
    go false q f later = or_true_right (same_pair a e.pair && eqb b e.address) _ (later f)

module _ (p : Picture) (u : Slave) (h : Agrees p u) where
  -- one look-up, and its answer learned
  looked_up : (a : Pair) (l : Lookup) → look_up p a ≡ l → Agrees p (learn a l u)
  unfolding learn with_known look_up is_ok
  looked_up a (not_found n) e = h
  looked_up a (found x b) e =
      record { sound = h.sound; pass = h.pass; known = remember_all _ u.known (claimed p.state refl) h.known }
    where
      here : {s : State} → p.state ≡ s → cond (is_ok s) (first_of a (listing p)) (not_found 18) ≡ found x b
      here f = ap (λ (t : State). cond (is_ok t) (first_of a (listing p)) (not_found 18)) (sym f) ∙ e

      claimed : (s : State) → p.state ≡ s → Claimed p.state p (record { pair = a; address = b })
      claimed Off f = not_found_lem (here f)
      claimed NotOk f = not_found_lem (here f)
      claimed Ok f = subst (λ (t : State). Claimed t p (record { pair = a; address = b })) (sym f) (found_listed a x b (listing p) (here f))

-- any list of records and look-ups
acts_agree : (b : Bench) (acts : List Act) → Agrees b.master b.unit → Agrees (acted b acts).master (acted b acts).unit
unfolding acted act turned
acts_agree b [] h = h
acts_agree b (offers r ∷ acts) h = acts_agree (act b (offers r)) acts (offered_agrees b.master b.unit h r)
acts_agree b (benches.asks a ∷ acts) h = acts_agree (act b (benches.asks a)) acts (looked_up b.master b.unit h a (look_up b.master a) refl)

pub coherent : (l x a : ℕ) (pairs : List ℕ) (acts : List Act) → Coherent l x a pairs acts
unfolding fresh_bench make fresh
coherent l x a pairs acts =
    record { listed = λ s. subst (λ (t : State). All (Claimed t (acted b acts).master) (acted b acts).unit.known) s (acts_agree b acts first).known }
  where
    b : Bench
    b = fresh_bench l x a pairs

    first : Agrees b.master b.unit
    first = record { sound = (running_fresh l).sound; pass = omega arith; known = all_nil }
