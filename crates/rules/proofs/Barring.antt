-- No listed position has an address that an IGNORED row bars.
use Prim.Native.Nat.{ℕ, zero, suc, ◌-◌}
use mathlib.Core.Path.{◌≡◌, refl, sym, subst}
use mathlib.Core.Bool.{Bool, true, false, cond, ◌&&◌}
use mathlib.Core.List.{List, [], ◌∷◌, ◌++◌, map}
use mathlib.Core.Logic.{◌⊎◌, inl, inr}
use borrow.Author.Tests.{eqb-true}
use lib.Dec.{eqb}
use lib.ListN.{get_or, take}
use Rattle.laws.specs.Lists.{any}
use Rattle.laws.specs.Bools.{clash, on_cond, and_left, and_right, or_cases, refute}
use Rattle.laws.specs.Alls.{All, all_nil, all_cons, all_head, all_tail, all_left, all_right, all_append, all_map, all_mapped, all_of, all_everywhere, any_none, Pairwise, pairwise_nil, pairwise_head, pairwise_tail, pairwise_in, pairwise_out, pairwise_each, pairwise_always, pairwise_replicate, each_map, each_both}
use Rattle.rules.specs.Picture.{Pair, Status, WAITING, SETTING, LISTED, SILENT, IGNORED, Row, Picture, with_status, with_rows, with_state, with_delay, Kept, kept_by, has_address, keeps, in_range, bars_status, bars, is_silent, is_ignored, is_ignored_status, new_row, no_row, row_at, Seat, seat_at, others, put, fresh}
use Rattle.rules.specs.Event.{Event}
use Rattle.rules.specs.Renumber.{Renumbering, finished, renumbers, goods}
use Rattle.rules.specs.Step.{Change, scanned, scan, begin, rescanned, rescan, shut_down, change_rows, silenced, asked, delay_ends, ignored, counted, on_counted, emptied, status_after, judged_for, renumbering_for, listed_row, keep_answer}
use Rattle.rules.specs.Ending.{settled, ended, picture_of}
use Rattle.rules.specs.Run.{Record, Sent}
use Rattle.rules.specs.Claims.{picture_at, Unbarred}
use Rattle.rules.proofs.Ways.{Ways, Seated, Cleared, every_taken}
use Rattle.rules.proofs.Along.{Keeps, along}
use Rattle.rules.proofs.Sound.{kept_after, each_counted}

-- no address that the first row bars is kept by the second; and both ways
abbrev Clear : Row → Row → Type 0
Clear r s = (a : ℕ) → bars a r ≡ true → keeps a s ≡ false

abbrev BothClear : Row → Row → Type 0
BothClear r s = Clear r s × Clear s r

turn : (r s : Row) → BothClear r s → BothClear s r
turn r s h = (h.1, h.0)

-- a row never keeps what it bars
self_clear : (r : Row) → Clear r r
unfolding bars keeps bars_status kept_by has_address
self_clear r a h = go r.status h
  where
    go : (s : Status) → bars_status a s ≡ true → has_address a (kept_by s) ≡ false
    go WAITING h = refl
    go (SETTING b ps i t) h = clash h refl
    go (LISTED b ps) h = clash h refl
    go SILENT h = refl
    go (IGNORED b) h = refl

-- a row that neither bars nor keeps anything
abbrev Idle : Row → Type 0
Idle r = (a : ℕ) → (bars a r ≡ false) × (keeps a r ≡ false)

idle_clear : (r s : Row) → Idle r → BothClear r s
idle_clear r s h = (λ a b. clash b (h a).0, λ a b. (h a).1)

idle_waiting : (r : Row) → Idle (with_status WAITING r)
unfolding with_status bars keeps bars_status kept_by has_address
idle_waiting r a = (refl, refl)

idle_new : Idle new_row
unfolding new_row bars keeps bars_status kept_by has_address
idle_new a = (refl, refl)

idle_silenced : (r : Row) → Idle (silenced r)
unfolding silenced bars keeps bars_status kept_by has_address
idle_silenced r a = (refl, refl)

idle_none : Idle no_row
unfolding no_row bars keeps bars_status kept_by has_address in_range
idle_none a =
    (refute (eqb a 0 && in_range a) (λ e. clash (subst (λ (b : ℕ). in_range b ≡ true) (eqb-true a 0 (and_left (eqb a 0) (in_range a) e)) (and_right (eqb a 0) (in_range a) e)) refl), refl)

-- a row that stays, or becomes idle
abbrev Rests : Row → Row → Type 0
Rests r s = (s ≡ r) ⊎ Idle s

rests_clear : (r r' s s' : Row) → BothClear r s → Rests r r' → Rests s s' → BothClear r' s'
rests_clear r r' s s' h (inl e) (inl f) = rw (e, f) h
rests_clear r r' s s' h (inl e) (inr f) = turn s' r' (idle_clear s' r' f)
rests_clear r r' s s' h (inr e) f = idle_clear r' s' e

rests_asked : (r : Row) → Rests r (asked r)
unfolding asked
rests_asked r = on_cond (Rests r) (is_silent r) (with_status WAITING r) r (λ e. inr (idle_waiting r)) (λ e. inl refl)

-- the address that a row is IGNORED for
ignored_bars : (a b : ℕ) (r : Row) → bars b (ignored a r) ≡ true → (b ≡ a) × (in_range a ≡ true)
unfolding ignored with_status bars bars_status
ignored_bars a b r h =
    let e = eqb-true b a (and_left (eqb b a) (in_range b) h) in
    (e, subst (λ (c : ℕ). in_range c ≡ true) e (and_right (eqb b a) (in_range b) h))

ignored_keeps : (a b : ℕ) (r : Row) → keeps b (ignored a r) ≡ false
unfolding ignored with_status keeps kept_by has_address
ignored_keeps a b r = refl

abbrev Unkept : ℕ → Row → Type 0
Unkept a s = in_range a ≡ true → keeps a s ≡ false

ignored_clear : (a : ℕ) (r s : Row) → Unkept a s → BothClear (ignored a r) s
ignored_clear a r s h = (λ b e. let i = ignored_bars a b r e in rw i.0 (h i.1), λ b e. ignored_keeps a b r)

-- where a row bars an address, no row keeps it
barred_unkept : (a : ℕ) (rows : List Row) → Pairwise BothClear rows → any (bars a) rows ≡ true → All (λ (s : Row). keeps a s ≡ false) rows
unfolding any
barred_unkept a [] h e = all_nil
barred_unkept a (r ∷ rows) h e = go (or_cases (bars a r) (any (bars a) rows) e) (λ k. barred_unkept a rows (pairwise_tail h) k)
  where
    behind : (ss : List Row) → All (BothClear r) ss → any (bars a) ss ≡ true → keeps a r ≡ false
    behind [] k f = clash f refl
    behind (s ∷ ss) k f = at (or_cases (bars a s) (any (bars a) ss) f) (λ m. behind ss (all_tail k) m)
      where
        at : (bars a s ≡ true) ⊎ (any (bars a) ss ≡ true) → (any (bars a) ss ≡ true → keeps a r ≡ false) → keeps a r ≡ false
        at (inl g) m = (all_head k).1 a g
        at (inr g) m = m g

    go : (bars a r ≡ true) ⊎ (any (bars a) rows ≡ true) → (any (bars a) rows ≡ true → All (λ (s : Row). keeps a s ≡ false) rows)
        → All (λ (s : Row). keeps a s ≡ false) (r ∷ rows)
    go (inl f) m = all_cons (self_clear r a f) (all_map (λ (s : Row) (k : BothClear r s). k.0 a f) (pairwise_head h))
    go (inr f) m = all_cons (behind rows (pairwise_head h) f) (m f)

-- a row that stays, or is IGNORED for this address
abbrev Leaves : ℕ → Row → Row → Type 0
Leaves a r s = (s ≡ r) ⊎ ((t : Row) × (s ≡ ignored a t))

leaves_clear : (a : ℕ) (r r' s s' : Row) → BothClear r s → Leaves a r r' × Unkept a r' → Leaves a s s' × Unkept a s' → BothClear r' s'
leaves_clear a r r' s s' h m n = go m.0 n.0
  where
    go : Leaves a r r' → Leaves a s s' → BothClear r' s'
    go (inl e) (inl f) = rw (e, f) h
    go (inl e) (inr f) = rw f.1 (turn (ignored a f.0) r' (ignored_clear a f.0 r' m.1))
    go (inr e) f = rw e.1 (ignored_clear a e.0 s' n.1)

-- no row keeps an address that the rows which kept it were IGNORED for
abbrev Covered : (Row → Bool) → ℕ → Row → Type 0
Covered counts a r = in_range a ≡ true → keeps a r ≡ true → counts r ≡ true

covered : (counts : Row → Bool) (a : ℕ) (rest : List Row) → Cleared counts a rest → All (Covered counts a) rest
covered counts a rest (inl e) = all_of rest (λ r i. clash i e)
covered counts a rest (inr h) = all_map (λ (r : Row) (k : keeps a r ≡ true → counts r ≡ true) (i : in_range a ≡ true). k) h

covered_unkept : (counts : Row → Bool) (a : ℕ) (r : Row) → Covered counts a r → Unkept a (cond (counts r) (ignored a (counted r)) r)
covered_unkept counts a r c = go (counts r) refl
  where
    go : (b : Bool) → counts r ≡ b → Unkept a (cond b (ignored a (counted r)) r)
    go true e i = ignored_keeps a a (counted r)
    go false e i = refute (keeps a r) (λ f. clash (c i f) e)

counted_unkept : (a : ℕ) (counts : Row → Bool) (s : Seat) → Cleared counts a (others s)
    → All (Unkept a) (on_counted counts (λ (r : Row). ignored a (counted r)) s)
unfolding on_counted others
counted_unkept a counts s z =
    all_append (each s.front (all_left s.front s.back c)) (all_cons (λ e. ignored_keeps a a (counted s.row)) (each s.back (all_right s.front s.back c)))
  where
    c : All (Covered counts a) (s.front ++ s.back)
    c = covered counts a (s.front ++ s.back) z

    each : (rows : List Row) → All (Covered counts a) rows → All (Unkept a) (map (λ (r : Row). cond (counts r) (ignored a (counted r)) r) rows)
    each rows h = all_mapped (λ (r : Row). cond (counts r) (ignored a (counted r)) r) {xs = rows} (all_map (covered_unkept counts a) h)

-- a row that keeps a fine answer
listed_clear : (s : Seat) (a : ℕ) (ps : List Pair) (t : Row) → bars a t ≡ false → BothClear (listed_row s a ps) t
unfolding listed_row bars bars_status status_after has_address keeps kept_by
listed_clear s a ps t h = (λ b e. clash e (never b (renumbering_for s ps)), other)
  where
    never : (b : ℕ) (n : Renumbering) → bars_status b (status_after a (goods (judged_for s ps)) n) ≡ false
    never b finished = refl
    never b (renumbers i u c n) = refl

    differs : (b : ℕ) → bars b t ≡ true → eqb b a ≡ false
    differs b e = refute (eqb b a) (λ f. clash (subst (λ (c : ℕ). bars c t ≡ true) (eqb-true b a f) e) h)

    other : (b : ℕ) → bars b t ≡ true → keeps b (listed_row s a ps) ≡ false
    other b e = subst (λ (k : Kept). has_address b k ≡ false) (sym (kept_after a (goods (judged_for s ps)) (renumbering_for s ps))) (differs b e)

-- a row that is emptied keeps nothing
emptied_keeps : (a : ℕ) (r : Row) → keeps a (emptied r) ≡ false
unfolding emptied keeps kept_by has_address with_status is_ignored is_ignored_status
emptied_keeps a r = go r.status r.bad r.silences
  where
    go : (s : Status) (b n : ℕ) → keeps a (emptied (record { status = s; bad = b; silences = n })) ≡ false
    go WAITING b n = refl
    go (SETTING c ps i t) b n = refl
    go (LISTED c ps) b n = refl
    go SILENT b n = refl
    go (IGNORED c) b n = refl

module _ (p : Picture) (h : Pairwise BothClear p.rows) where
  seat_clear : (c x : ℕ) → Seated p c x → Pairwise BothClear (put (seat_at p.rows x) (seat_at p.rows x).row)
  seat_clear c x s = subst (Pairwise BothClear) s.split h

  others_clear : (c x : ℕ) → Seated p c x → Pairwise BothClear (others (seat_at p.rows x))
  unfolding put others
  others_clear c x s = pairwise_out (seat_at p.rows x).front (seat_at p.rows x).row (seat_at p.rows x).back (seat_clear c x s)

  put_clear : (c x : ℕ) → Seated p c x → (r : Row) → All (BothClear r) (others (seat_at p.rows x)) → Pairwise BothClear (put (seat_at p.rows x) r)
  unfolding put others
  put_clear c x s r k = pairwise_in turn (seat_at p.rows x).front r (seat_at p.rows x).back k (others_clear c x s)

  clear_ways : Ways p (λ (e : Event) (c : Change). Pairwise BothClear c.picture.rows)
  unfolding begin scan scanned rescan rescanned shut_down change_rows with_rows delay_ends keep_answer
  clear_ways =
      record {
        starts = λ n l. pairwise_replicate (n - 1) new_row (idle_clear new_row new_row idle_new);
        ring_changes = λ n l i. pairwise_replicate (n - 1) new_row (idle_clear new_row new_row idle_new);
        ring_changes_in_ok = λ n l i. pairwise_replicate (n - 1) new_row (idle_clear new_row new_row idle_new);
        shuts = pairwise_nil;
        silences = λ c x s o. put_clear c x s _ (all_of _ (λ t. idle_clear _ t (idle_silenced _)));
        delays = λ c d. pairwise_each rests_clear h (each_map Rests asked rests_asked p.rows);
        bars = λ c x a ps s o z. put_clear c x s _ (all_map (λ (t : Row) (k : keeps a t ≡ false). ignored_clear a _ t (λ i. k)) (barred_unkept a _ (others_clear c x s) z));
        ignores = λ c x a ps s o counts k z. pairwise_each (leaves_clear a) (seat_clear c x s)
            (each_both (each_counted (Leaves a) (λ r. inl refl) counts _ (λ r e. inr (counted r, refl)) (seat_at p.rows x) (inr (counted _, refl))) (counted_unkept a counts (seat_at p.rows x) z));
        restarts = λ c x a ps s o counts b l. pairwise_always BothClear emptied (λ r t. (λ d e. emptied_keeps d t, λ d e. emptied_keeps d r)) (on_counted counts counted (seat_at p.rows x));
        keeps = λ c x a ps s o k. put_clear c x s _ (all_map (λ (t : Row) (m : bars a t ≡ false). listed_clear (seat_at p.rows x) a ps t m) (any_none (bars a) _ k.unbarred));
      }

-- every taken event
clear_taken : Keeps (λ (p : Picture) (sent : List Sent). Pairwise BothClear p.rows)
unfolding picture_of ended settled with_state with_delay
clear_taken p sent e c h t q f = every_taken p _ (clear_ways p h) e c q

-- at every two positions
clear_at : (rows : List Row) (i j : ℕ) → Pairwise BothClear rows → Clear (get_or rows i no_row) (get_or rows j no_row)
clear_at [] i j h = self_clear no_row
clear_at (r ∷ rows) zero zero h = self_clear r
clear_at (r ∷ rows) zero (suc j) h = all_everywhere {P = λ (s : Row). Clear r s} j no_row (λ a e. (idle_none a).1) (all_map (λ (s : Row) (k : BothClear r s). k.0) (pairwise_head h))
clear_at (r ∷ rows) (suc i) zero h = all_everywhere {P = λ (s : Row). Clear s r} i no_row (λ a e. clash e (idle_none a).0) (all_map (λ (s : Row) (k : BothClear r s). k.1) (pairwise_head h))
clear_at (r ∷ rows) (suc i) (suc j) h = clear_at rows i j (pairwise_tail h)

clear_positions : (rows : List Row) (x y : ℕ) → Pairwise BothClear rows → Clear (row_at rows x) (row_at rows y)
unfolding row_at
clear_positions rows zero y h = λ a e. clash e (idle_none a).0
clear_positions rows (suc i) zero h = λ a e. (idle_none a).1
clear_positions rows (suc i) (suc j) h = clear_at rows i j h

-- after every record of every list
pub unbarred : (l : ℕ) (rs : List Record) → Unbarred l rs
unfolding picture_at fresh
unbarred l rs = record { unbarred = λ k x y a m b. clear_positions (picture_at l rs k).rows x y (along _ clear_taken (fresh l) [] (take k rs) pairwise_nil) a b }
