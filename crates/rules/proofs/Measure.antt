-- The measure of demand 3: every answer and every silence for an open question lowers it.
use Prim.Native.Nat.{ℕ, zero, suc, ◌+◌, ◌-◌, ◌*◌, ◌<◌, ◌≤◌, min}
use mathlib.Core.Path.{◌≡◌, refl, sym, ◌∙◌, ap, ap₂, subst}
use mathlib.Core.Bool.{Bool, true, false, cond}
use mathlib.Core.List.{List, [], ◌∷◌, ◌++◌, map}
use mathlib.Core.Option.{Option, none, some}
use native.Mathlib.Omega.{arith}
use native.Mathlib.Nat.{mul-le-mul_left}
use mathlib.Core.Logic.{◌≢◌}
use Rattle.rules.proofs.Ways.{Ways, Seated, Below, every_taken}
use Rattle.rules.proofs.Sound.{Formed, each_counted, length_put, length_counted}
use borrow.Author.Tests.{ltb-true, eqb-false}
use lib.Dec.{ltb}
use lib.ListN.{length, drop, length-drop, length-map, replicate, length-replicate}
use Rattle.laws.specs.Lists.{collect}
use Rattle.laws.specs.Bools.{clash, cond_false}
use Rattle.laws.specs.Alls.{all_of, Each, each_map, each_length}
use Rattle.laws.specs.Sums.{total, total_bound, total_each, total_lower, total_seat, total_replicate}
use Rattle.rules.specs.Event.{Event}
use Rattle.rules.specs.Claims.{Allowed}
use Rattle.rules.specs.House.{max_pairs, max_tries, max_bad}
use Rattle.rules.specs.Picture.{Pair, Status, WAITING, SETTING, LISTED, SILENT, IGNORED, Row, Picture, with_status, with_rows}
use Rattle.rules.specs.Picture.{is_open, is_open_status, is_ignored, is_ignored_status, new_row, row_at, open_at, Seat, seat_at, others, put, pairs_in}
use Rattle.rules.specs.Step.{Change, change, respond, scan, scanned, change_rows, keep_answer, silenced, ignored, counted, at_limit, on_counted, emptied, status_after, judged_for, renumbering_for, listed_row}
use Rattle.rules.specs.Renumber.{Judged, judge, Renumbering, goods, free_number, finished, renumbers, offer, renumber_from, renumber, place_of, tries_of}

-- how many answers a question can still take in this pass
unfoldable pub work_of : Status → ℕ
work_of WAITING = suc (max_pairs * max_tries)
work_of (SETTING a ps i t) = suc (max_pairs * max_tries - (max_tries * i + min max_tries t))
work_of (LISTED a ps) = 0
work_of SILENT = 0
work_of (IGNORED a) = 0

unfoldable pub work : Row → ℕ
work r = work_of r.status

-- how many restarts a row can still cause
unfoldable pub spare : Row → ℕ
spare r = cond (is_ignored r) 0 (max_bad - 1 - r.bad)

unfoldable pub level : List Row → ℕ
level rows = total work rows + length rows * suc (max_pairs * max_tries) * total spare rows

-- an open question is work, and no row is more than one whole question
pub open_work : (r : Row) → is_open r ≡ true
    → work r ≡ suc (max_pairs * max_tries - (max_tries * place_of r.status + min max_tries (tries_of r.status)))
unfolding is_open work work_of tries_of place_of is_open_status
open_work r h = go r.status h
  where
    go : (s : Status) → is_open_status s ≡ true → work_of s ≡ suc (max_pairs * max_tries - (max_tries * place_of s + min max_tries (tries_of s)))
    go WAITING h = refl
    go (SETTING a ps i t) h = refl
    go (LISTED a ps) h = clash h refl
    go SILENT h = clash h refl
    go (IGNORED a) h = clash h refl

work_bound : (r : Row) → work r ≤ suc (max_pairs * max_tries)
unfolding work work_of
work_bound r = go r.status
  where
    go : (s : Status) → work_of s ≤ suc (max_pairs * max_tries)
    go WAITING = omega arith
    go (SETTING a ps i t) = omega arith
    go (LISTED a ps) = omega arith
    go SILENT = omega arith
    go (IGNORED a) = omega arith

-- where a renumbering stops: behind where it began, in the answer, with a try that it had left
abbrev Advances : (place tries limit : ℕ) → Renumbering → Type 0
Advances place tries limit finished = Unit {0}
Advances place tries limit (renumbers i t a n) = (place ≤ i) × (i < limit) × (t ≤ max_tries) × (max_tries * place + min max_tries tries < max_tries * i + t)

further : (place tries limit : ℕ) (n : Renumbering) → Advances (suc place) 0 (suc place + limit) n → Advances place tries (place + suc limit) n
further place tries limit finished h = tt
further place tries limit (renumbers i t a n) h = (omega (arith, h.0), omega (arith, h.1), h.2, omega (arith, h.3))

advances : (free : ℕ → Option ℕ) (place tries : ℕ) (js : List Judged) → Advances place tries (place + length js) (renumber_from free place tries js)
unfolding renumber_from offer
advances free place tries [] = tt
advances free place tries (j ∷ js) =
    good j.good (renumber_from free (suc place) 0 js) (further place tries (length js) (renumber_from free (suc place) 0 js) (advances free (suc place) 0 js))
  where
    offered : (o : Option ℕ) (later : Renumbering) → tries < max_tries → Advances place tries (place + suc (length js)) later
        → Advances place tries (place + suc (length js)) (offer place tries j.pair o later)
    offered none later l h = h
    offered (some n) later l h = (omega arith, omega arith, omega arith, omega arith)

    bad : (b : Bool) (later : Renumbering) → ltb tries max_tries ≡ b → Advances place tries (place + suc (length js)) later
        → Advances place tries (place + suc (length js)) (cond b (offer place tries j.pair (free j.pair.block) later) later)
    bad true later l h = offered (free j.pair.block) later (ltb-true tries max_tries l) h
    bad false later l h = h

    good : (b : Bool) (later : Renumbering) → Advances place tries (place + suc (length js)) later
        → Advances place tries (place + suc (length js)) (cond b later (cond (ltb tries max_tries) (offer place tries j.pair (free j.pair.block) later) later))
    good true later h = h
    good false later h = bad (ltb tries max_tries) later refl h

judge_length : (elsewhere earlier ps : List Pair) → length (judge elsewhere earlier ps) ≡ length ps
unfolding judge
judge_length elsewhere earlier [] = refl
judge_length elsewhere earlier (a ∷ ps) = ap suc (judge_length elsewhere (a ∷ earlier) ps)

-- an answer to an open question leaves less to answer
answer_lowers : (s : Seat) (a : ℕ) (ps : List Pair) → length ps ≤ max_pairs → is_open s.row ≡ true → work (listed_row s a ps) < work s.row
unfolding listed_row renumbering_for judged_for renumber work work_of status_after
answer_lowers s a ps l o = rw (open_work s.row o) (go (renumbering_for s ps) (rw (length-drop, judge_length) at (advances (free_number (collect pairs_in (others s)) ps) place tries (drop place js))))
  where
    place : ℕ
    place = place_of s.row.status

    tries : ℕ
    tries = tries_of s.row.status

    js : List Judged
    js = judge (collect pairs_in (others s)) [] ps

    go : (n : Renumbering) → Advances place tries (place + (length ps - place)) n
        → work (record { status = status_after a (goods js) n; bad = s.row.bad; silences = 0 }) < suc (max_pairs * max_tries - (max_tries * place + min max_tries tries))
    go finished h = omega arith
    go (renumbers i t b n) h = omega (arith, h.0, h.1, h.2, h.3)

-- a row that takes no more answers and causes no more restarts than before
abbrev Lower : Row → Row → Type 0
Lower r s = (work s ≤ work r) × (spare s ≤ spare r)

level_lower : (rows rows' : List Row) → length rows' ≡ length rows → total work rows' < total work rows
    → total spare rows' ≤ total spare rows → level rows' < level rows
unfolding level
level_lower rows rows' e h k = rw e (omega (arith, mul-le-mul_left (length rows * suc (max_pairs * max_tries)) k))

level_restart : (rows rows' : List Row) → length rows' ≡ length rows → 1 ≤ total work rows → total spare rows' < total spare rows
    → level rows' < level rows
unfolding level
level_restart rows rows' e h k =
    let b : total work rows' ≤ length rows' * suc (max_pairs * max_tries) = total_bound work (suc (max_pairs * max_tries)) (all_of rows' work_bound) in
    rw e (omega (arith, mul-le-mul_left (length rows * suc (max_pairs * max_tries)) k, rw e at b))

lower_spare : (r s : Row) → Lower r s → spare s ≤ spare r
lower_spare r s h = h.1

lower_same : (r : Row) → Lower r r
lower_same r = (omega arith, omega arith)

spare_heard : (r : Row) → is_ignored r ≡ false → spare r ≡ max_bad - 1 - r.bad
unfolding spare
spare_heard r h = cond_false 0 (max_bad - 1 - r.bad) h

-- a row that is IGNORED has nothing left
lower_ignored : (a : ℕ) (r s : Row) → Lower r (ignored a s)
unfolding ignored with_status work work_of spare is_ignored is_ignored_status
lower_ignored a r s = (omega arith, omega arith)

ignored_work : (a : ℕ) (r s : Row) → is_open r ≡ true → work (ignored a s) < work r
unfolding ignored with_status work work_of
ignored_work a r s o = let e = open_work r o in omega arith

-- a row that is SILENT has no work left, and keeps its bad count
lower_silenced : (r : Row) → is_ignored r ≡ false → spare (silenced r) ≤ spare r
unfolding silenced spare is_ignored is_ignored_status
lower_silenced r h = rw (spare_heard r h) (omega arith)

silenced_work : (r : Row) → is_open r ≡ true → work (silenced r) < work r
unfolding silenced work work_of
silenced_work r o = let e = open_work r o in omega arith

lower_listed : (s : Seat) (a : ℕ) (ps : List Pair) → is_ignored s.row ≡ false → spare (listed_row s a ps) ≤ spare s.row
unfolding listed_row spare is_ignored is_ignored_status status_after
lower_listed s a ps h = rw (spare_heard s.row h) (go (renumbering_for s ps))
  where
    go : (n : Renumbering) → spare (record { status = status_after a (goods (judged_for s ps)) n; bad = s.row.bad; silences = 0 }) ≤ max_bad - 1 - s.row.bad
    go finished = omega arith
    go (renumbers i t b n) = omega arith

-- to be emptied changes no count
emptied_spare : (r : Row) → spare (emptied r) ≡ spare r
unfolding emptied with_status spare is_ignored is_ignored_status
emptied_spare r = go (is_ignored r) refl
  where
    go : (b : Bool) → is_ignored r ≡ b → spare (cond b r (with_status WAITING r)) ≡ spare r
    go true e = refl
    go false e = sym (spare_heard r e)

-- a counted row has no restart more, and one less if it is not IGNORED and stays below the limit
counted_spare : (r : Row) → spare (counted r) ≤ spare r
unfolding spare counted is_ignored
counted_spare r = go (is_ignored r)
  where
    go : (b : Bool) → cond b 0 (max_bad - 1 - min max_bad (suc r.bad)) ≤ cond b 0 (max_bad - 1 - r.bad)
    go true = omega arith
    go false = omega arith

counted_falls : (r : Row) → is_ignored r ≡ false → at_limit (counted r) ≡ false → spare (counted r) < spare r
unfolding counted at_limit is_ignored
counted_falls r h l =
    let ne : min max_bad (suc r.bad) ≢ max_bad = eqb-false (min max_bad (suc r.bad)) max_bad l in
    rw (spare_heard r h, spare_heard (counted r) h) (omega arith)

total_emptied : (rows : List Row) → total spare (map emptied rows) ≡ total spare rows
unfolding total
total_emptied [] = refl
total_emptied (r ∷ rows) = ap₂ ◌+◌ (emptied_spare r) (total_emptied rows)

-- the rows where those that count change, weighed
total_changed : (w : Row → ℕ) (counts : Row → Bool) (f : Row → Row) → ((r : Row) → w (f r) ≤ w r) → (s : Seat) → w (f s.row) < w s.row
    → total w (on_counted counts f s) < total w (put s s.row)
unfolding on_counted put
total_changed w counts f h s k =
    total_lower w s.front _ s.row (f s.row) s.back _ (lower s.front) k (lower s.back)
  where
    one : (b : Bool) (r : Row) → w (cond b (f r) r) ≤ w r
    one true r = h r
    one false r = omega arith

    lower : (rows : List Row) → total w (map (λ (r : Row). cond (counts r) (f r) r) rows) ≤ total w rows
    lower rows = total_each w (λ (r t : Row) (e : w t ≤ w r). e) (each_map (λ (r t : Row). w t ≤ w r) _ (λ r. one (counts r) r) rows)

-- one row changes
put_falls : (t : Seat) (r : Row) → work r < work t.row → spare r ≤ spare t.row → level (put t r) < level (put t t.row)
unfolding put
put_falls t r h k =
    level_lower (t.front ++ t.row ∷ t.back) (t.front ++ r ∷ t.back) (sym (length_put t r))
    (total_lower work t.front t.front t.row r t.back t.back (omega arith) h (omega arith))
    (omega (arith, total_seat spare t.front r t.back, total_seat spare t.front t.row t.back))

-- a row is IGNORED, and others with it
ignoring_falls : (t : Seat) (a : ℕ) (counts : Row → Bool) → is_open t.row ≡ true
    → level (on_counted counts (λ (r : Row). ignored a (counted r)) t) < level (put t t.row)
ignoring_falls t a counts o =
    let each : Each Lower (put t t.row) (on_counted counts (λ (r : Row). ignored a (counted r)) t) =
    each_counted Lower lower_same counts (λ (r : Row). ignored a (counted r)) (λ r e. lower_ignored a r (counted r)) t (lower_ignored a t.row (counted t.row)) in
    level_lower (put t t.row) (on_counted counts (λ (r : Row). ignored a (counted r)) t) (sym (each_length each))
    (total_changed work counts (λ (r : Row). ignored a (counted r)) (λ r. (lower_ignored a r (counted r)).0) t (ignored_work a t.row (counted t.row) o))
    (total_each spare lower_spare each)

-- the ring restarts
restarting_falls : (t : Seat) (counts : Row → Bool) → is_open t.row ≡ true → is_ignored t.row ≡ false → Below counts t
    → level (map emptied (on_counted counts counted t)) < level (put t t.row)
unfolding put
restarting_falls t counts o i b =
    let w = open_work t.row o in
    level_restart (put t t.row) (map emptied (on_counted counts counted t)) (length-map (on_counted counts counted t) emptied ∙ sym (length_counted counts counted t))
    (omega (arith, total_seat work t.front t.row t.back))
    (rw total_emptied (total_changed spare counts counted counted_spare t (counted_falls t.row i b.row)))

module _ (p : Picture) where
  onto : (c x : ℕ) → Seated p c x → (rows : List Row) → level rows < level (put (seat_at p.rows x) (seat_at p.rows x).row)
      → level rows < level p.rows
  onto c x s rows h = subst (λ (l : List Row). level rows < level l) (sym s.split) h

  open_here : (x : ℕ) → open_at p x ≡ true → is_open (seat_at p.rows x).row ≡ true
  unfolding open_at row_at seat_at
  open_here zero h = h
  open_here (suc i) h = h

  falls_ways : Ways p (λ (e : Event) (c : Change). Allowed p (some e) → Formed e → level c.picture.rows < level p.rows)
  unfolding change_rows with_rows keep_answer scan scanned
  falls_ways =
      record {
        starts = λ n l h. absurd h;
        ring_changes = λ n l i h. absurd h;
        ring_changes_in_ok = λ n l i h. absurd h;
        shuts = λ h. absurd h;
        silences = λ c x s o h f. onto c x s _ (put_falls _ _ (silenced_work _ o) (lower_silenced _ s.heard));
        delays = λ c d h. absurd h;
        bars = λ c x a ps s o z h f. onto c x s _ (put_falls _ _ (ignored_work a _ _ (open_here x h)) (lower_ignored a _ _).1);
        ignores = λ c x a ps s o counts k z h f. onto c x s _ (ignoring_falls _ a counts (open_here x h));
        restarts = λ c x a ps s o counts b l h f. onto c x s _ (restarting_falls _ counts (open_here x h) s.heard b);
        keeps = λ c x a ps s o k h f. onto c x s _ (put_falls _ _ (answer_lowers (seat_at p.rows x) a ps f (open_here x h)) (lower_listed (seat_at p.rows x) a ps s.heard));
      }

  -- an answer or a silence that is taken for an open question lowers the level
  pub falls : (e : Event) (c : Change) → respond p e ≡ change c → Allowed p (some e) → Formed e → level c.picture.rows < level p.rows
  falls = every_taken p _ falls_ways

-- where a ring of N positions begins
pub level_begins : (n : ℕ) → 1 ≤ n → level (replicate (n - 1) new_row) ≡ suc (max_pairs * max_tries) * (n - 1) * (2 * n - 1)
unfolding level new_row work work_of spare is_ignored is_ignored_status
level_begins n h =
    let e : 2 * n - 1 ≡ suc (2 * (n - 1)) = omega arith in
    rw (e, total_replicate work, total_replicate spare, length-replicate) (go (n - 1))
  where
    go : (m : ℕ) → m * suc (max_pairs * max_tries) + m * suc (max_pairs * max_tries) * (m * (max_bad - 1)) ≡ suc (max_pairs * max_tries) * m * suc (2 * m)
    go m = omega arith
