-- Every open question is of the current pass: what a change opens it also asks, and a new pass asks all that is open.
use Prim.Native.Nat.{ℕ, zero, suc, ◌+◌}
use mathlib.Core.Path.{◌≡◌, refl, sym, ◌∙◌, ap, subst}
use mathlib.Core.Bool.{Bool, true, false, cond}
use mathlib.Core.List.{List, [], ◌∷◌, ◌++◌, map}
use mathlib.Core.Logic.{◌⊎◌, inl, inr}
use native.Mathlib.Omega.{arith}
use native.Mathlib.Numerals.{one-add}
use borrow.Author.Tests.{eq-eqb, eqb-true, eqb-false}
use lib.Dec.{eqb}
use lib.ListN.{length, get_or}
use lib.Seq.{get_or-append_seam}
use Rattle.laws.specs.Lists.{any}
use Rattle.laws.specs.Bools.{clash, decide, or_true_left, or_true_right, cond_false}
use Rattle.laws.specs.Alls.{Each, each_map, each_at, any_left, any_right}
use Rattle.rules.specs.Picture.{Pair, WAITING, Row, Picture, with_status, with_rows, is_open, is_open_status, is_silent, is_silent_status, no_row, row_at, open_at, Seat, seat_at, put}
use Rattle.rules.specs.Event.{Event}
use Rattle.rules.specs.Order.{Order, ASK, NOTOK}
use Rattle.rules.specs.Renumber.{Renumbering, finished, renumbers, goods}
use Rattle.rules.specs.Step.{Change, asks, scanned, scan, begin, rescanned, rescan, shut_down, change_rows, silenced, asked, delay_ends, ignored, counted, status_after, set_order, judged_for, renumbering_for, listed_row, keep_answer}
use Rattle.rules.specs.Claims.{is_for}
use Rattle.rules.proofs.Ways.{Ways, Seated}
use Rattle.rules.proofs.Sound.{each_put, each_counted}

-- the position is asked by one of these orders
abbrev pub asks_for : List Order → ℕ → Bool
asks_for os x = any (is_for x) os

-- the ASKs of the rows that pass a test reach each of them
asks_reach : (f : Row → Bool) (k : ℕ) (rows : List Row) (i : ℕ) → f no_row ≡ false → f (get_or rows i no_row) ≡ true
    → asks_for (asks f k rows) (k + i) ≡ true
unfolding asks any is_for
asks_reach f k [] i n h = clash h n
asks_reach f k (r ∷ rows) zero n h = rw h (or_true_left (eqb (k + 0) k) _ (eq-eqb (k + 0) k (omega arith)))
asks_reach f k (r ∷ rows) (suc i) n h =
    let e : suc k + i ≡ k + suc i = omega arith in
    go (f r) (rw e at (asks_reach f (suc k) rows i n h))
  where
    go : (b : Bool) → asks_for (asks f (suc k) rows) (k + suc i) ≡ true
        → asks_for (cond b (ASK k ∷ asks f (suc k) rows) (asks f (suc k) rows)) (k + suc i) ≡ true
    go true h = or_true_right (eqb (k + suc i) k) _ h
    go false h = h

no_row_open : is_open no_row ≡ false
unfolding is_open no_row is_open_status
no_row_open = refl

no_row_silent : is_silent no_row ≡ false
unfolding is_silent no_row is_silent_status
no_row_silent = refl

-- what becomes of each question: it is asked in this event, or it was open before and the pass is the same
abbrev pub Asked : Picture → Change → ℕ → Type 0
Asked p c x = (asks_for (c.first ++ c.set) x ≡ true) ⊎ ((c.picture.pass ≡ p.pass) × (open_at p x ≡ true))

same_pass_lem : {A B : Type 0} {n : ℕ} → A ⊎ B → A ⊎ ((n ≡ n) × B)
same_pass_lem (inl a) = inl a
same_pass_lem (inr b) = inr (refl, b)

pub nothing_open : (x : ℕ) → is_open (row_at [] x) ≡ false
unfolding row_at
nothing_open zero = no_row_open
nothing_open (suc i) = no_row_open

-- a row that is open only if it was
abbrev Closes : Row → Row → Type 0
Closes r s = is_open s ≡ true → is_open r ≡ true

closes_same : (r : Row) → Closes r r
closes_same r h = h

closes_silenced : (r : Row) → Closes r (silenced r)
unfolding silenced is_open is_open_status
closes_silenced r h = clash h refl

closes_ignored : (a : ℕ) (r s : Row) → Closes r (ignored a s)
unfolding ignored with_status is_open is_open_status
closes_ignored a r s h = clash h refl

closes_at : (rows rows' : List Row) (x : ℕ) → Each Closes rows rows' → is_open (row_at rows' x) ≡ true → is_open (row_at rows x) ≡ true
unfolding row_at
closes_at rows rows' zero h o = o
closes_at rows rows' (suc i) h o = each_at no_row no_row i (closes_same no_row) h o

-- a scan asks every row that it leaves open
open_asks : (first : List Order) (rows : List Row) (x : ℕ) → is_open (row_at rows x) ≡ true → asks_for ((first ++ asks is_open 1 rows) ++ []) x ≡ true
unfolding row_at
open_asks first rows zero h = clash h no_row_open
open_asks first rows (suc i) h =
    any_left (is_for (suc i)) (first ++ asks is_open 1 rows) []
    (any_right (is_for (suc i)) first (asks is_open 1 rows) (rw one-add at (asks_reach is_open 1 rows i no_row_open h)))

-- the rows beside a seat are the same whatever stands in it
row_beside : (front : List Row) (r s : Row) (back : List Row) (i : ℕ) → (i ≡ length front → ⊥)
    → get_or (front ++ r ∷ back) i no_row ≡ get_or (front ++ s ∷ back) i no_row
row_beside [] r s back zero h = absurd (h refl)
row_beside [] r s back (suc i) h = refl
row_beside (t ∷ front) r s back zero h = refl
row_beside (t ∷ front) r s back (suc i) h = row_beside front r s back i (λ e. h (ap suc e))

rows_beside : (t : Seat) (r s : Row) (y : ℕ) → (y ≡ suc (length t.front) → ⊥) → row_at (put t r) y ≡ row_at (put t s) y
unfolding row_at put
rows_beside t r s zero h = refl
rows_beside t r s (suc i) h = row_beside t.front r s t.back i (λ e. h (ap suc e))

pub row_in : (t : Seat) (r : Row) (y : ℕ) → y ≡ suc (length t.front) → row_at (put t r) y ≡ r
unfolding row_at put
row_in t r y h = subst (λ (z : ℕ). row_at (t.front ++ r ∷ t.back) z ≡ r) (sym h) (get_or-append_seam t.front r t.back no_row)

-- a row that an answer leaves open is SETTING, and its SET goes out
set_asks : (t : Seat) (x a b : ℕ) (ps : List Pair) (y : ℕ) → eqb y x ≡ true → is_open (listed_row t a ps) ≡ true
    → asks_for (set_order x b (renumbering_for t ps)) y ≡ true
unfolding listed_row set_order is_open is_open_status any is_for status_after
set_asks t x a b ps y e o = go (renumbering_for t ps) o
  where
    go : (n : Renumbering) → is_open_status (status_after a (goods (judged_for t ps)) n) ≡ true → asks_for (set_order x b n) y ≡ true
    go finished h = clash h refl
    go (renumbers i u g n) h = or_true_left (eqb y x) false e

asked_same : (r : Row) → is_silent r ≡ false → is_open (asked r) ≡ true → is_open r ≡ true
unfolding asked
asked_same r e o = subst (λ (s : Row). is_open s ≡ true) (cond_false (with_status WAITING r) r e) o

-- a row that is open after a delay was SILENT or open
delay_asks : (p : Picture) (x : ℕ) → is_open (row_at (map asked p.rows) x) ≡ true
    → (asks_for (asks is_silent 1 p.rows ++ []) x ≡ true) ⊎ (open_at p x ≡ true)
unfolding row_at open_at
delay_asks p zero o = inr o
delay_asks p (suc i) o = go (decide (is_silent (get_or p.rows i no_row)))
  where
    same : is_silent (get_or p.rows i no_row) ≡ false → is_open (get_or p.rows i no_row) ≡ true
    same e =
        each_at no_row no_row i (λ f h. h) (each_map (λ (r s : Row). is_silent r ≡ false → is_open s ≡ true → is_open r ≡ true) asked asked_same p.rows) e o

    go : (is_silent (get_or p.rows i no_row) ≡ true) ⊎ (is_silent (get_or p.rows i no_row) ≡ false)
        → (asks_for (asks is_silent 1 p.rows ++ []) (suc i) ≡ true) ⊎ (is_open (get_or p.rows i no_row) ≡ true)
    go (inl e) = inl (any_left (is_for (suc i)) (asks is_silent 1 p.rows) [] (rw one-add at (asks_reach is_silent 1 p.rows i no_row_silent e)))
    go (inr e) = inr (same e)

module _ (p : Picture) where
  onto : (c x : ℕ) → Seated p c x → (rows : List Row) → Each Closes (put (seat_at p.rows x) (seat_at p.rows x).row) rows → (y : ℕ)
      → is_open (row_at rows y) ≡ true → open_at p y ≡ true
  unfolding open_at
  onto c x s rows h y o = subst (λ (l : List Row). is_open (row_at l y) ≡ true) (sym s.split) (closes_at _ rows y h o)

  -- an answer asks its own position or none
  keep_asks : (c x a b : ℕ) (ps : List Pair) → Seated p c x → (y : ℕ)
      → is_open (row_at (put (seat_at p.rows x) (listed_row (seat_at p.rows x) a ps)) y) ≡ true
      → (asks_for (set_order x b (renumbering_for (seat_at p.rows x) ps)) y ≡ true) ⊎ (open_at p y ≡ true)
  unfolding open_at put
  keep_asks c x a b ps s y o = go (decide (eqb y x))
    where
      go : (eqb y x ≡ true) ⊎ (eqb y x ≡ false)
          → (asks_for (set_order x b (renumbering_for (seat_at p.rows x) ps)) y ≡ true) ⊎ (is_open (row_at p.rows y) ≡ true)
      go (inl e) = inl (set_asks (seat_at p.rows x) x a b ps y e (subst (λ (r : Row). is_open r ≡ true) (row_in (seat_at p.rows x) _ y (eqb-true y x e ∙ s.here)) o))
      go (inr e) =
          inr (subst (λ (l : List Row). is_open (row_at l y) ≡ true) (sym s.split)
          (subst (λ (r : Row). is_open r ≡ true) (rows_beside (seat_at p.rows x) _ _ y (λ f. eqb-false y x e (f ∙ sym s.here))) o))

  pub asked_ways : Ways p (λ (e : Event) (c : Change). (x : ℕ) → open_at c.picture x ≡ true → Asked p c x)
  unfolding begin scan scanned rescan rescanned shut_down change_rows with_rows delay_ends keep_answer open_at
  asked_ways =
      record {
        starts = λ n l x o. inl (open_asks [] _ x o);
        ring_changes = λ n l i x o. inl (open_asks (NOTOK ∷ []) _ x o);
        ring_changes_in_ok = λ n l i x o. inl (open_asks [] _ x o);
        shuts = λ x o. clash o (nothing_open x);
        silences = λ c x s i y o. inr (refl, onto c x s _ (each_put Closes closes_same _ _ (closes_silenced _)) y o);
        delays = λ c d x o. same_pass_lem (delay_asks p x o);
        bars = λ c x a ps s i z y o. inr (refl, onto c x s _ (each_put Closes closes_same _ _ (closes_ignored a _ _)) y o);
        ignores = λ c x a ps s i counts k z y o. inr (refl, onto c x s _ (each_counted Closes closes_same counts _ (λ r e. closes_ignored a r (counted r)) _ (closes_ignored a _ _)) y o);
        restarts = λ c x a ps s i counts b l y o. inl (open_asks (NOTOK ∷ []) _ y o);
        keeps = λ c x a ps s i k y o. same_pass_lem (keep_asks c x a _ ps s y o);
      }
