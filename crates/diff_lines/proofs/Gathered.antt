-- Comparing what is gathered of two lists of rows is comparing the rows.
use Prim.Native.Nat.{ℕ, suc, ◌+◌, ◌-◌, ◌<◌, ◌≤◌}
use mathlib.Core.Path.{◌≡◌, refl, sym, ◌∙◌, ap}
use mathlib.Core.Bool.{Bool, true, false, cond, ◌||◌}
use mathlib.Core.List.{List, [], ◌∷◌, ◌++◌}
use native.Mathlib.Nat.{not-suc-le-zero}
use native.Mathlib.Omega.{arith}
use borrow.Author.Tests.{eqb-true, eqb-false}
use lib.Dec.{eqb, leb}
use lib.ListN.{length, length-set, length-replicate, get_or, get_or-replicate, set}
use lib.Seq.{get_or-set_same, get_or-set_other}
use Rattle.laws.specs.Lists.{any, collect, up_from}
use Rattle.laws.specs.Alls.{all_map}
use Rattle.laws.specs.Bools.{or_left, or_right, or_true_left, or_true_right, or_none, cond_true, cond_false}
use Rattle.rules.specs.House.{max_units}
use Rattle.rules_diff.specs.Differences.{NodeRow, Seen, absent, present, seen_at, Line, lines_at, differences, is_bad, falls, Compared, uncompared, fitted, compare}
use Rattle.rules_diff.proofs.Rows.{Behind, good_row, rises, sees}
use Rattle.diff_rows.specs.Gathering.{Gathering, nothing_seen, gathered, gathered_all}
use Rattle.diff_lines.specs.Comparing.{lines_over, compared_by}

-- one row: bad, not rising, seated
module _ (g : Gathering) (r : NodeRow) where
  row_bad : is_bad r ≡ true → gathered g r ≡ record { bad = true; falling = g.falling; last = g.last; seats = g.seats }
  unfolding gathered
  row_bad e = cond_true _ _ e

  row_falls : is_bad r ≡ false → leb r.position g.last ≡ true
      → gathered g r ≡ record { bad = g.bad; falling = true; last = g.last; seats = g.seats }
  unfolding gathered
  row_falls e f = cond_false _ _ e ∙ cond_true _ _ f

  row_seated : is_bad r ≡ false → leb r.position g.last ≡ false
      → gathered g r
      ≡ record { bad = g.bad; falling = g.falling; last = r.position; seats = set g.seats (r.position - 1) (present r.address r.pairs) }
  unfolding gathered
  row_seated e f = cond_false _ _ e ∙ cond_false _ _ f

-- a bad row among them
bad_all : (g : Gathering) (rs : List NodeRow) → (gathered_all g rs).bad ≡ g.bad || any is_bad rs
unfolding gathered_all any
bad_all g [] = sym (or_none g.bad)
bad_all g (r ∷ rs) = bad_all (gathered g r) rs ∙ go (is_bad r) refl (leb r.position g.last) refl
  where
    rest : Bool
    rest = any is_bad rs

    go : (b : Bool) → is_bad r ≡ b → (f : Bool) → leb r.position g.last ≡ f → (gathered g r).bad || rest ≡ g.bad || (is_bad r || rest)
    go true e f h = ap (λ (x : Gathering). x.bad || rest) (row_bad g r e) ∙ sym (or_true_right g.bad (is_bad r || rest) (or_true_left (is_bad r) rest e))
    go false e true h = ap (λ (x : Gathering). x.bad || rest) (row_falls g r e h) ∙ ap (λ (b : Bool). g.bad || (b || rest)) (sym e)
    go false e false h = ap (λ (x : Gathering). x.bad || rest) (row_seated g r e h) ∙ ap (λ (b : Bool). g.bad || (b || rest)) (sym e)

-- positions that do not rise, where no row is bad
falling_all : (g : Gathering) (rs : List NodeRow) → any is_bad rs ≡ false → (gathered_all g rs).falling ≡ g.falling || falls g.last rs
unfolding gathered_all any falls
falling_all g [] h = sym (or_none g.falling)
falling_all g (r ∷ rs) h = falling_all (gathered g r) rs (or_right (is_bad r) (any is_bad rs) h) ∙ go (leb r.position g.last) refl
  where
    good : is_bad r ≡ false
    good = or_left (is_bad r) (any is_bad rs) h

    go : (f : Bool) → leb r.position g.last ≡ f
        → (gathered g r).falling || falls (gathered g r).last rs ≡ g.falling || (leb r.position g.last || falls r.position rs)
    go true e =
        ap (λ (x : Gathering). x.falling || falls x.last rs) (row_falls g r good e)
        ∙ sym (or_true_right g.falling (leb r.position g.last || falls r.position rs) (or_true_left (leb r.position g.last) (falls r.position rs) e))
    go false e =
        ap (λ (x : Gathering). x.falling || falls x.last rs) (row_seated g r good e) ∙ ap (λ (b : Bool). g.falling || (b || falls r.position rs)) (sym e)

-- what stands at a position: the row for it, or what stood there before
unfoldable or_else : Seen → Seen → Seen
or_else absent s = s
or_else (present a ps) s = present a ps

or_else_absent : (s : Seen) → or_else s absent ≡ s
unfolding or_else
or_else_absent absent = refl
or_else_absent (present a ps) = refl

-- rows behind a position do not have it
not_later : (x last : ℕ) (rs : List NodeRow) → falls last rs ≡ false → x ≤ last → seen_at x rs ≡ absent
not_later x last rs h l =
    (sees rs x).nobody (all_map (λ (r : NodeRow) (m : Behind last r) (e : r.position ≡ x). let z : 1 ≤ 0 = omega (arith, m, e, l) in not-suc-le-zero z) (rises last rs h).0)

-- what the seats hold, where nothing is refused
seats_all : (g : Gathering) (rs : List NodeRow) → any is_bad rs ≡ false → falls g.last rs ≡ false → (i : ℕ) → i < length g.seats
    → get_or (gathered_all g rs).seats i absent ≡ or_else (seen_at (suc i) rs) (get_or g.seats i absent)
unfolding gathered_all any falls seen_at or_else
seats_all g [] h k i l = refl
seats_all g (r ∷ rs) h k i l =
    ap (λ (x : Gathering). get_or (gathered_all x rs).seats i absent) step
    ∙ seats_all next rs (or_right (is_bad r) (any is_bad rs) h) (or_right (leb r.position g.last) (falls r.position rs) k) i
    (let n = length-set g.seats (r.position - 1) here in omega arith)
    ∙ go (eqb (suc i) r.position) refl
  where
    good : is_bad r ≡ false
    good = or_left (is_bad r) (any is_bad rs) h

    here : Seen
    here = present r.address r.pairs

    next : Gathering
    next = record { bad = g.bad; falling = g.falling; last = r.position; seats = set g.seats (r.position - 1) here }

    step : gathered g r ≡ next
    step = row_seated g r good (or_left (leb r.position g.last) (falls r.position rs) k)

    go : (b : Bool) → eqb (suc i) r.position ≡ b
        → or_else (seen_at (suc i) rs) (get_or (set g.seats (r.position - 1) here) i absent)
        ≡ or_else (cond (eqb (suc i) r.position) here (seen_at (suc i) rs)) (get_or g.seats i absent)
    go true e =
        let at = eqb-true (suc i) r.position e in
        let j : i ≡ r.position - 1 = omega arith in
        ap (λ (s : Seen). or_else s (get_or (set g.seats (r.position - 1) here) i absent))
        (not_later (suc i) r.position rs (or_right (leb r.position g.last) (falls r.position rs) k) (omega arith))
        ∙ ap (λ (n : ℕ). get_or (set g.seats n here) i absent) (sym j) ∙ get_or-set_same g.seats i here absent l
        ∙ sym (ap (λ (b : Bool). or_else (cond b here (seen_at (suc i) rs)) (get_or g.seats i absent)) e)
    go false e =
        let p = (good_row r good).low in
        ap (or_else (seen_at (suc i) rs)) (get_or-set_other g.seats (r.position - 1) i here absent (λ q. eqb-false (suc i) r.position e (omega (arith, q))))
        ∙ sym (ap (λ (b : Bool). or_else (cond b here (seen_at (suc i) rs)) (get_or g.seats i absent)) e)

seats_long : (g : Gathering) (rs : List NodeRow) → length (gathered_all g rs).seats ≡ length g.seats
unfolding gathered_all
seats_long g [] = refl
seats_long g (r ∷ rs) = seats_long (gathered g r) rs ∙ go (is_bad r) refl (leb r.position g.last) refl
  where
    go : (b : Bool) → is_bad r ≡ b → (f : Bool) → leb r.position g.last ≡ f → length (gathered g r).seats ≡ length g.seats
    go true e f h = ap (λ (x : Gathering). length x.seats) (row_bad g r e)
    go false e true h = ap (λ (x : Gathering). length x.seats) (row_falls g r e h)
    go false e false h =
        ap (λ (x : Gathering). length x.seats) (row_seated g r e h) ∙ length-set g.seats (r.position - 1) (present r.address r.pairs)

-- the lines over seats are those over positions
over_collect : (k : ℕ) (f h : ℕ → Seen) (ss ts : List Seen) → length ss ≡ length ts → ((i : ℕ) → i < length ss → get_or ss i absent ≡ f (k + i))
    → ((i : ℕ) → i < length ts → get_or ts i absent ≡ h (k + i)) → lines_over k ss ts ≡ collect (λ (x : ℕ). lines_at x (f x) (h x)) (up_from k (length ss))
unfolding lines_over collect up_from
over_collect k f h [] ts l p q = refl
over_collect k f h (s ∷ ss) [] l p q = absurd (not-suc-le-zero (let z : 1 ≤ 0 = omega arith in z))
over_collect k f h (s ∷ ss) (t ∷ ts) l p q =
    let z : k + 0 ≡ k = omega arith in
    (λ i. lines_at k ((p 0 (omega arith) ∙ ap f z) i) ((q 0 (omega arith) ∙ ap h z) i)
    ++ over_collect (suc k) f h ss ts (omega arith)
    (λ j m. p (suc j) (omega arith) ∙ ap f (shift j)) (λ j m. q (suc j) (omega arith) ∙ ap h (shift j)) i)
  where
    shift : (j : ℕ) → k + suc j ≡ suc k + j
    shift j = omega arith

-- a list that is not refused is seen as it is
module _ (rs : List NodeRow) (h : any is_bad rs ≡ false) (k : falls 0 rs ≡ false) where
  seen_all : (i : ℕ) → i < length (gathered_all nothing_seen rs).seats → get_or (gathered_all nothing_seen rs).seats i absent ≡ seen_at (1 + i) rs
  unfolding nothing_seen
  seen_all i l =
      let n = seats_long nothing_seen rs in
      let m = length-replicate max_units absent in
      let e : 1 + i ≡ suc i = omega arith in
      seats_all nothing_seen rs h k i (omega arith) ∙ ap (or_else (seen_at (suc i) rs)) (get_or-replicate max_units i absent absent (omega arith))
      ∙ or_else_absent (seen_at (suc i) rs) ∙ ap (λ (x : ℕ). seen_at x rs) (sym e)

-- comparing what is gathered
module _ (f s : List NodeRow) (room : ℕ) where
  before : Gathering
  before = gathered_all nothing_seen f

  after : Gathering
  after = gathered_all nothing_seen s

  same_bad : (before.bad || after.bad) ≡ (any is_bad f || any is_bad s)
  unfolding before after nothing_seen
  same_bad = λ i. bad_all nothing_seen f i || bad_all nothing_seen s i

  same_falling : any is_bad f ≡ false → any is_bad s ≡ false → (before.falling || after.falling) ≡ (falls 0 f || falls 0 s)
  unfolding before after nothing_seen
  same_falling h k = λ i. falling_all nothing_seen f h i || falling_all nothing_seen s k i

  same_lines : any is_bad f ≡ false → any is_bad s ≡ false → falls 0 f ≡ false → falls 0 s ≡ false → lines_over 1 before.seats after.seats ≡ differences f s
  unfolding before after nothing_seen differences
  same_lines h k m n =
      let l : length before.seats ≡ max_units = seats_long nothing_seen f ∙ length-replicate max_units absent in
      let o : length after.seats ≡ max_units = seats_long nothing_seen s ∙ length-replicate max_units absent in
      over_collect 1 (λ (x : ℕ). seen_at x f) (λ (x : ℕ). seen_at x s) before.seats after.seats (l ∙ sym o) (seen_all f h m) (seen_all s k n)
      ∙ ap (λ (j : ℕ). collect (λ (x : ℕ). lines_at x (seen_at x f) (seen_at x s)) (up_from 1 j)) l

  pub compares_rows : compared_by (gathered_all nothing_seen f) (gathered_all nothing_seen s) room ≡ compare f s room
  unfolding compared_by compare before after
  compares_rows = go (any is_bad f || any is_bad s) refl (falls 0 f || falls 0 s) refl
    where
      F : Bool → Bool → List Line → Compared
      F b c ls = cond b (uncompared 2) (cond c (uncompared 20) (fitted ls room))

      go : (b : Bool) → (any is_bad f || any is_bad s) ≡ b → (c : Bool) → (falls 0 f || falls 0 s) ≡ c
          → F (before.bad || after.bad) (before.falling || after.falling) (lines_over 1 before.seats after.seats)
          ≡ F (any is_bad f || any is_bad s) (falls 0 f || falls 0 s) (differences f s)
      go true e c d = cond_true _ _ (same_bad ∙ e) ∙ sym (cond_true _ _ e)
      go false e true d =
          let h = or_left (any is_bad f) (any is_bad s) e in
          let k = or_right (any is_bad f) (any is_bad s) e in
          (λ i. F (same_bad i) ((same_falling h k ∙ d) i) (lines_over 1 before.seats after.seats))
          ∙ sym (ap (λ (c : Bool). F (any is_bad f || any is_bad s) c (differences f s)) d)
      go false e false d =
          let h = or_left (any is_bad f) (any is_bad s) e in
          let k = or_right (any is_bad f) (any is_bad s) e in
          λ i. F (same_bad i) (same_falling h k i) (same_lines h k (or_left (falls 0 f) (falls 0 s) d) (or_right (falls 0 f) (falls 0 s) d) i)
