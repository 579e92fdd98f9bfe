-- The refusals 5 to 8 of an ANSWER and a NONE, from the entry that the code looks at.
use Prim.Native.Nat.{ℕ, suc, ◌-◌, min}
use mathlib.Core.Path.{◌≡◌, refl, sym, ◌∙◌, ap}
use mathlib.Core.Bool.{Bool, true, false, cond, not, ◌&&◌, ◌||◌}
use mathlib.Core.List.{List}
use mathlib.Core.Option.{Option, none, some}
use native.Mathlib.Omega.{arith}
use native.Mathlib.Nat.{pos_of_ne-zero, suc-ne-zero}
use borrow.Author.Tests.{eqb-false, ltb-false, ne_eqb, le-ltb}
use lib.Dec.{eqb, ltb}
use lib.ListN.{length, get_or}
use Rattle.laws.specs.Bools.{clash}
use Rattle.rules.specs.House.{max_units}
use Rattle.rules.specs.Picture.{Picture, Row, no_row, Pair, is_not_ok, is_open, is_ignored, seat_at, put}
use Rattle.rules.specs.Event.{Event, START, NCE, SHUTDOWN, ANSWER, NONE, DELAY}
use Rattle.rules.specs.Renumber.{finished}
use Rattle.rules.specs.Step.{Response, refuse, change, refuse_if, no_position, respond, change_rows, set_order, silenced}
use Rattle.rules.specs.Run.{refused, concluded}
use Rattle.row_entry.specs.View.{rows_of}
use Rattle.row_entry.proofs.Arrays.{rows_length}
use Rattle.ring_answer.specs.Hearing.{answered}
use Rattle.registry.specs.declared.image.RegistryImage.{RegistryImage}
use Rattle.registry.specs.View.{view_of}
use Rattle.registry.specs.Outcome.{Seat, respond_to, reply_outcome}
use Rattle.ring_refusals.specs.Numbers.{place_in, seat_in, seat_refusal, or_else, reply_refusal}
use Rattle.ring_entries.proofs.Seats.{seat_row}
use Rattle.registry.proofs.Places.{below, index}

-- the number that an ANSWER or a NONE is refused with, by the rules' own tests; 0 where it is not
unfoldable late_for : Picture → Option Event → ℕ
late_for p none = 0
late_for p (some (START n)) = 0
late_for p (some (NCE n)) = 0
late_for p (some SHUTDOWN) = 0
late_for p (some (ANSWER c x a ps)) =
    cond (not (eqb c p.pass)) 5
    (cond (no_position p x) 6 (cond (is_ignored (seat_at p.rows x).row) 7 (cond (is_not_ok p.state && not (is_open (seat_at p.rows x).row)) 8 0)))
late_for p (some (NONE c x)) =
    cond (not (eqb c p.pass)) 5 (cond (no_position p x) 6 (cond (is_ignored (seat_at p.rows x).row) 7 (cond (not (is_open (seat_at p.rows x).row)) 8 0)))
late_for p (some (DELAY c)) = 0

-- a test that refuses, or what comes behind it
refuses_first : (t : Bool) (n m : ℕ) (r : Response) → ((m ≡ 0 → ⊥) → r ≡ refuse m) → (cond t n m ≡ 0 → ⊥) → refuse_if t n r ≡ refuse (cond t n m)
unfolding refuse_if
refuses_first true n m r f z = refl
refuses_first false n m r f z = f z

passed : (t : Bool) (n m : ℕ) → ◌≡◌ {A = ℕ} 0 (cond t (suc n) m) → (t ≡ false) × (◌≡◌ {A = ℕ} 0 m)
passed true n m h = absurd (suc-ne-zero n (sym h))
passed false n m h = (refl, h)

late_refused : (p : Picture) (o : Option Event) → (late_for p o ≡ 0 → ⊥) → concluded p (respond_to p o) ≡ refused (late_for p o)
unfolding late_for respond_to respond concluded
late_refused p none z = absurd (z refl)
late_refused p (some (START n)) z = absurd (z refl)
late_refused p (some (NCE n)) z = absurd (z refl)
late_refused p (some SHUTDOWN) z = absurd (z refl)
late_refused p (some (ANSWER c x a ps)) z =
    ap (concluded p)
    (refuses_first _ 5 _ _
    (refuses_first _ 6 _ _
    (refuses_first _ 7 _ _ (refuses_first (is_not_ok p.state && not (is_open (seat_at p.rows x).row)) 8 0 _ (λ n. absurd (n refl))))) z)
late_refused p (some (NONE c x)) z =
    ap (concluded p)
    (refuses_first _ 5 _ _
    (refuses_first _ 6 _ _ (refuses_first _ 7 _ _ (refuses_first (not (is_open (seat_at p.rows x).row)) 8 0 _ (λ n. absurd (n refl))))) z)
late_refused p (some (DELAY c)) z = absurd (z refl)

module _ (p : Picture) (c x : ℕ) where
  answer_passed : (a : ℕ) (ps : List Pair) → ◌≡◌ {A = ℕ} 0 (late_for p (some (ANSWER c x a ps)))
      → (no_position p x ≡ false) × (concluded p (respond p (ANSWER c x a ps)) ≡ concluded p (answered (seat_at p.rows x) x a ps p))
  unfolding late_for respond refuse_if
  answer_passed a ps h =
      let t = passed (not (eqb c p.pass)) 4 _ h in
      let u = passed (no_position p x) 5 _ t.1 in
      let v = passed (is_ignored (seat_at p.rows x).row) 6 _ u.1 in
      let w = passed (is_not_ok p.state && not (is_open (seat_at p.rows x).row)) 7 0 v.1 in (
        u.0,
        (λ i. concluded p (refuse_if (t.0 i) 5 (refuse_if (u.0 i) 6 (refuse_if (v.0 i) 7 (refuse_if (w.0 i) 8 (answered (seat_at p.rows x) x a ps p)))))),
      )

  none_passed : ◌≡◌ {A = ℕ} 0 (late_for p (some (NONE c x)))
      → (no_position p x ≡ false) × (concluded p (respond p (NONE c x)) ≡ reply_outcome p x 0 (silenced (seat_at p.rows x).row) finished)
  unfolding late_for respond refuse_if change_rows set_order
  none_passed h =
      let t = passed (not (eqb c p.pass)) 4 _ h in
      let u = passed (no_position p x) 5 _ t.1 in
      let v = passed (is_ignored (seat_at p.rows x).row) 6 _ u.1 in
      let w = passed (not (is_open (seat_at p.rows x).row)) 7 0 v.1 in (
        u.0,
        (λ i. concluded p (refuse_if (t.0 i) 5 (refuse_if (u.0 i) 6 (refuse_if (v.0 i) 7
            (refuse_if (w.0 i) 8 (change (change_rows (put (seat_at p.rows x) (silenced (seat_at p.rows x).row)) p))))))),
      )

-- two numbers, the first of which is decided by a test
or_first : (t : Bool) (n m z : ℕ) → eqb n 0 ≡ false → or_else (cond t n m) z ≡ cond t n (or_else m z)
unfolding or_else
or_first true n m z h = ap (λ (b : Bool). cond b z n) h
or_first false n m z h = refl

or_both : (t u : Bool) (n m : ℕ) → cond t n (cond u n m) ≡ cond (t || u) n m
or_both true u n m = refl
or_both false u n m = refl

behind : {A : Type 0} (t : Bool) (n : ℕ) (f : A → ℕ) (r q : A) → (t ≡ false → r ≡ q) → cond t n (f r) ≡ cond t n (f q)
behind true n f r q h = refl
behind false n f r q h = ap f (h refl)

-- no test of the position refuses: it has a row, which the code looks at
neither : (a b : Bool) → (a || b) ≡ false → (a ≡ false) × (b ≡ false)
neither true b h = clash refl h
neither false b h = (refl, h)

module _ (s : RegistryImage) (full : length s.entries ≡ max_units) where
  as_long : length (rows_of s.units s.entries) ≡ min s.units max_units
  as_long = rows_length s.entries full s.units

  module _ (x : ℕ) where
    pub seated : no_position (view_of s) x ≡ false → Seat s x
    unfolding no_position view_of
    seated h =
        let n = neither (eqb x 0) (ltb (length (rows_of s.units s.entries)) x) h in
        record { full = full; first = pos_of_ne-zero (eqb-false x 0 n.0); last = omega (arith, as_long, ltb-false (length (rows_of s.units s.entries)) x n.1) }

    pub placed : Seat s x → place_in x ≡ x - 1
    unfolding place_in
    placed h =
        ap (λ (b : Bool). cond b 0 (cond (ltb max_units x) 0 (x - 1))) (ne_eqb x 0 (λ e. let f = h.first in suc-ne-zero 0 (omega (arith, e, f))))
        ∙ ap (λ (b : Bool). cond b 0 (x - 1)) (le-ltb max_units x (omega (arith, h.last)))

module _ (s : RegistryImage) (full : length s.entries ≡ max_units) where
  -- the row that is looked at for an event
  looked : Option Event → Row
  looked o = get_or (view_of s).rows (seat_in o) no_row

  module _ (k : ℕ) (many : min k max_units ≡ length (view_of s).rows) where
    module _ (x : ℕ) where
      own_row : no_position (view_of s) x ≡ false → get_or (view_of s).rows (place_in x) no_row ≡ (seat_at (view_of s).rows x).row
      unfolding view_of
      own_row h =
          let t = seated s full x h in
          ap (λ (i : ℕ). get_or (rows_of s.units s.entries) i no_row) (placed s full x t)
          ∙ sym (seat_row (rows_of s.units s.entries) (x - 1) (index s x t) (below s x t))

      -- the tests in front of 8 are the rules', whatever is behind them
      module _ (c : ℕ) (f : Row → ℕ) where
        in_front : or_else (seat_refusal s.pass k (get_or (view_of s).rows (place_in x) no_row) c x) (f (get_or (view_of s).rows (place_in x) no_row))
            ≡ cond (not (eqb c s.pass)) 5 (cond (no_position (view_of s) x) 6 (cond (is_ignored (seat_at (view_of s).rows x).row) 7 (f (seat_at (view_of s).rows x).row)))
        unfolding seat_refusal or_else no_position view_of
        in_front =
            let r = get_or (view_of s).rows (place_in x) no_row in
            or_first (not (eqb c s.pass)) 5 _ _ refl
            ∙ ap (cond (not (eqb c s.pass)) 5)
            (or_first (eqb x 0) 6 _ _ refl
            ∙ ap (cond (eqb x 0) 6) (or_first (ltb (min k max_units) x) 6 _ _ refl ∙ ap (cond (ltb (min k max_units) x) 6) (or_first (is_ignored r) 7 0 _ refl))
            ∙ or_both (eqb x 0) (ltb (min k max_units) x) 6 _
            ∙ ap (λ (n : ℕ). cond (eqb x 0 || ltb n x) 6 (cond (is_ignored r) 7 (f r))) many
            ∙ behind (no_position (view_of s) x) 6 (λ (q : Row). cond (is_ignored q) 7 (f q)) r (seat_at (view_of s).rows x).row own_row)

    late_same : (o : Option Event) → reply_refusal (view_of s).state s.pass k (looked o) o ≡ late_for (view_of s) o
    unfolding reply_refusal late_for seat_in view_of looked
    late_same none = refl
    late_same (some (START n)) = refl
    late_same (some (NCE n)) = refl
    late_same (some SHUTDOWN) = refl
    late_same (some (ANSWER c x a ps)) = in_front x c (λ (r : Row). cond (is_not_ok (view_of s).state && not (is_open r)) 8 0)
    late_same (some (NONE c x)) = in_front x c (λ (r : Row). cond (not (is_open r)) 8 0)
    late_same (some (DELAY c)) = refl

    -- 5 to 8
    pub refused_late : (o : Option Event) {n : ℕ} → n ≡ reply_refusal (view_of s).state s.pass k (get_or (view_of s).rows (seat_in o) no_row) o → (n ≡ 0 → ⊥)
        → concluded (view_of s) (respond_to (view_of s) o) ≡ refused n
    unfolding looked
    refused_late o e z =
        let f = e ∙ late_same o in
        late_refused (view_of s) o (λ h. z (f ∙ h)) ∙ ap refused (sym f)

    module _ (c x : ℕ) where
      pub answer_taken : (a : ℕ) (ps : List Pair) → let o = some (ANSWER c x a ps) in
          ◌≡◌ {A = ℕ} 0 (reply_refusal (view_of s).state s.pass k (get_or (view_of s).rows (seat_in o) no_row) o)
          → Seat s x × (concluded (view_of s) (respond (view_of s) (ANSWER c x a ps)) ≡ concluded (view_of s) (answered (seat_at (view_of s).rows x) x a ps (view_of s)))
      unfolding looked
      answer_taken a ps h = let t = answer_passed (view_of s) c x a ps (h ∙ late_same (some (ANSWER c x a ps))) in (seated s full x t.0, t.1)

      pub none_taken : let o = some (NONE c x) in
          ◌≡◌ {A = ℕ} 0 (reply_refusal (view_of s).state s.pass k (get_or (view_of s).rows (seat_in o) no_row) o)
          → Seat s x × (concluded (view_of s) (respond (view_of s) (NONE c x)) ≡ reply_outcome (view_of s) x 0 (silenced (seat_at (view_of s).rows x).row) finished)
      unfolding looked
      none_taken h = let t = none_passed (view_of s) c x (h ∙ late_same (some (NONE c x))) in (seated s full x t.0, t.1)
