-- A position of the code's picture: its entry, an entry stored there, and the entries counted with it.
use Prim.Native.Nat.{ℕ, zero, suc, ◌-◌, ◌<◌, ◌≤◌, min}
use mathlib.Core.Path.{◌≡◌, refl, sym, ◌∙◌, ap}
use mathlib.Core.Bool.{Bool}
use mathlib.Core.List.{List, [], ◌∷◌, ◌++◌, map}
use native.Mathlib.Omega.{arith}
use native.Mathlib.Nat.{not-suc-le-zero, le_of_suc-le-suc}
use lib.ListN.{length, get_or, set, length-map}
use Rattle.rules.specs.House.{max_units}
use Rattle.rules.specs.Picture.{Row, no_row, with_rows, row_at, seat_at, put}
use Rattle.rules.specs.Order.{Order}
use Rattle.rules.specs.Renumber.{Renumbering}
use Rattle.rules.specs.Step.{rows_separately, on_counted, set_order}
use Rattle.rules.specs.Ending.{told}
use Rattle.row_entry.specs.declared.NodeEntry.{NodeEntry}
use Rattle.row_entry.specs.View.{row_of, rows_of}
use Rattle.row_entry.proofs.Arrays.{rows_length, rows_at, rows_set}
use Rattle.registry.specs.declared.image.RegistryImage.{RegistryImage}
use Rattle.ring_state.specs.State.{state_of}
use Rattle.registry.specs.View.{view_of}
use Rattle.registry.specs.Outcome.{Seat}
use Rattle.ring_answer.specs.Hearing.{reply_change}
use Rattle.ring_tell.specs.Told.{row_told}
use Rattle.registry.proofs.Telling.{told_put}
use Rattle.ring_entries.proofs.Seats.{seat_row, seat_put}

module _ (s : RegistryImage) (x : ℕ) (h : Seat s x) where
  pub index : x ≡ suc (x - 1)
  index = omega (arith, h.first)

  pub below : x - 1 < length (rows_of s.units s.entries)
  below = omega (arith, h.first, h.last, rows_length s.entries h.full s.units)

  pub entry_row : (d : NodeEntry) → row_of (get_or s.entries (x - 1) d) ≡ get_or (rows_of s.units s.entries) (x - 1) no_row
  entry_row d = sym (rows_at s.entries h.full s.units (x - 1) d no_row (omega (arith, h.first, h.last)))

  pub seat_entry : (d : NodeEntry) → (seat_at (rows_of s.units s.entries) x).row ≡ row_of (get_or s.entries (x - 1) d)
  seat_entry d = seat_row (rows_of s.units s.entries) (x - 1) index below ∙ sym (entry_row d)

  -- another entry in the place
  pub put_entry : (e : NodeEntry) {r : Row} → row_of e ≡ r → rows_of s.units (set s.entries (x - 1) e) ≡ put (seat_at (rows_of s.units s.entries) x) r
  put_entry e {r} f =
      rows_set s.units (x - 1) e s.entries ∙ ap (set (rows_of s.units s.entries) (x - 1)) f
      ∙ sym (seat_put (rows_of s.units s.entries) (x - 1) index below r)

  pub inside : x - 1 < min s.units max_units
  inside = omega (arith, h.first, h.last)

  -- the entries that are counted
  pub counted_at_lem : (counts : Row → Bool) (f : Row → Row) {rs : List Row} → rs ≡ on_counted counts f (seat_at (rows_of s.units s.entries) (suc (x - 1)))
      → rs ≡ on_counted counts f (seat_at (rows_of s.units s.entries) x)
  counted_at_lem counts f e = e ∙ ap (λ (n : ℕ). on_counted counts f (seat_at (rows_of s.units s.entries) n)) (sym index)

  -- what is told where one entry changes
  pub told_entry : (d : NodeEntry) (r : Row)
      → told rows_separately (view_of s) (with_rows (put (seat_at (rows_of s.units s.entries) x) r) (view_of s)) ≡ row_told (state_of s.state.0) s.size (row_of (get_or s.entries (x - 1) d)) r
  unfolding view_of
  told_entry d r =
      ap (λ (l : List Row). told rows_separately (view_of s) (with_rows l (view_of s))) (seat_put (rows_of s.units s.entries) (x - 1) index below r)
      ∙ told_put (view_of s) (x - 1) no_row r below
      ∙ ap (λ (b : Row). row_told (state_of s.state.0) s.size b r) (sym (entry_row d))

  -- what stands in front of the ending where one entry changes and a renumbering is sent
  pub front_reply : (d : NodeEntry) (a : ℕ) (r : Row) (n : Renumbering) → let c = reply_change (seat_at (view_of s).rows x) x a r n (view_of s) in
      c.first ++ told c.packing (view_of s) c.picture ++ c.set ≡ row_told (state_of s.state.0) s.size (row_of (get_or s.entries (x - 1) d)) r ++ set_order x a n
  unfolding view_of
  front_reply d a r n = ap (λ (l : List Order). l ++ set_order x a n) (told_entry d r)

pub mapped_length : {A B : Type 0} (f : A → B) (l : List A) (n : ℕ) → length (map f l) ≡ n → length l ≡ n
mapped_length f l n e = sym (length-map l f) ∙ e

-- the row of any position
pub row_there : (s : RegistryImage) (x : ℕ) (h : Seat s x) (d : NodeEntry) → row_of (get_or s.entries (x - 1) d) ≡ row_at (rows_of s.units s.entries) x
unfolding row_at
row_there s x h d = entry_row s x h d ∙ sym (ap (row_at (rows_of s.units s.entries)) (index s x h))

past_end : (xs : List Row) (i : ℕ) (d : Row) → length xs ≤ i → get_or xs i d ≡ d
past_end [] i d h = refl
past_end (x ∷ xs) zero d h = absurd (not-suc-le-zero h)
past_end (x ∷ xs) (suc i) d h = past_end xs i d (le_of_suc-le-suc h)

pub row_beyond : (rs : List Row) (x : ℕ) → length rs < x → no_row ≡ row_at rs x
unfolding row_at
row_beyond rs zero h = refl
row_beyond rs (suc i) h = sym (past_end rs i no_row (omega arith))

pub row_zero : (rs : List Row) {x : ℕ} → x ≡ 0 → no_row ≡ row_at rs x
unfolding row_at
row_zero rs e = sym (ap (row_at rs) e)
