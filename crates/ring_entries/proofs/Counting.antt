-- Bad announcements: the limit from the own count and those of the others, and the entries that are counted.
use Prim.Native.Nat.{ℕ, suc, ◌<◌}
use mathlib.Core.Path.{◌≡◌, refl, sym, ◌∙◌, ap}
use mathlib.Core.Bool.{Bool, true, false, cond, ◌&&◌, ◌||◌}
use mathlib.Core.List.{List, map}
use native.Mathlib.Omega.{arith}
use lib.ListN.{length, get_or, set}
use Rattle.std.proofs.lemmas.List.{map-set, get_or-map, length-map}
use Rattle.laws.specs.Bools.{and_none, or_true_left}
use Rattle.laws.specs.Lists.{any}
use Rattle.rules.specs.Picture.{Row, no_row, seat_at, others}
use Rattle.rules.specs.Step.{Verdict, counted, at_limit, on_counted}
use Rattle.row_entry.specs.declared.NodeEntry.{NodeEntry}
use Rattle.row_entry.specs.View.{row_of}
use Rattle.ring_entries.specs.Verdicts.{counts_for, counts_at_limit, limit_reached}
use Rattle.ring_entries.proofs.Seats.{seat_but, seat_counted, seat_own}

module _ (i : ℕ) (es : List NodeEntry) (l : i < length es) (v : Verdict) (a : ℕ) (d : NodeEntry) where
  own : at_limit (counted (seat_at (map row_of es) (suc i)).row) ≡ at_limit (counted (row_of (get_or es i d)))
  own = ap (λ (r : Row). at_limit (counted r)) (sym (seat_own i es l d))

  below : (r : Row) → at_limit (counted r) ≡ false → counts_at_limit v a r ≡ false
  unfolding counts_at_limit
  below r e = ap (λ (t : Bool). counts_for v a r && t) e ∙ and_none (counts_for v a r)

  pub limit_own : at_limit (counted (row_of (get_or es i d))) ≡ true → true ≡ limit_reached v a (seat_at (map row_of es) (suc i))
  unfolding limit_reached
  limit_own e = sym (or_true_left _ _ (own ∙ e))

  -- the row itself is not at the limit, and so need not be left out
  pub limit_others : {b : Bool} → at_limit (counted (row_of (get_or es i d))) ≡ false → b ≡ any (counts_at_limit v a) (map row_of es)
      → b ≡ limit_reached v a (seat_at (map row_of es) (suc i))
  unfolding limit_reached
  limit_others e b =
      b ∙ sym (seat_but (map row_of es) i refl (omega (arith, l, length-map es row_of)) (counts_at_limit v a) (below (seat_at (map row_of es) (suc i)).row (own ∙ e)))
      ∙ sym (ap (λ (t : Bool). t || any (counts_at_limit v a) (others (seat_at (map row_of es) (suc i)))) (own ∙ e))

-- the entries that are counted
pub counted_rows : (i : ℕ) (es : List NodeEntry) → i < length es → (counts : Row → Bool) (f : Row → Row) (d e : NodeEntry) (ns : List NodeEntry)
    → map row_of ns ≡ map (λ (r : Row). cond (counts r) (f r) r) (map row_of es) → row_of e ≡ f (row_of (get_or es i d))
    → map row_of (set ns i e) ≡ on_counted counts f (seat_at (map row_of es) (suc i))
counted_rows i es l counts f d e ns h g =
    map-set row_of ns i e ∙ (λ t. set (h t) i ((g ∙ ap f (sym (get_or-map row_of es i d no_row l))) t))
    ∙ sym (seat_counted (map row_of es) i refl (omega (arith, l, length-map es row_of)) counts f)
