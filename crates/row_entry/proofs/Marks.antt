-- A status by its number: what is asked of it is asked of the status that the number names.
use Prim.Native.Nat.{ℕ, zero, suc, ◌≤◌, ◌<◌}
use mathlib.Core.Path.{◌≡◌, refl, sym, ◌∙◌, ap}
use mathlib.Core.Bool.{Bool, true, false, cond, not, ◌&&◌}
use native.Mathlib.Omega.{arith}
use borrow.Author.Tests.{ne_eqb}
use mathlib.Core.List.{List, []}
use lib.Dec.{eqb}
use Rattle.laws.specs.Bools.{clash}
use Rattle.rules.specs.Picture.{Pair, Status, WAITING, SETTING, LISTED, SILENT, IGNORED, Kept, nothing, kept, kept_by, kept_in, pairs_in, is_open, is_open_status, is_silent, is_silent_status, is_ignored, is_ignored_status, keeps, has_address, keeps_other, has_other_address, in_range, bars, bars_status}
use Rattle.rules.specs.Picture as rules
use Rattle.row_entry.specs.declared.NodeEntry.{NodeEntry}
use Rattle.wire_pairs.specs.View.{pairs_from}
use Rattle.row_entry.specs.View.{status_of, row_of, is_kept, is_listed}

module _ {X : Type 0} (f : Status → X) (a : ℕ) (ps : List Pair) (i t : ℕ) where
  pub by_mark : (m : ℕ)
      → f (status_of m a ps i t) ≡ cond (eqb m 0) (f WAITING) (cond (eqb m 1) (f (SETTING a ps i t)) (cond (eqb m 2) (f (LISTED a ps)) (cond (eqb m 3) (f SILENT) (f (IGNORED a)))))
  unfolding status_of
  by_mark m = go (eqb m 0) (eqb m 1) (eqb m 2) (eqb m 3)
    where
      go : (w s l q : Bool)
          → f (cond w WAITING (cond s (SETTING a ps i t) (cond l (LISTED a ps) (cond q SILENT (IGNORED a)))))
          ≡ cond w (f WAITING) (cond s (f (SETTING a ps i t)) (cond l (f (LISTED a ps)) (cond q (f SILENT) (f (IGNORED a)))))
      go true s l q = refl
      go false true l q = refl
      go false false true q = refl
      go false false false true = refl
      go false false false false = refl

-- a status by its number, number by number
data Mark (m : ℕ) : Type 0 where
  is0 : m ≡ 0 → Mark m
  is1 : m ≡ 1 → Mark m
  is2 : m ≡ 2 → Mark m
  is3 : m ≡ 3 → Mark m
  above : 4 ≤ m → Mark m

mark : (m : ℕ) → Mark m
mark zero = is0 refl
mark (suc zero) = is1 refl
mark (suc (suc zero)) = is2 refl
mark (suc (suc (suc zero))) = is3 refl
mark (suc (suc (suc (suc m)))) = above (omega arith)

module _ (e : NodeEntry) where
  module _ {X : Type 0} (f : Status → X) where
    tested : f (row_of e).status
        ≡ cond (eqb e.status.0 0) (f WAITING) (cond (eqb e.status.0 1) (f (SETTING e.address.0 (pairs_from e.count e.blocks e.numbers) e.place e.tries)) (cond (eqb e.status.0 2) (f (LISTED e.address.0 (pairs_from e.count e.blocks e.numbers))) (cond (eqb e.status.0 3) (f SILENT) (f (IGNORED e.address.0)))))
    unfolding row_of
    tested = by_mark f e.address.0 (pairs_from e.count e.blocks e.numbers) e.place e.tries e.status.0

    pub other : 4 ≤ e.status.0 → f (row_of e).status ≡ f (IGNORED e.address.0)
    other h =
        tested
        ∙ simp (ne_eqb e.status.0 0 (λ q. omega (arith, q)), ne_eqb e.status.0 1 (λ q. omega (arith, q)), ne_eqb e.status.0 2 (λ q. omega (arith, q)), ne_eqb e.status.0 3 (λ q. omega (arith, q)))

  pub open_low : e.status.0 ≤ 1 → is_open (row_of e) ≡ true
  unfolding is_open is_open_status
  open_low h = go (mark e.status.0)
    where
      go : Mark e.status.0 → is_open_status (row_of e).status ≡ true
      go (is0 z) = tested is_open_status ∙ rw z refl
      go (is1 z) = tested is_open_status ∙ rw z refl
      go (is2 z) = absurd (omega (arith, h, z))
      go (is3 z) = absurd (omega (arith, h, z))
      go (above z) = absurd (omega (arith, h, z))

  pub open_high : 2 ≤ e.status.0 → is_open (row_of e) ≡ false
  unfolding is_open is_open_status
  open_high h = go (mark e.status.0)
    where
      go : Mark e.status.0 → is_open_status (row_of e).status ≡ false
      go (is0 z) = absurd (omega (arith, h, z))
      go (is1 z) = absurd (omega (arith, h, z))
      go (is2 z) = tested is_open_status ∙ rw z refl
      go (is3 z) = tested is_open_status ∙ rw z refl
      go (above z) = other is_open_status z

  pub silent_mark : eqb e.status.0 3 ≡ is_silent (row_of e)
  unfolding is_silent is_silent_status
  silent_mark = go (mark e.status.0)
    where
      go : Mark e.status.0 → eqb e.status.0 3 ≡ is_silent_status (row_of e).status
      go (is0 z) = sym (tested is_silent_status ∙ rw z refl)
      go (is1 z) = sym (tested is_silent_status ∙ rw z refl)
      go (is2 z) = sym (tested is_silent_status ∙ rw z refl)
      go (is3 z) = sym (tested is_silent_status ∙ rw z refl)
      go (above z) = ne_eqb e.status.0 3 (λ q. omega (arith, q, z)) ∙ sym (other is_silent_status z)

  pub ignored_low : e.status.0 ≤ 3 → is_ignored (row_of e) ≡ false
  unfolding is_ignored is_ignored_status
  ignored_low h = go (mark e.status.0)
    where
      go : Mark e.status.0 → is_ignored_status (row_of e).status ≡ false
      go (is0 z) = tested is_ignored_status ∙ rw z refl
      go (is1 z) = tested is_ignored_status ∙ rw z refl
      go (is2 z) = tested is_ignored_status ∙ rw z refl
      go (is3 z) = tested is_ignored_status ∙ rw z refl
      go (above z) = absurd (omega (arith, h, z))

  pub ignored_high : 4 ≤ e.status.0 → is_ignored (row_of e) ≡ true
  unfolding is_ignored is_ignored_status
  ignored_high h = other is_ignored_status h

  pub listed_mid : 1 ≤ e.status.0 → e.status.0 ≤ 2 → is_listed (row_of e) ≡ true
  unfolding is_listed is_kept kept_by
  listed_mid h l = go (mark e.status.0)
    where
      go : Mark e.status.0 → is_kept (kept_by (row_of e).status) ≡ true
      go (is0 z) = absurd (omega (arith, h, z))
      go (is1 z) = tested (λ (s : Status). is_kept (kept_by s)) ∙ rw z refl
      go (is2 z) = tested (λ (s : Status). is_kept (kept_by s)) ∙ rw z refl
      go (is3 z) = absurd (omega (arith, l, z))
      go (above z) = absurd (omega (arith, l, z))

  pub listed_low : e.status.0 < 1 → is_listed (row_of e) ≡ false
  unfolding is_listed is_kept kept_by
  listed_low h = let z : e.status.0 ≡ 0 = omega arith in tested (λ (s : Status). is_kept (kept_by s)) ∙ rw z refl

  pub listed_high : 3 ≤ e.status.0 → is_listed (row_of e) ≡ false
  unfolding is_listed is_kept kept_by
  listed_high h = go (mark e.status.0)
    where
      go : Mark e.status.0 → is_kept (kept_by (row_of e).status) ≡ false
      go (is0 z) = absurd (omega (arith, h, z))
      go (is1 z) = absurd (omega (arith, h, z))
      go (is2 z) = absurd (omega (arith, h, z))
      go (is3 z) = tested (λ (s : Status). is_kept (kept_by s)) ∙ rw z refl
      go (above z) = other (λ (s : Status). is_kept (kept_by s)) z

-- what an entry keeps, by whether it is listed; what it bars, by whether it is IGNORED
module _ (e : NodeEntry) where
  pairs : List Pair
  pairs = pairs_from e.count e.blocks e.numbers

  pub kept_listed : is_listed (row_of e) ≡ true → kept_in (row_of e) ≡ kept e.address.0 (pairs_from e.count e.blocks e.numbers)
  unfolding is_listed is_kept row_of status_of kept_by pairs
  kept_listed h = go (eqb e.status.0 0) (eqb e.status.0 1) (eqb e.status.0 2) (eqb e.status.0 3) h
    where
      go : (w s l q : Bool) → let r = cond w WAITING (cond s (SETTING e.address.0 pairs e.place e.tries) (cond l (LISTED e.address.0 pairs) (cond q SILENT (IGNORED e.address.0)))) in
          is_kept (kept_by r) ≡ true → kept_by r ≡ kept e.address.0 pairs
      go true s l q h = clash h refl
      go false true l q h = refl
      go false false true q h = refl
      go false false false true h = clash h refl
      go false false false false h = clash h refl

  pub kept_else : is_listed (row_of e) ≡ false → kept_in (row_of e) ≡ nothing
  unfolding is_listed is_kept
  kept_else h = go (kept_in (row_of e)) h
    where
      go : (k : Kept) → is_kept k ≡ false → k ≡ nothing
      go nothing h = refl
      go (kept a ps) h = clash refl h

  -- the address that is kept: this one, or another
  pub keeps_listed : (a : ℕ) → is_listed (row_of e) ≡ true → keeps a (row_of e) ≡ eqb a e.address.0
  unfolding keeps has_address
  keeps_listed a h = ap (has_address a) (kept_listed h)

  pub keeps_else : (a : ℕ) → is_listed (row_of e) ≡ false → keeps a (row_of e) ≡ false
  unfolding keeps has_address
  keeps_else a h = ap (has_address a) (kept_else h)

  pub keeps_other_listed : (a : ℕ) → is_listed (row_of e) ≡ true → keeps_other a (row_of e) ≡ not (eqb a e.address.0)
  unfolding keeps_other has_other_address
  keeps_other_listed a h = ap (has_other_address a) (kept_listed h)

  pub keeps_other_else : (a : ℕ) → is_listed (row_of e) ≡ false → keeps_other a (row_of e) ≡ false
  unfolding keeps_other has_other_address
  keeps_other_else a h = ap (has_other_address a) (kept_else h)

  pub pairs_listed : is_listed (row_of e) ≡ true → pairs_in (row_of e) ≡ pairs_from e.count e.blocks e.numbers
  unfolding pairs_in rules.pairs_of
  pairs_listed h = ap rules.pairs_of (kept_listed h)

  pub pairs_else : is_listed (row_of e) ≡ false → pairs_in (row_of e) ≡ []
  unfolding pairs_in rules.pairs_of
  pairs_else h = ap rules.pairs_of (kept_else h)

  pub status_ignored : is_ignored (row_of e) ≡ true → (row_of e).status ≡ IGNORED e.address.0
  unfolding is_ignored is_ignored_status row_of status_of pairs
  status_ignored h = go (eqb e.status.0 0) (eqb e.status.0 1) (eqb e.status.0 2) (eqb e.status.0 3) h
    where
      go : (w s l q : Bool) → let r = cond w WAITING (cond s (SETTING e.address.0 pairs e.place e.tries) (cond l (LISTED e.address.0 pairs) (cond q SILENT (IGNORED e.address.0)))) in
          is_ignored_status r ≡ true → r ≡ IGNORED e.address.0
      go true s l q h = clash h refl
      go false true l q h = clash h refl
      go false false true q h = clash h refl
      go false false false true h = clash h refl
      go false false false false h = refl

  pub bars_ignored : (a : ℕ) → is_ignored (row_of e) ≡ true → bars a (row_of e) ≡ (eqb a e.address.0 && in_range a)
  unfolding bars bars_status
  bars_ignored a h = ap (bars_status a) (status_ignored h)

  pub bars_nothing : (a : ℕ) → is_ignored (row_of e) ≡ false → bars a (row_of e) ≡ false
  unfolding bars bars_status is_ignored is_ignored_status
  bars_nothing a h = go (row_of e).status h
    where
      go : (s : Status) → is_ignored_status s ≡ false → bars_status a s ≡ false
      go WAITING h = refl
      go (SETTING b ps i t) h = refl
      go (LISTED b ps) h = refl
      go SILENT h = refl
      go (IGNORED b) h = clash refl h
