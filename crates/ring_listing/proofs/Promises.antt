-- A flat listing read place by place.
use Prim.Native.Nat.{ℕ, zero, suc, ◌+◌, ◌≤◌, ◌<◌}
use mathlib.Core.Path.{◌≡◌, refl, sym, ◌∙◌, ap}
use mathlib.Core.List.{List, [], ◌∷◌, ◌++◌, map}
use native.Mathlib.Nat.{not-suc-le-zero, le_of_suc-le-suc, add-zero}
use native.Mathlib.Omega.{arith}
use lib.ListN.{length, length-map, get_or, drop, replicate, length-replicate, get_or-append}
use Rattle.laws.specs.Buffers.{sets_start}
use Rattle.laws.specs.Lists.{up_from}
use Rattle.laws.specs.Views.{firsts}
use Rattle.rules.specs.House.{max_entries}
use Rattle.rules.specs.Picture.{Pair}
use Rattle.rules.specs.Listing.{Entry, entry}
use Rattle.wire_pairs.specs.View.{pair_of, zip_pairs, pairs_from}
use Rattle.ring_listing.specs.View.{filled, flat_of, entry_at, entries_in}
use Rattle.ring_listing.specs.Promises.{Promises}

map_at : {A : Type 0} (f : A → ℕ) (xs : List A) (i : ℕ) (d : A) → i < length xs → get_or (map f xs) i 0 ≡ f (get_or xs i d)
map_at f [] i d h = absurd (not-suc-le-zero h)
map_at f (x ∷ xs) zero d h = refl
map_at f (x ∷ xs) (suc i) d h = map_at f xs i d (le_of_suc-le-suc h)

-- the places from k on, read one by one
all_read : {A : Type 0} (g : ℕ → A) (d : A) (k : ℕ) (xs : List A) → ((i : ℕ) → i < length xs → g (k + i) ≡ get_or xs i d) → map g (up_from k (length xs)) ≡ xs
unfolding up_from
all_read g d k [] h = refl
all_read {A} g d k (x ∷ xs) h =
    let e : g k ≡ x = ap g (sym (add-zero k)) ∙ h 0 (omega arith) in
    let rest = all_read g d (suc k) xs (λ i l. let s : suc k + i ≡ k + suc i = omega arith in ap g s ∙ h (suc i) (omega arith)) in
    λ t. e t ∷ rest t

-- blocks and numbers side by side, whatever stands behind them
side_by_side : (es : List Entry) (bs ns : List ℕ)
    → pairs_from (length es) (map (λ (e : Entry). e.pair.block) es ++ bs) (map (λ (e : Entry). e.pair.number) es ++ ns) ≡ map (λ (e : Entry). e.pair) es
unfolding pairs_from firsts zip_pairs pair_of
side_by_side [] bs ns = refl
side_by_side (e ∷ es) bs ns = ap (λ (l : List Pair). e.pair ∷ l) (side_by_side es bs ns)

module _ (es : List Entry) (h : length es ≤ max_entries) where
  filled_start : (f : Entry → ℕ) → filled (map f es) ≡ map f es ++ drop (length (map f es)) (replicate max_entries 0)
  unfolding filled
  filled_start f = sets_start (replicate max_entries 0) (map f es) (omega (arith, length-map es f, length-replicate {A = ℕ} max_entries 0))

  filled_at : (f : Entry → ℕ) (i : ℕ) (d : Entry) → i < length es → get_or (filled (map f es)) i 0 ≡ f (get_or es i d)
  filled_at f i d l =
      let m = length-map es f in
      ap (λ (ns : List ℕ). get_or ns i 0) (filled_start f)
      ∙ get_or-append (map f es) (drop (length (map f es)) (replicate max_entries 0)) 0 i (omega arith) ∙ map_at f es i d l

  none : Entry
  none = entry 0 0 (pair_of 0 0)

  read : (i : ℕ) → i < length es → entry_at (flat_of es) (0 + i) ≡ get_or es i none
  unfolding entry_at flat_of entry pair_of
  read i l =
      let z : 0 + i ≡ i = omega arith in
      rw z
      (λ t. entry (filled_at (λ (e : Entry). e.position) i none l t) (filled_at (λ (e : Entry). e.address) i none l t)
      (pair_of (filled_at (λ (e : Entry). e.pair.block) i none l t) (filled_at (λ (e : Entry). e.pair.number) i none l t)))

-- a flat listing of as many entries as it has places holds these entries, in their order
holds : (es : List Entry) → length es ≤ max_entries → entries_in (flat_of es) ≡ es
unfolding entries_in flat_of
holds es h = all_read (entry_at (flat_of es)) (none es h) 0 es (read es h)

-- its blocks and numbers side by side are the listed pairs, in their order
pairs : (es : List Entry) → length es ≤ max_entries → pairs_from (flat_of es).count (flat_of es).blocks (flat_of es).numbers ≡ map (λ (e : Entry). e.pair) es
unfolding flat_of
pairs es h =
    (λ t. pairs_from (length es) (filled_start es h (λ (e : Entry). e.pair.block) t) (filled_start es h (λ (e : Entry). e.pair.number) t))
    ∙ side_by_side es _ _

pub promises : Promises
promises = record { holds = holds; pairs = pairs }
