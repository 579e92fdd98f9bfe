-- The lines of a position are its own, then the pairs gone, then the pairs new.
use Prim.Native.Nat.{ℕ, ◌+◌, ◌≤◌}
use native.Mathlib.Nat.{not-suc-le-zero}
use mathlib.Core.Path.{◌≡◌, refl, sym, ap}
use mir.Val.{bool_byte}
use Rattle.std.specs.Option.{is_some}
use Rattle.std.specs.Prelude.{Option, None, Some}
use Rattle.diff_changes.specs.declared.LineKind.{LineKind}
use Rattle.diff_changes.specs.declared.LineKind.TheVariants as kinds
use mathlib.Core.Bool.{Bool, true, false, cond, not}
use mathlib.Core.List.{List, [], ◌∷◌, ◌++◌, map}
use native.Mathlib.Omega.{arith}
use lib.Dec.{eqb}
use lib.ListN.{length, length-append, length-map}
use Rattle.laws.specs.Lists.{any, select}
use Rattle.laws.specs.Alls.{all_of, select_all}
use Rattle.rules.specs.Picture.{Pair, holds}
use Rattle.rules.specs.Ending.{missing}
use Rattle.rules_diff.specs.Differences.{Seen, absent, present, position_new, address_changed, pair_gone, pair_new, address_lines, lines_at}
use Rattle.diff_changes.specs.Changes.{number_of, told, seen_pairs, seen_address, head_kind, head_lines, gone_in, new_in}

-- nothing is missing from none, and everything in none
missing_none : (ps : List Pair) → missing ps [] ≡ ps
unfolding missing holds any
missing_none ps = select_all (λ (a : Pair). not (holds [] a)) (all_of ps (λ (a : Pair). refl))

-- the three parts
pub in_parts : (x : ℕ) (s t : Seen)
    → lines_at x s t ≡ head_lines (head_kind s t) x (seen_address t) ++ map (pair_gone x) (gone_in s t) ++ map (pair_new x) (new_in s t)
unfolding lines_at address_lines head_kind head_lines seen_address gone_in new_in seen_pairs missing select
in_parts x absent absent = refl
in_parts x absent (present b qs) = ap (λ (l : List Pair). position_new x b ∷ map (pair_new x) l) (sym (missing_none qs))
in_parts x (present a ps) absent = refl
in_parts x (present a ps) (present b qs) = go (eqb a b)
  where
    go : (e : Bool) → cond e [] (address_changed x b ∷ []) ++ map (pair_gone x) (missing ps qs) ++ map (pair_new x) (missing qs ps)
        ≡ head_lines (cond e 0 3) x b ++ map (pair_gone x) (missing ps qs) ++ map (pair_new x) (missing qs ps)
    go true = refl
    go false = refl

-- how many they are, without a line of the position's own and with one
module _ (s t : Seen) where
  own : ℕ
  own = length (head_lines (head_kind s t) 0 (seen_address t))

  all_lines : length (lines_at 0 s t) ≡ own + (length (gone_in s t) + length (new_in s t))
  unfolding own
  all_lines =
      let h = head_lines (head_kind s t) 0 (seen_address t) in
      let g = map (pair_gone 0) (gone_in s t) in
      let n = map (pair_new 0) (new_in s t) in
      let a = ap length (in_parts 0 s t) in
      let b = length-append (h ++ g) n in
      let c = length-append h g in
      let d = length-map (gone_in s t) (pair_gone 0) in
      let e = length-map (new_in s t) (pair_new 0) in
      omega arith

  without_own : head_kind s t ≡ 0 → length (lines_at 0 s t) ≡ length (gone_in s t) + length (new_in s t)
  unfolding own head_lines
  without_own h = let e = ap (λ (k : ℕ). length (head_lines k 0 (seen_address t))) h in omega (arith, all_lines, e)

one_line : (s t : Seen) → (head_kind s t ≡ 0 → ⊥) → own s t ≡ 1
unfolding own head_kind head_lines seen_address
one_line absent absent h = absurd (h refl)
one_line absent (present b qs) h = refl
one_line (present a ps) absent h = refl
one_line (present a ps) (present b qs) h = go (eqb a b) h
  where
    go : (e : Bool) → (◌≡◌ {A = ℕ} (cond e 0 3) 0 → ⊥) → length (head_lines (cond e 0 3) 0 b) ≡ 1
    go true h = absurd (h refl)
    go false h = refl

with_own : (s t : Seen) → (head_kind s t ≡ 0 → ⊥) → length (lines_at 0 s t) ≡ length (gone_in s t) + length (new_in s t) + 1
with_own s t h = omega (arith, all_lines s t, one_line s t h)

-- a kind has a number
numbered : (k : LineKind) → 1 ≤ number_of k
numbered kinds.PositionGone = omega arith
numbered kinds.PositionNew = omega arith
numbered kinds.AddressChanged = omega arith
numbered kinds.PairGone = omega arith
numbered kinds.PairNew = omega arith

-- how many lines there are, by the kind that the code finds
pub all_told : (o : Option LineKind) (s t : Seen) → told o ≡ head_kind s t
    → (length (lines_at 0 s t) ≡ bool_byte (is_some o) + length (gone_in s t) + length (new_in s t)) × (bool_byte (is_some o) ≤ 1)
all_told None s t e = (omega (arith, without_own s t (sym e)), omega arith)
all_told (Some k) s t e =
    (omega (arith, with_own s t (λ h. let z : 1 ≤ 0 = omega (arith, numbered k, e, h) in not-suc-le-zero z)), omega arith)
