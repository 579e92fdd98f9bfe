-- A look-up: the first entry of a ring that keeps the pair decides.
use Prim.Native.Nat.{ℕ, suc, ◌+◌}
use mathlib.Core.Path.{◌≡◌, refl, sym, ◌∙◌, ap}
use mathlib.Core.Bool.{Bool, true, false, cond, ◌||◌}
use mathlib.Core.List.{List, [], ◌∷◌, ◌++◌, map}
use native.Mathlib.Numerals.{add-one}
use Rattle.laws.specs.Lists.{any}
use Rattle.rules.specs.Picture.{Pair, Row, same_pair, holds, pairs_in}
use Rattle.rules.specs.Listing.{Entry, entry, entries_from, Lookup, found, not_found, first_of}
use Rattle.row_entry.specs.declared.NodeEntry.{NodeEntry}
use Rattle.row_entry.specs.View.{row_of}
use Rattle.row_entry.proofs.Entries.{entries_kept}

module _ (a : Pair) where
  -- among the pairs of one node, and then among the others
  first_among : (x b : ℕ) (ps : List Pair) (rest : List Entry) → first_of a (map (entry x b) ps ++ rest) ≡ cond (holds ps a) (found x b) (first_of a rest)
  unfolding first_of entry holds any
  first_among x b [] rest = refl
  first_among x b (p ∷ ps) rest = go (same_pair a p) (first_among x b ps rest)
    where
      go : (s : Bool) → first_of a (map (entry x b) ps ++ rest) ≡ cond (holds ps a) (found x b) (first_of a rest)
          → cond s (found x b) (first_of a (map (entry x b) ps ++ rest)) ≡ cond (s || holds ps a) (found x b) (first_of a rest)
      go true h = refl
      go false h = h

  first_row : (x : ℕ) (e : NodeEntry) {rows rest : List Row} → rows ≡ row_of e ∷ rest
      → first_of a (entries_from x rows) ≡ cond (holds (pairs_in (row_of e)) a) (found x e.address.0) (first_of a (entries_from (suc x) rest))
  unfolding entries_from
  first_row x e {rows} {rest} h =
      ap (λ (l : List Row). first_of a (entries_from x l)) h ∙ ap (λ (l : List Entry). first_of a (l ++ entries_from (suc x) rest)) (entries_kept x e)
      ∙ first_among x e.address.0 (pairs_in (row_of e)) (entries_from (suc x) rest)

  -- this node keeps the pair; it does not, and the others decide; there is no node
  pub first_here : (x : ℕ) (e : NodeEntry) {rows rest : List Row} → rows ≡ row_of e ∷ rest → holds (pairs_in (row_of e)) a ≡ true
      → first_of a (entries_from x rows) ≡ found x e.address.0
  first_here x e {rest = rest} h k = first_row x e h ∙ ap (λ (b : Bool). cond b (found x e.address.0) (first_of a (entries_from (suc x) rest))) k

  pub first_on : (x : ℕ) (e : NodeEntry) {rows rest : List Row} {whole : Lookup} → rows ≡ row_of e ∷ rest → holds (pairs_in (row_of e)) a ≡ false
      → first_of a (entries_from x rows) ≡ whole → first_of a (entries_from (x + 1) rest) ≡ whole
  first_on x e {rest = rest} h k l =
      rw (add-one x) (sym (first_row x e h ∙ ap (λ (b : Bool). cond b (found x e.address.0) (first_of a (entries_from (suc x) rest))) k) ∙ l)

  pub first_none : (x : ℕ) {rows : List Row} → rows ≡ [] → first_of a (entries_from x rows) ≡ not_found 17
  unfolding entries_from first_of
  first_none x h = ap (λ (l : List Row). first_of a (entries_from x l)) h
