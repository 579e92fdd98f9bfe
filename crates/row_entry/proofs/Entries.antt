-- What is listed of a node's entry.
use Prim.Native.Nat.{ℕ}
use mathlib.Core.Path.{◌≡◌, sym, ◌∙◌, ap}
use mathlib.Core.Bool.{true, false}
use mathlib.Core.List.{List, map}
use mathlib.Core.Logic.{◌⊎◌, inl, inr}
use Rattle.laws.specs.Bools.{decide}
use Rattle.rules.specs.Picture as rules
use Rattle.rules.specs.Picture.{Kept, kept_in, pairs_in}
use Rattle.rules.specs.Listing.{Entry, entry, entries_of}
use Rattle.row_entry.specs.declared.NodeEntry.{NodeEntry}
use Rattle.row_entry.specs.View.{row_of, is_listed}
use Rattle.row_entry.proofs.Marks.{kept_listed, kept_else}

-- what is listed of a node's entry: its address, with each pair that it keeps
pub entries_kept : (x : ℕ) (e : NodeEntry) → entries_of x (kept_in (row_of e)) ≡ map (entry x e.address.0) (pairs_in (row_of e))
unfolding entries_of pairs_in rules.pairs_of
entries_kept x e = go (decide (is_listed (row_of e)))
  where
    those : Kept → List Entry
    those k = map (entry x e.address.0) (rules.pairs_of k)

    go : (is_listed (row_of e) ≡ true) ⊎ (is_listed (row_of e) ≡ false) → entries_of x (kept_in (row_of e)) ≡ those (kept_in (row_of e))
    go (inl h) = ap (entries_of x) (kept_listed e h) ∙ sym (ap those (kept_listed e h))
    go (inr h) = ap (entries_of x) (kept_else e h) ∙ sym (ap those (kept_else e h))
