-- What a flat listing stands for.
use Rattle.std.specs.Prelude.{ℕ, List, map, length, replicate, get_or}
use Rattle.std.proofs.lemmas.List.Edits.{sets}
use Rattle.laws.specs.Lists.{up_from}
use Rattle.rules.specs.House.{max_entries}
use Rattle.rules.specs.Listing.{Entry, entry}
use Rattle.wire_pairs.specs.View.{pair_of}
use Rattle.ring_listing.specs.declared.Listing.{Listing}

-- as many places as a listing has at most, zeros behind those that are filled
unfoldable pub filled : List ℕ → List ℕ
filled ns = sets (replicate max_entries 0) 0 ns

-- the flat listing of these entries
unfoldable pub flat_of : List Entry → Listing
flat_of es =
    record {
      count = length es;
      positions = filled (map (λ (e : Entry). e.position) es);
      addresses = filled (map (λ (e : Entry). e.address) es);
      blocks = filled (map (λ (e : Entry). e.pair.block) es);
      numbers = filled (map (λ (e : Entry). e.pair.number) es);
    }

-- the entry at a place of a flat listing, and the entries that it holds
unfoldable pub entry_at : Listing → ℕ → Entry
entry_at l i = entry (get_or l.positions i 0) (get_or l.addresses i 0) (pair_of (get_or l.blocks i 0) (get_or l.numbers i 0))

unfoldable pub entries_in : Listing → List Entry
entries_in l = map (entry_at l) (up_from 0 l.count)
