-- In a sound picture no two listed positions share an address, and no two listed entries share block and number.
use Prim.Native.Nat.{ℕ, suc}
use mathlib.Core.Path.{◌≡◌, subst}
use mathlib.Core.Bool.{true, false}
use mathlib.Core.List.{List, [], ◌∷◌, ◌++◌}
use borrow.Author.Tests.{eqb-false}
use lib.Dec.{eqb}
use Rattle.laws.specs.Bools.{clash}
use Rattle.laws.specs.Alls.{All, all_nil, all_cons, all_head, all_tail, all_append, all_map, all_mapped, all_of, all_turn, Pairwise, pairwise_nil, pairwise_cons, pairwise_head, pairwise_tail, pairwise_append, pairwise_mapped, pairwise_at}
use Rattle.rules.specs.Picture.{Pair, same_pair, Row, Picture, Kept, nothing, kept, kept_in, pairs_of}
use Rattle.rules.specs.Listing.{Entry, Listed, entry, entries_of, listed_of, entries_from, listed_from, listing, listed_positions}
use Rattle.rules.specs.Claims.{address_at, pair_at, Distinct}
use Rattle.rules.proofs.Pairs.{Differ, same_self}
use Rattle.rules.proofs.Sound.{Disjoint, Apart, Proper, RowsApart, RowProper, SoundRows}

abbrev OtherAddress : ℕ → Listed → Type 0
OtherAddress a l = eqb a l.address ≡ false

abbrev OtherAddresses : Listed → Listed → Type 0
OtherAddresses k l = OtherAddress k.address l

abbrev OtherPair : Pair → Entry → Type 0
OtherPair g e = Differ g e.pair

abbrev OtherPairs : Entry → Entry → Type 0
OtherPairs d e = OtherPair d.pair e

-- the rows that are apart from what one row keeps list no address and no pair of it
listed_apart : (a : ℕ) (ps : List Pair) (x : ℕ) (rows : List Row) → All (λ (r : Row). Apart (kept a ps) (kept_in r)) rows
    → All (OtherAddress a) (listed_from x rows)
unfolding listed_from listed_of
listed_apart a ps x [] h = all_nil
listed_apart a ps x (r ∷ rows) h = all_append (one (kept_in r) (all_head h)) (listed_apart a ps (suc x) rows (all_tail h))
  where
    one : (k : Kept) → Apart (kept a ps) k → All (OtherAddress a) (listed_of x k)
    one nothing h = all_nil
    one (kept b qs) h = all_cons h.0 all_nil

entries_apart : (g : Pair) (x : ℕ) (rows : List Row) → All (λ (r : Row). All (Differ g) (pairs_of (kept_in r))) rows
    → All (OtherPair g) (entries_from x rows)
unfolding entries_from entries_of pairs_of entry
entries_apart g x [] h = all_nil
entries_apart g x (r ∷ rows) h = all_append (one (kept_in r) (all_head h)) (entries_apart g (suc x) rows (all_tail h))
  where
    one : (k : Kept) → All (Differ g) (pairs_of k) → All (OtherPair g) (entries_of x k)
    one nothing h = all_nil
    one (kept b qs) h = all_mapped (entry x b) h

apart_pairs : (a : ℕ) (ps : List Pair) (k : Kept) → Apart (kept a ps) k → Disjoint ps (pairs_of k)
unfolding pairs_of
apart_pairs a ps nothing h = all_of ps (λ g. all_nil)
apart_pairs a ps (kept b qs) h = h.1

-- every two listed positions, and every two entries
listed_differ : (x : ℕ) (rows : List Row) → Pairwise RowsApart rows → Pairwise OtherAddresses (listed_from x rows)
unfolding listed_from listed_of
listed_differ x [] h = pairwise_nil
listed_differ x (r ∷ rows) h = one (kept_in r) (pairwise_head h) (listed_differ (suc x) rows (pairwise_tail h))
  where
    one : (k : Kept) → All (λ (s : Row). Apart k (kept_in s)) rows → Pairwise OtherAddresses (listed_from (suc x) rows)
        → Pairwise OtherAddresses (listed_of x k ++ listed_from (suc x) rows)
    one nothing h m = m
    one (kept a ps) h m = pairwise_cons (listed_apart a ps (suc x) rows h) m

entries_differ : (x : ℕ) (rows : List Row) → Pairwise RowsApart rows → All RowProper rows → Pairwise OtherPairs (entries_from x rows)
unfolding entries_from entries_of entry
entries_differ x [] h k = pairwise_nil
entries_differ x (r ∷ rows) h k = one (kept_in r) (pairwise_head h) (all_head k) (entries_differ (suc x) rows (pairwise_tail h) (all_tail k))
  where
    one : (k : Kept) → All (λ (s : Row). Apart k (kept_in s)) rows → Proper k → Pairwise OtherPairs (entries_from (suc x) rows)
        → Pairwise OtherPairs (entries_of x k ++ entries_from (suc x) rows)
    one nothing h k m = m
    one (kept a ps) h k m =
        pairwise_append (pairwise_mapped (entry x a) k.0) m
        (all_mapped (entry x a)
        (all_map (λ (g : Pair) (n : All (λ (s : Row). All (Differ g) (pairs_of (kept_in s))) rows). entries_apart g (suc x) rows n)
        (all_turn rows ps (all_map (λ (s : Row) (n : Apart (kept a ps) (kept_in s)). apart_pairs a ps (kept_in s) n) h))))

pub sound_distinct : (p : Picture) → SoundRows p.rows → Distinct p
unfolding address_at pair_at listing listed_positions
sound_distinct p h =
    record {
      addresses = λ i j l m e. eqb-false _ _ (pairwise_at _ i j l m (listed_differ 1 p.rows h.apart)) e;
      pairs = λ i j l m e. clash (subst (λ (g : Pair). same_pair (pair_at p i) g ≡ true) e (same_self (pair_at p i))) (pairwise_at _ i j l m (entries_differ 1 p.rows h.apart h.proper));
    }
