-- A row that is bad, and one that is seated.
use Prim.Native.Nat.{◌-◌, ◌<◌, ◌≤◌}
use mathlib.Core.Path.{◌≡◌, refl, sym, ◌∙◌, ap}
use mathlib.Core.Bool.{Bool, true, false, not, ◌&&◌, ◌||◌}
use mathlib.Core.List.{List, append-nil, map}
use native.Mathlib.Omega.{arith}
use borrow.Author.Tests.{lt-ltb, le-ltb, le-leb, lt-leb, leb-true, leb-false}
use lib.Dec.{leb, ltb}
use lib.ListN.{length, length-append, length-replicate, replicate, set}
use Rattle.laws.specs.Bools.{clash, and_left, and_right, and_true, or_true_left, or_true_right, cond_false}
use Rattle.laws.specs.Views.{firsts_few}
use Rattle.std.proofs.lemmas.List.{map-set}
use Rattle.rules.specs.House.{max_nodes, max_units, max_pairs}
use Rattle.rules.specs.Picture.{Pair}
use Rattle.rules_diff.specs.Differences.{Seen, present, twice, is_bad}
use Rattle.wire_pairs.specs.View.{pair_of, pairs_from, zip_pairs}
use Rattle.wire_pairs.proofs.Arrays.{pairs_length}
use Rattle.row_entry.specs.declared.NodeEntry.{NodeEntry}
use Rattle.row_node.specs.declared.NodeRow.{NodeRow}
use Rattle.row_node.specs.View.{held_pairs, counted_pairs, node_row_of}
use Rattle.diff_rows.specs.declared.Rows.{Rows}
use Rattle.diff_rows.specs.Gathering.{gathered, seen_in, gathering_of}
use Rattle.std.specs.Prelude.{Some}

-- as many pairs as an entry counts, and no others than it holds where that is no more than it has places for
pub counted_few : (e : NodeEntry) → e.count ≤ max_pairs → counted_pairs e ≡ held_pairs e
unfolding counted_pairs
counted_few e h = let z : e.count - max_pairs ≡ 0 = omega arith in rw z (append-nil (held_pairs e))

counted_length : (e : NodeEntry) → length e.blocks ≡ max_pairs → length e.numbers ≡ max_pairs → length (counted_pairs e) ≡ e.count
unfolding counted_pairs held_pairs
counted_length e h k =
    let l = pairs_length max_pairs e.blocks e.numbers h k e.count in
    let a = length-append (held_pairs e) (replicate (e.count - max_pairs) (pair_of 0 0)) in
    let b = length-replicate (e.count - max_pairs) (pair_of 0 0) in
    omega arith

-- a row that does not fit is bad, and one that does is where a pair stands twice
module _ (r : NodeRow) where
  bad_low : r.position.0 < 1 → is_bad (node_row_of r) ≡ true
  unfolding is_bad node_row_of
  bad_low h = let e = lt-leb 1 r.position.0 h in rw e refl

  bad_high : max_units < r.position.0 → is_bad (node_row_of r) ≡ true
  unfolding is_bad node_row_of
  bad_high h = let a = le-leb 1 r.position.0 (omega arith) in let b = le-ltb r.position.0 max_nodes (omega arith) in rw (a, b) refl

  bad_many : length r.entry.blocks ≡ max_pairs → length r.entry.numbers ≡ max_pairs → max_pairs < r.entry.count → is_bad (node_row_of r) ≡ true
  unfolding is_bad node_row_of
  bad_many h k l =
      let n = counted_length r.entry h k in
      let e = lt-ltb max_pairs (length (counted_pairs r.entry)) (omega arith) in
      or_true_left (not (leb 1 r.position.0 && ltb r.position.0 max_nodes) || ltb max_pairs (length (counted_pairs r.entry))) (twice (counted_pairs r.entry))
      (or_true_right (not (leb 1 r.position.0 && ltb r.position.0 max_nodes)) (ltb max_pairs (length (counted_pairs r.entry))) e)

  pub unfit_bad : length r.entry.blocks ≡ max_pairs → length r.entry.numbers ≡ max_pairs
      → leb 1 r.position.0 && leb r.position.0 max_units && leb r.entry.count max_pairs ≡ false → is_bad (node_row_of r) ≡ true
  unfit_bad h k e = go (leb 1 r.position.0) refl (leb r.position.0 max_units) refl (leb r.entry.count max_pairs) refl
    where
      go : (a : Bool) → leb 1 r.position.0 ≡ a → (b : Bool) → leb r.position.0 max_units ≡ b → (d : Bool) → leb r.entry.count max_pairs ≡ d
          → is_bad (node_row_of r) ≡ true
      go false f b g d i = bad_low (leb-false 1 r.position.0 f)
      go true f false g d i = bad_high (leb-false r.position.0 max_units g)
      go true f true g false i = bad_many h k (leb-false r.entry.count max_pairs i)
      go true f true g true i = clash (and_true _ _ (and_true _ _ f g) i) e

  pub fit : leb 1 r.position.0 && leb r.position.0 max_units && leb r.entry.count max_pairs ≡ true
      → (1 ≤ r.position.0) × (r.position.0 ≤ max_units) × (r.entry.count ≤ max_pairs)
  fit e =
      let f = and_left _ _ e in
      (leb-true 1 r.position.0 (and_left _ _ f), leb-true r.position.0 max_units (and_right _ _ f), leb-true r.entry.count max_pairs (and_right _ _ e))

  pub bad_twice : 1 ≤ r.position.0 → r.position.0 ≤ max_units → r.entry.count ≤ max_pairs → is_bad (node_row_of r) ≡ twice (held_pairs r.entry)
  unfolding is_bad node_row_of held_pairs pairs_from
  bad_twice h k l =
      let a = le-leb 1 r.position.0 h in
      let b = lt-ltb r.position.0 max_nodes (omega arith) in
      let c = counted_few r.entry l in
      let few = firsts_few (λ (p : Pair). p) r.entry.count (zip_pairs r.entry.blocks r.entry.numbers) in
      let d = le-ltb max_pairs (length (held_pairs r.entry)) (omega arith) in
      rw (a, b, c, d) refl

-- a row in its seat
pub seated : (s : Rows) (r : NodeRow) → is_bad (node_row_of r) ≡ false → r.entry.count ≤ max_pairs → s.last < r.position.0
    → gathering_of (record { seats = set s.seats (r.position.0 - 1) (Some r); last = r.position.0; bad = s.bad; falling = s.falling })
    ≡ gathered (gathering_of s) (node_row_of r)
unfolding gathering_of gathered node_row_of seen_in
seated s r f k l =
    sym (cond_false _ _ f ∙ cond_false _ _ (lt-leb r.position.0 s.last l)
    ∙ ap (λ (l : List Seen). record { bad = s.bad; falling = s.falling; last = r.position.0; seats = l })
    (ap (λ (ps : List Pair). set (map seen_in s.seats) (r.position.0 - 1) (present r.entry.address.0 ps)) (counted_few r.entry k)
    ∙ sym (map-set seen_in s.seats (r.position.0 - 1) (Some r))))
