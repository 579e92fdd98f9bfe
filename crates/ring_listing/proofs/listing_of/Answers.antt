-- At every turn the nodes passed are listed.
use Prim.Native.Nat.{ℕ, min}
use lib.ListN.{length, take}
use mathlib.Core.List.{List, [], map}
use mathlib.Core.Path.{◌≡◌, ◌∙◌, ap}
use native.Mathlib.Omega.{arith}
use Rattle.std.proofs.Common.{take_all}
use Rattle.std.proofs.lemmas.List.{take_min, length-take-le}
use Rattle.rules.specs.House.{max_units}
use Rattle.rules.specs.Listing.{entries_from}
use Rattle.row_entry.specs.declared.NodeEntry.{NodeEntry}
use Rattle.row_entry.specs.View.{row_of}
use Rattle.ring_listing.specs.View.{flat_of}
use Rattle.ring_listing.proofs.Listed.{flat_count, nodes_next}
use Rattle.ring_listing.proofs.listing_of.Goals as goal

pub loop-i-init : goal.loop-i-init
unfolding entries_from
loop-i-init c = (omega (arith, flat_count [] c.none-listing.ensures), c.none-listing.ensures)

pub loop-i-preserved : goal.loop-i-preserved
loop-i-preserved c =
    let w = c.loop-i.invariant in (
      omega (arith, w.0, c.list.ensures.count),
      c.list.ensures.entries _ w.1 ∙ ap flat_of (nodes_next (take c.clamp.result c.args.nodes.now) c.loop-i.i _ c.loop-i-test.true),
    )

pub returns : goal.returns
returns c =
    let w = c.loop-i.invariant in
    let es = c.args.nodes.now in
    let n : c.clamp.result ≡ min max_units (length es) = omega (arith, c.clamp.ensures) in
    let all = take_all c.loop-i.i (take c.clamp.result es) c.loop-i-test.false ∙ ap (λ (k : ℕ). take k es) n ∙ take_min max_units es in
    let d = w.1 ∙ ap (λ (l : List NodeEntry). flat_of (entries_from 1 (map row_of l))) all in
    (d, omega (arith, flat_count (entries_from 1 (map row_of (take max_units es))) d, w.0, n, length-take-le c.clamp.result es (omega (arith, n))))
