-- What the new entries and the listing have the box say, then the ending.
use Prim.Native.Nat.{◌+◌, ◌-◌, ◌≤◌}
use Rattle.laws.specs.Buffers.{wrote_along}
use Rattle.registry.proofs.Rescanning.{change_room, closing_room, rescanned_done, state_ok}
use Rattle.registry.specs.View.{view_of}
use Rattle.registry.specs.declared.image.RegistryImage.{RegistryImage}
use Rattle.ring_listing.proofs.Listed.{flat_count}
use Rattle.ring_listing.proofs.Promises.{promises}
use Rattle.ring_listing.specs.declared.Listing.{Listing}
use Rattle.ring_state.specs.State.{runs, state_of}
use Rattle.ring_tell.specs.Told.{change_told}
use Rattle.row_entry.specs.View.{row_of, rows_of}
use Rattle.rules.specs.Listing.{listed_pairs}
use Rattle.rules.specs.Order.{Order, encode_all}
use Rattle.rules.specs.Picture.{Picture}
use Rattle.rules.specs.Step.{rescan, rescanned}
use Rattle.wire_pairs.proofs.Arrays.{zip_first}
use Rattle.wire_pairs.specs.View.{pairs_from, zip_pairs}
use lib.ListN.{length, take}
use mathlib.Core.Bool.{false}
use mathlib.Core.List.{List, map}
use mathlib.Core.Path.{◌≡◌, ◌∙◌, ap, subst, sym}
use native.Mathlib.Numerals.{add-one}
use native.Mathlib.Omega.{arith}
use Rattle.registry.proofs.image.RegistryImage.rescan.Goals as goal

pub shared_ref_as_front-tell_ring_change : goal.shared_ref_as_front-tell_ring_change
shared_ref_as_front-tell_ring_change c = omega (arith, flat_count _ c.listing-listed.ensures.0, c.listing-listed.ensures.1)

pub tell_ring_change-told-requires : goal.tell_ring_change-told-requires
unfolding view_of runs rescan rescanned listed_pairs
tell_ring_change-told-requires c =
    let image : RegistryImage = c.args.self.now in
    let l = c.listing-listed.result in
    let left : ◌≡◌ {A = Picture} (record { state = state_of image.state.0; pass = image.pass + 1; size = image.size; delay = false; rows = rows_of (c.args.nodes - 1) c.new_entries-self.result })
    (rescan c.args.nodes (view_of image)).picture =
    (λ i.
    record {
      state = state_ok _ c.requires.5 i;
      pass = add-one image.pass i;
      size = image.size;
      delay = false;
      rows = c.new_entries-self.ensures.0 (c.args.nodes - 1) (omega (arith, c.requires.1)) i;
    }) in
    let listed : pairs_from l.count l.blocks l.numbers ≡ listed_pairs (view_of image) =
    let made = c.listing-listed.ensures in ap (λ (l : Listing). pairs_from l.count l.blocks l.numbers) made.0 ∙ promises.pairs _ made.1 in
    let told : change_told image.size (map row_of c.ring.result.now) (zip_pairs (take l.count l.blocks) (take l.count l.numbers))
    ≡ change_told image.size (rows_of (c.args.nodes - 1) c.new_entries-self.result) (pairs_from l.count l.blocks l.numbers) =
    λ t. change_told image.size (c.ring.ensures.rows t) (zip_first l.count l.blocks l.numbers t) in (
      c.requires.3,
      omega (arith, c.ring.ensures.length),
      subst (λ (os : List Order). length (encode_all (image.pass + 1) os) ≤ length c.args.out.now) (sym told)
          (change_room (view_of image) c.args.nodes c.requires.5 left listed c.args.out.now c.requires.2),
    )

pub finish-requires : goal.finish-requires
unfolding view_of runs rescan rescanned listed_pairs
finish-requires c =
    let image : RegistryImage = c.args.self.now in
    let l = c.listing-listed.result in
    let left : ◌≡◌ {A = Picture} (record { state = state_of image.state.0; pass = image.pass + 1; size = image.size; delay = false; rows = rows_of (c.args.nodes - 1) c.new_entries-self.result })
    (rescan c.args.nodes (view_of image)).picture =
    (λ i.
    record {
      state = state_ok _ c.requires.5 i;
      pass = add-one image.pass i;
      size = image.size;
      delay = false;
      rows = c.new_entries-self.ensures.0 (c.args.nodes - 1) (omega (arith, c.requires.1)) i;
    }) in
    let listed : pairs_from l.count l.blocks l.numbers ≡ listed_pairs (view_of image) =
    let made = c.listing-listed.ensures in ap (λ (l : Listing). pairs_from l.count l.blocks l.numbers) made.0 ∙ promises.pairs _ made.1 in
    let told : change_told image.size (map row_of c.ring.result.now) (zip_pairs (take l.count l.blocks) (take l.count l.numbers))
    ≡ change_told image.size (rows_of (c.args.nodes - 1) c.new_entries-self.result) (pairs_from l.count l.blocks l.numbers) =
    λ t. change_told image.size (c.ring.ensures.rows t) (zip_first l.count l.blocks l.numbers t) in
    closing_room (view_of image) c.args.nodes c.requires.5 left listed c.args.out.now c.requires.2
    (wrote_along (ap (encode_all (image.pass + 1)) told) c.tell_ring_change-told.ensures)

pub returns : goal.returns
unfolding view_of runs rescan rescanned listed_pairs
returns c =
    let image : RegistryImage = c.args.self.now in
    let l = c.listing-listed.result in
    let left : ◌≡◌ {A = Picture} (record { state = state_of image.state.0; pass = image.pass + 1; size = image.size; delay = false; rows = rows_of (c.args.nodes - 1) c.new_entries-self.result })
    (rescan c.args.nodes (view_of image)).picture =
    (λ i.
    record {
      state = state_ok _ c.requires.5 i;
      pass = add-one image.pass i;
      size = image.size;
      delay = false;
      rows = c.new_entries-self.ensures.0 (c.args.nodes - 1) (omega (arith, c.requires.1)) i;
    }) in
    let listed : pairs_from l.count l.blocks l.numbers ≡ listed_pairs (view_of image) =
    let made = c.listing-listed.ensures in ap (λ (l : Listing). pairs_from l.count l.blocks l.numbers) made.0 ∙ promises.pairs _ made.1 in
    let told : change_told image.size (map row_of c.ring.result.now) (zip_pairs (take l.count l.blocks) (take l.count l.numbers))
    ≡ change_told image.size (rows_of (c.args.nodes - 1) c.new_entries-self.result) (pairs_from l.count l.blocks l.numbers) =
    λ t. change_told image.size (c.ring.ensures.rows t) (zip_first l.count l.blocks l.numbers t) in
    rescanned_done (view_of image) c.args.nodes c.requires.5 left listed c.args.out.now c.requires.2
    (wrote_along (ap (encode_all (image.pass + 1)) told) c.tell_ring_change-told.ensures) c.finish.ensures.0
    (λ m. c.finish.ensures.1 (record { state = m.state; delay = omega arith; units = omega (arith, c.requires.1); entries = c.new_entries-self.ensures.1 }))
