-- What is left to look at decides.
use Prim.Native.Nat.{ℕ, ◌+◌, min}
use lib.ListN.{length, take}
use mathlib.Core.List.{List, map}
use mathlib.Core.Path.{◌≡◌, ◌∙◌, ap, sym}
use native.Mathlib.Omega.{arith}
use Rattle.std.proofs.lemmas.List.{take_min}
use Rattle.rules.specs.House.{max_units}
use Rattle.rules.specs.Listing.{entries_from, first_of}
use Rattle.rules.specs.Picture.{Pair, holds}
use Rattle.wire_pairs.specs.View.{pair_in}
use Rattle.row_entry.proofs.Arrays.{slice_here, slice_past}
use Rattle.row_entry.specs.declared.NodeEntry.{NodeEntry}
use Rattle.row_entry.specs.View.{row_of}
use Rattle.ring_lookup.proofs.Seeking.{first_here, first_none, first_on}
use Rattle.ring_lookup.proofs.find.Goals as goal

pub loop-i-init : goal.loop-i-init
loop-i-init c =
    let es = c.args.entries.now in
    let n : c.clamp.result ≡ min max_units (length es) = omega (arith, c.clamp.ensures) in
    ap (λ (l : List NodeEntry). first_of (pair_in c.args.pair) (entries_from 1 (map row_of l))) (ap (λ (k : ℕ). take k es) n ∙ take_min max_units es)

pub returns-then-holds : goal.returns-then-holds
returns-then-holds c =
    let a = pair_in c.args.pair in
    let es = take c.clamp.result c.args.entries.now in
    sym (first_here a (c.loop-i.i + 1) _ (slice_here es c.loop-i.i _ c.loop-i-test.true) (ap (λ (l : List Pair). holds l a) (sym c.pairs.ensures) ∙ sym c.holds.ensures ∙ c.if-holds.true))
    ∙ c.loop-i.invariant

pub loop-i-preserved : goal.loop-i-preserved
loop-i-preserved c =
    let a = pair_in c.args.pair in
    let es = take c.clamp.result c.args.entries.now in
    first_on a (c.loop-i.i + 1) _ (slice_here es c.loop-i.i _ c.loop-i-test.true) (ap (λ (l : List Pair). holds l a) (sym c.pairs.ensures) ∙ sym c.holds.ensures ∙ c.if-holds.false)
    c.loop-i.invariant

pub returns : goal.returns
returns c =
    let es = take c.clamp.result c.args.entries.now in
    sym (first_none (pair_in c.args.pair) (c.loop-i.i + 1) (slice_past es c.loop-i.i c.loop-i-test.false)) ∙ c.loop-i.invariant
