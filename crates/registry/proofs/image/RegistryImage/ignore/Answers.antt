-- What is told of the entries, then the ending.
use Prim.Native.Nat.{◌-◌, ◌≤◌, suc}
use Rattle.laws.specs.Buffers.{wrote_along}
use Rattle.ring_entries.specs.Verdicts.{counts_for, struck, verdict_of}
use Rattle.registry.proofs.Doing.{done, end_room, front_room}
use Rattle.registry.proofs.Places.{counted_at_lem, inside}
use Rattle.registry.proofs.Ring.{changed_full, changed_marks, changed_rows, ring_length, ring_marks, ring_rows}
use Rattle.registry.proofs.Telling.{told_rows}
use Rattle.ring_tell.specs.Told.{rows_told}
use Rattle.ring_state.specs.State.{state_of}
use Rattle.registry.specs.View.{view_of}
use Rattle.registry.specs.declared.image.RegistryImage.{RegistryImage}
use Rattle.row_entry.specs.View.{row_of, rows_of}
use Rattle.rules.specs.Ending.{told}
use Rattle.rules.specs.House.{max_units}
use Rattle.rules.specs.Order.{Order, encode_all}
use Rattle.rules.specs.Picture.{Row, seat_at, with_rows}
use Rattle.rules.specs.Step.{rows_separately, change_rows, on_counted}
use borrow.Author.Rules.{rules}
use lib.ListN.{drop, length}
use mathlib.Core.Bool.{true}
use mathlib.Core.List.{List, [], ◌++◌, append-nil, map}
use mathlib.Core.Path.{◌≡◌, ◌∙◌, ap, refl, subst, sym}
use native.Mathlib.Omega.{arith}
use Rattle.registry.proofs.image.RegistryImage.ignore.Goals as goal

pub all_counted-requires : goal.all_counted-requires
all_counted-requires c =
    let s : RegistryImage = c.args.self.now in
    let full : length s.entries ≡ max_units = search (rules, c.well_formed) in
    omega (arith, inside s c.args.position.0 c.requires.0, ring_length s.units s.entries full c.unit_count-n.ensures, c.unit_count-n.ensures)

pub tell_entries-at-requires : goal.tell_entries-at-requires
unfolding view_of change_rows with_rows
tell_entries-at-requires c =
    let s : RegistryImage = c.args.self.now in
    let x = c.args.position.0 in
    let full : length s.entries ≡ max_units = search (rules, c.well_formed) in
    let n = c.unit_count-n.ensures in
    let mine = ring_rows s.units s.entries full n in
    let new = c.all_counted.new.entries in
    let long : length new ≡ c.unit_count-n.result = c.all_counted.auto.entries ∙ ring_length s.units s.entries full n in
    let counts = counts_for (verdict_of c.args.verdict) c.args.address.0 in
    let f = struck true c.args.address.0 in
    let own : map row_of new ≡ on_counted counts f (seat_at (rows_of s.units s.entries) x) =
    counted_at_lem s x c.requires.0 counts f (c.all_counted.ensures.0 ∙ ap (λ (rs : List Row). on_counted counts f (seat_at rs (suc (x - 1)))) mine) in
    let rows_after : List Row = on_counted counts f (seat_at (view_of s).rows x) in
    let after = new ++ drop c.unit_count-n.result s.entries in
    let rows : rows_of s.units after ≡ rows_after = changed_rows s.units s.entries full n new long ∙ own in
    let told-all : told rows_separately (view_of s) (with_rows rows_after (view_of s)) ++ [] ≡ rows_told (state_of s.state.0) s.size (view_of s).rows (rows_of s.units after) =
    append-nil _ ∙ told_rows (view_of s) _ ∙ ap (rows_told (state_of s.state.0) s.size (view_of s).rows) (sym rows) in
    let theirs = ring_rows s.units after (changed_full s.units s.entries full n new long) n in (
      c.requires.1,
      subst (λ (os : List Order). length (encode_all s.pass os) ≤ length c.args.out.now) (λ t. rows_told (state_of s.state.0) s.size (sym mine t) (sym theirs t))
          (front_room (view_of s) (change_rows rows_after (view_of s)) refl told-all refl c.args.out.now c.requires.2),
    )

pub finish-requires : goal.finish-requires
unfolding view_of change_rows with_rows
finish-requires c =
    let s : RegistryImage = c.args.self.now in
    let x = c.args.position.0 in
    let full : length s.entries ≡ max_units = search (rules, c.well_formed) in
    let n = c.unit_count-n.ensures in
    let mine = ring_rows s.units s.entries full n in
    let new = c.all_counted.new.entries in
    let long : length new ≡ c.unit_count-n.result = c.all_counted.auto.entries ∙ ring_length s.units s.entries full n in
    let counts = counts_for (verdict_of c.args.verdict) c.args.address.0 in
    let f = struck true c.args.address.0 in
    let own : map row_of new ≡ on_counted counts f (seat_at (rows_of s.units s.entries) x) =
    counted_at_lem s x c.requires.0 counts f (c.all_counted.ensures.0 ∙ ap (λ (rs : List Row). on_counted counts f (seat_at rs (suc (x - 1)))) mine) in
    let rows_after : List Row = on_counted counts f (seat_at (view_of s).rows x) in
    let after = new ++ drop c.unit_count-n.result s.entries in
    let rows : rows_of s.units after ≡ rows_after = changed_rows s.units s.entries full n new long ∙ own in
    let told-all : told rows_separately (view_of s) (with_rows rows_after (view_of s)) ++ [] ≡ rows_told (state_of s.state.0) s.size (view_of s).rows (rows_of s.units after) =
    append-nil _ ∙ told_rows (view_of s) _ ∙ ap (rows_told (state_of s.state.0) s.size (view_of s).rows) (sym rows) in
    let theirs = ring_rows s.units after (changed_full s.units s.entries full n new long) n in
    let left : with_rows (rows_of s.units after) (view_of s) ≡ with_rows rows_after (view_of s) = ap (λ (rs : List Row). with_rows rs (view_of s)) rows in
    end_room (view_of s) (change_rows rows_after (view_of s)) refl told-all left c.args.out.now
    (wrote_along (λ t. encode_all s.pass (rows_told (state_of s.state.0) s.size (mine t) (theirs t))) c.tell_entries-at.ensures) c.requires.2

pub returns : goal.returns
unfolding view_of change_rows with_rows
returns c =
    let s : RegistryImage = c.args.self.now in
    let x = c.args.position.0 in
    let full : length s.entries ≡ max_units = search (rules, c.well_formed) in
    let n = c.unit_count-n.ensures in
    let mine = ring_rows s.units s.entries full n in
    let new = c.all_counted.new.entries in
    let long : length new ≡ c.unit_count-n.result = c.all_counted.auto.entries ∙ ring_length s.units s.entries full n in
    let counts = counts_for (verdict_of c.args.verdict) c.args.address.0 in
    let f = struck true c.args.address.0 in
    let own : map row_of new ≡ on_counted counts f (seat_at (rows_of s.units s.entries) x) =
    counted_at_lem s x c.requires.0 counts f (c.all_counted.ensures.0 ∙ ap (λ (rs : List Row). on_counted counts f (seat_at rs (suc (x - 1)))) mine) in
    let rows_after : List Row = on_counted counts f (seat_at (view_of s).rows x) in
    let after = new ++ drop c.unit_count-n.result s.entries in
    let rows : rows_of s.units after ≡ rows_after = changed_rows s.units s.entries full n new long ∙ own in
    let told-all : told rows_separately (view_of s) (with_rows rows_after (view_of s)) ++ [] ≡ rows_told (state_of s.state.0) s.size (view_of s).rows (rows_of s.units after) =
    append-nil _ ∙ told_rows (view_of s) _ ∙ ap (rows_told (state_of s.state.0) s.size (view_of s).rows) (sym rows) in
    let theirs = ring_rows s.units after (changed_full s.units s.entries full n new long) n in
    let left : with_rows (rows_of s.units after) (view_of s) ≡ with_rows rows_after (view_of s) = ap (λ (rs : List Row). with_rows rs (view_of s)) rows in
    done (view_of s) (change_rows rows_after (view_of s)) refl told-all left c.args.out.now
    (wrote_along (λ t. encode_all s.pass (rows_told (state_of s.state.0) s.size (mine t) (theirs t))) c.tell_entries-at.ensures) c.finish.ensures.0
    (λ m.
    c.finish.ensures.1
    (record {
      state = m.state;
      delay = m.delay;
      units = m.units;
      entries = changed_marks s.units s.entries full n new long m.entries (c.all_counted.ensures.1 (ring_marks s.units s.entries full n m.entries));
    }))
