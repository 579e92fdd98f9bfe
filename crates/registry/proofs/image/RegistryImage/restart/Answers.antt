-- NOTOK, then the scan of the emptied entries.
use Prim.Native.Nat.{◌-◌, suc}
use Rattle.ring_entries.specs.Verdicts.{counts_for, struck, verdict_of}
use Rattle.registry.proofs.Places.{counted_at_lem, inside}
use Rattle.registry.proofs.Ring.{changed_full, changed_marks, changed_rows, ring_length, ring_marks, ring_rows}
use Rattle.registry.proofs.Scanning.{begins, first_room, notok_room, notok_wrote, second_room}
use Rattle.registry.specs.View.{view_of}
use Rattle.registry.specs.declared.image.RegistryImage.{RegistryImage}
use Rattle.row_entry.specs.View.{row_of, rows_of}
use Rattle.rules.specs.House.{max_units}
use Rattle.rules.specs.Order.{NOTOK}
use Rattle.rules.specs.Picture.{Row, seat_at, with_rows}
use Rattle.rules.specs.Step.{emptied, on_counted}
use borrow.Author.Rules.{rules}
use lib.ListN.{drop, length}
use mathlib.Core.Bool.{false}
use mathlib.Core.List.{List, [], ◌∷◌, ◌++◌, map}
use mathlib.Core.Path.{◌≡◌, ◌∙◌, ap, refl}
use native.Mathlib.Numerals.{add-one}
use native.Mathlib.Omega.{arith}
use Rattle.registry.proofs.image.RegistryImage.restart.Goals as goal

pub all_counted-requires : goal.all_counted-requires
all_counted-requires c =
    let s : RegistryImage = c.args.self.now in
    let full : length s.entries ≡ max_units = search (rules, c.well_formed) in
    omega (arith, inside s c.args.position.0 c.requires.0, ring_length s.units s.entries full c.unit_count-n.ensures, c.unit_count-n.ensures)

pub write_notice-at-requires : goal.write_notice-at-requires
unfolding view_of
write_notice-at-requires c =
    let s : RegistryImage = c.args.self.now in
    let rows_after : List Row = let args = c.args in map emptied (on_counted (counts_for (verdict_of args.verdict) args.address.0) (struck false args.address.0) (seat_at (view_of s).rows args.position.0)) in
    notok_room s.pass (add-one s.pass) c.args.out.now (first_room (view_of s) (NOTOK ∷ []) rows_after refl refl c.args.out.now c.requires.2)

pub scan-requires : goal.scan-requires
unfolding view_of with_rows
scan-requires c =
    let s : RegistryImage = c.args.self.now in
    let x = c.args.position.0 in
    let full : length s.entries ≡ max_units = search (rules, c.well_formed) in
    let n = c.unit_count-n.ensures in
    let mine = ring_rows s.units s.entries full n in
    let new = c.all_counted.new.entries in
    let long : length new ≡ c.unit_count-n.result = c.all_counted.auto.entries ∙ ring_length s.units s.entries full n in
    let counts = counts_for (verdict_of c.args.verdict) c.args.address.0 in
    let f = struck false c.args.address.0 in
    let own : map row_of new ≡ on_counted counts f (seat_at (rows_of s.units s.entries) x) =
    counted_at_lem s x c.requires.0 counts f (c.all_counted.ensures.0 ∙ ap (λ (rs : List Row). on_counted counts f (seat_at rs (suc (x - 1)))) mine) in
    let rows_after : List Row = map emptied (on_counted counts f (seat_at (view_of s).rows x)) in
    let counted = new ++ drop c.unit_count-n.result s.entries in
    let full-2 = changed_full s.units s.entries full n new long in
    let last = c.all_emptied.new.entries in
    let long-2 : length last ≡ c.unit_count-n.result = c.all_emptied.auto.entries ∙ ring_length s.units counted full-2 n in
    let left : with_rows (rows_of s.units (last ++ drop c.unit_count-n.result counted)) (view_of s) ≡ with_rows rows_after (view_of s) =
    ap (λ (rs : List Row). with_rows rs (view_of s))
    (changed_rows s.units counted full-2 n last long-2 ∙ c.all_emptied.ensures.0
    ∙ ap (map emptied) (ring_rows s.units counted full-2 n ∙ changed_rows s.units s.entries full n new long ∙ own)) in
    (c.requires.1, second_room (view_of s) (NOTOK ∷ []) rows_after refl left c.args.out.now (notok_wrote s.pass (add-one s.pass) c.write_notice-at.ensures) c.requires.2)

pub returns : goal.returns
unfolding view_of with_rows
returns c =
    let s : RegistryImage = c.args.self.now in
    let x = c.args.position.0 in
    let full : length s.entries ≡ max_units = search (rules, c.well_formed) in
    let n = c.unit_count-n.ensures in
    let mine = ring_rows s.units s.entries full n in
    let new = c.all_counted.new.entries in
    let long : length new ≡ c.unit_count-n.result = c.all_counted.auto.entries ∙ ring_length s.units s.entries full n in
    let counts = counts_for (verdict_of c.args.verdict) c.args.address.0 in
    let f = struck false c.args.address.0 in
    let own : map row_of new ≡ on_counted counts f (seat_at (rows_of s.units s.entries) x) =
    counted_at_lem s x c.requires.0 counts f (c.all_counted.ensures.0 ∙ ap (λ (rs : List Row). on_counted counts f (seat_at rs (suc (x - 1)))) mine) in
    let rows_after : List Row = map emptied (on_counted counts f (seat_at (view_of s).rows x)) in
    let counted = new ++ drop c.unit_count-n.result s.entries in
    let full-2 = changed_full s.units s.entries full n new long in
    let last = c.all_emptied.new.entries in
    let long-2 : length last ≡ c.unit_count-n.result = c.all_emptied.auto.entries ∙ ring_length s.units counted full-2 n in
    let left : with_rows (rows_of s.units (last ++ drop c.unit_count-n.result counted)) (view_of s) ≡ with_rows rows_after (view_of s) =
    ap (λ (rs : List Row). with_rows rs (view_of s))
    (changed_rows s.units counted full-2 n last long-2 ∙ c.all_emptied.ensures.0
    ∙ ap (map emptied) (ring_rows s.units counted full-2 n ∙ changed_rows s.units s.entries full n new long ∙ own)) in
    begins (view_of s) (NOTOK ∷ []) rows_after refl left c.args.out.now (notok_wrote s.pass (add-one s.pass) c.write_notice-at.ensures) c.scan.ensures.0
    (λ m.
    c.scan.ensures.1
    (record {
      state = m.state;
      delay = m.delay;
      units = m.units;
      entries =
          let counted-marks = changed_marks s.units s.entries full n new long m.entries (c.all_counted.ensures.1 (ring_marks s.units s.entries full n m.entries)) in
          changed_marks s.units counted full-2 n last long-2 counted-marks (c.all_emptied.ensures.1 (ring_marks s.units counted full-2 n counted-marks));
    }))
