-- 9; in OK what `rescan` does; else NOTOK and new entries that are scanned.
use Prim.Native.Nat.{◌-◌, ◌≤◌}
use Rattle.registry.proofs.Doing.{along, refuses}
use Rattle.registry.proofs.Scanning.{begins, first_room, notok_room, notok_wrote, rescans_not, rescans_notok, rescans_ok, second_room}
use Rattle.registry.specs.Outcome.{rescan_outcome}
use Rattle.registry.specs.View.{view_of}
use Rattle.row_entry.specs.View.{rows_of}
use Rattle.rules.specs.Event.{NCE}
use Rattle.rules.specs.Order.{NOTOK}
use Rattle.rules.specs.Picture.{Picture, Row, new_row, with_rows}
use Rattle.rules.specs.Run.{Outcome, concluded, written}
use Rattle.rules.specs.Step.{change, respond, scan}
use lib.ListN.{length, replicate}
use mathlib.Core.List.{List, [], ◌∷◌}
use mathlib.Core.Path.{◌≡◌, ◌∙◌, ap, refl, subst, sym}
use native.Mathlib.Numerals.{add-one}
use native.Mathlib.Omega.{arith}
use Rattle.registry.proofs.image.RegistryImage.network_change.Goals as goal

pub returns-then-self-ge-MAX_PASS : goal.returns-then-self-ge-MAX_PASS
unfolding view_of
returns-then-self-ge-MAX_PASS c =
    refuses c.args.out.now _ (rescans_not (view_of c.args.self.now) c.args.nodes c.if-self-ge-MAX_PASS.true) (refl, refl, refl)

pub rescan-requires : goal.rescan-requires
unfolding view_of
rescan-requires c =
    let came : Picture = view_of c.args.self.now in
    let wanted : Outcome = concluded came (respond came (NCE c.args.nodes)) in
    let in-ok : wanted ≡ rescan_outcome came c.args.nodes = rescans_ok _ _ c.if-self-ge-MAX_PASS.false c.is_ok.ensures c.if-is_ok.true in
    (c.requires.0, c.requires.1, subst (λ (o : Outcome). length (written o) ≤ length c.args.out.now) in-ok c.requires.3, c.requires.2, c.if-self-ge-MAX_PASS.false, sym c.is_ok.ensures ∙ c.if-is_ok.true)

pub returns-then-is_ok : goal.returns-then-is_ok
unfolding view_of
returns-then-is_ok c =
    let came : Picture = view_of c.args.self.now in
    let wanted : Outcome = concluded came (respond came (NCE c.args.nodes)) in
    let in-ok : wanted ≡ rescan_outcome came c.args.nodes = rescans_ok _ _ c.if-self-ge-MAX_PASS.false c.is_ok.ensures c.if-is_ok.true in
    along in-ok c.rescan.ensures

pub write_notice-at-requires : goal.write_notice-at-requires
unfolding view_of
write_notice-at-requires c =
    let came : Picture = view_of c.args.self.now in
    let wanted : Outcome = concluded came (respond came (NCE c.args.nodes)) in
    let new_rows : List Row = replicate (c.args.nodes - 1) new_row in
    let in-notok : wanted ≡ concluded came (change (scan (NOTOK ∷ []) new_rows came)) = rescans_notok _ _ c.if-self-ge-MAX_PASS.false c.is_ok.ensures c.if-is_ok.false in
    notok_room c.args.self.now.pass (add-one c.args.self.now.pass) c.args.out.now
    (first_room came (NOTOK ∷ []) new_rows in-notok refl c.args.out.now c.requires.3)

pub scan-requires : goal.scan-requires
unfolding view_of with_rows
scan-requires c =
    let came : Picture = view_of c.args.self.now in
    let wanted : Outcome = concluded came (respond came (NCE c.args.nodes)) in
    let new_rows : List Row = replicate (c.args.nodes - 1) new_row in
    let in-notok : wanted ≡ concluded came (change (scan (NOTOK ∷ []) new_rows came)) = rescans_notok _ _ c.if-self-ge-MAX_PASS.false c.is_ok.ensures c.if-is_ok.false in
    let left : with_rows (rows_of (c.args.nodes - 1) c.new_entries-self.result) came ≡ with_rows new_rows came = ap (λ (rs : List Row). with_rows rs came) (c.new_entries-self.ensures.0 (c.args.nodes - 1) (omega (arith, c.requires.1))) in
    (c.if-self-ge-MAX_PASS.false, second_room came (NOTOK ∷ []) new_rows in-notok left c.args.out.now (notok_wrote c.args.self.now.pass (add-one c.args.self.now.pass) c.write_notice-at.ensures) c.requires.3)

pub returns : goal.returns
unfolding view_of with_rows
returns c =
    let came : Picture = view_of c.args.self.now in
    let wanted : Outcome = concluded came (respond came (NCE c.args.nodes)) in
    let new_rows : List Row = replicate (c.args.nodes - 1) new_row in
    let in-notok : wanted ≡ concluded came (change (scan (NOTOK ∷ []) new_rows came)) = rescans_notok _ _ c.if-self-ge-MAX_PASS.false c.is_ok.ensures c.if-is_ok.false in
    let left : with_rows (rows_of (c.args.nodes - 1) c.new_entries-self.result) came ≡ with_rows new_rows came = ap (λ (rs : List Row). with_rows rs came) (c.new_entries-self.ensures.0 (c.args.nodes - 1) (omega (arith, c.requires.1))) in
    begins came (NOTOK ∷ []) new_rows in-notok left c.args.out.now (notok_wrote c.args.self.now.pass (add-one c.args.self.now.pass) c.write_notice-at.ensures) c.scan.ensures.0
    (λ m. c.scan.ensures.1 (record { state = m.state; delay = m.delay; units = omega (arith, c.requires.1); entries = c.new_entries-self.ensures.1 }))
