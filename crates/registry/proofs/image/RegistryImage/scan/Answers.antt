-- ASKs, then the ending.
use Rattle.registry.proofs.Scanning.{scan_room, scan_room_2, scans}
use Rattle.ring_state.specs.State.{runs, state_of}
use Rattle.registry.specs.View.{view_of}
use Rattle.rules.specs.Picture.{NotOk, Row, is_open}
use Rattle.rules.specs.Step.{asks, scanned}
use mathlib.Core.Bool.{false}
use mathlib.Core.Path.{ap, refl, subst, sym}
use mathlib.Core.List.{List}
use lib.ListN.{length}
use Prim.Native.Nat.{◌+◌, ◌≤◌}
use Rattle.laws.specs.Buffers.{wrote_along}
use Rattle.rules.specs.Order.{encode_all}
use native.Mathlib.Numerals.{add-one}
use native.Mathlib.Omega.{arith}
use Rattle.registry.proofs.image.RegistryImage.scan.Goals as goal

pub write_asks-end-requires : goal.write_asks-end-requires
unfolding view_of
write_asks-end-requires c =
    let s = c.args.self.now in (
      omega (arith, c.ring.ensures.length),
      subst (λ (rs : List Row). c.args.at + length (encode_all (s.pass + 1) (asks is_open 1 rs)) ≤ length c.args.out.now) (sym c.ring.ensures.rows)
          (scan_room (view_of c.args.self.now) (scanned (view_of c.args.self.now).rows (view_of c.args.self.now)) (add-one c.args.self.now.pass) refl c.args.out.now c.args.at c.requires.1),
    )

pub finish-requires : goal.finish-requires
unfolding view_of scanned state_of runs
finish-requires c =
    let p = view_of c.args.self.now in scan_room_2 p _ (add-one c.args.self.now.pass) (λ i. record { state = NotOk; pass = add-one c.args.self.now.pass i; size = c.args.self.now.size; delay = false; rows = p.rows }) (wrote_along (ap (λ (rs : List Row). encode_all (c.args.self.now.pass + 1) (asks is_open 1 rs)) c.ring.ensures.rows) c.write_asks-end.ensures) c.requires.1

pub returns : goal.returns
unfolding view_of scanned state_of runs
returns c =
    let p = view_of c.args.self.now in (
      scans p _ (add-one c.args.self.now.pass) (λ i. record { state = NotOk; pass = add-one c.args.self.now.pass i; size = c.args.self.now.size; delay = false; rows = p.rows }) (wrote_along (ap (λ (rs : List Row). encode_all (c.args.self.now.pass + 1) (asks is_open 1 rs)) c.ring.ensures.rows) c.write_asks-end.ensures) refl c.finish.ensures.0,
      λ m. c.finish.ensures.1 (record { state = omega arith; delay = omega arith; units = m.units; entries = m.entries }),
    )
