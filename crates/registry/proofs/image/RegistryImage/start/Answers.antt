-- 9, or new entries that are scanned.
use Prim.Native.Nat.{◌-◌}
use Rattle.laws.specs.Buffers.{wrote_nothing}
use Rattle.laws.specs.Lists.{collect}
use Rattle.registry.proofs.Doing.{refuses}
use Rattle.registry.proofs.Scanning.{begins, second_room, starts, starts_not}
use Rattle.registry.specs.View.{view_of}
use Rattle.rules.specs.Order.{encode_all}
use Rattle.rules.specs.Picture.{new_row, with_rows}
use lib.ListN.{replicate}
use mathlib.Core.List.{[]}
use native.Mathlib.Omega.{arith}
use mathlib.Core.Path.{refl}
use Rattle.registry.proofs.image.RegistryImage.start.Goals as goal

pub returns-then-self-ge-MAX_PASS : goal.returns-then-self-ge-MAX_PASS
unfolding view_of
returns-then-self-ge-MAX_PASS c =
    refuses c.args.out.now _ (starts_not (view_of c.args.self.now) c.args.nodes c.if-self-ge-MAX_PASS.true) (refl, refl, refl)

pub scan-requires : goal.scan-requires
unfolding view_of with_rows encode_all collect
scan-requires c =
    let p = view_of c.args.self.now in (c.if-self-ge-MAX_PASS.false, second_room p [] (replicate (c.args.nodes - 1) new_row) (starts p c.args.nodes c.if-self-ge-MAX_PASS.false) (λ i. record { state = p.state; pass = p.pass; size = p.size; delay = p.delay; rows = c.new_entries-self.ensures.0 (c.args.nodes - 1) (omega (arith, c.requires.1)) i }) c.args.out.now (wrote_nothing c.args.out.now 0) c.requires.2)

pub returns : goal.returns
unfolding view_of with_rows encode_all collect
returns c =
    let p = view_of c.args.self.now in begins p [] (replicate (c.args.nodes - 1) new_row) (starts p c.args.nodes c.if-self-ge-MAX_PASS.false) (λ i. record { state = p.state; pass = p.pass; size = p.size; delay = p.delay; rows = c.new_entries-self.ensures.0 (c.args.nodes - 1) (omega (arith, c.requires.1)) i }) c.args.out.now (wrote_nothing c.args.out.now 0) c.scan.ensures.0
    (λ m. c.scan.ensures.1 (record { state = m.state; delay = m.delay; units = omega (arith, c.requires.1); entries = c.new_entries-self.ensures.1 }))
