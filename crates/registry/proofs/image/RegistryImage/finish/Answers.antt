-- What the entries leave open decides the ending.
use Rattle.registry.proofs.Endings.{end_orders_lem, end_picture, ends}
use Rattle.registry.specs.View.{view_of}
use Rattle.rules.specs.Order.{Order, encode_all}
use lib.ListN.{length}
use mathlib.Core.List.{List}
use mathlib.Core.Path.{◌∙◌, ap, subst}
use Rattle.laws.specs.Lists.{any}
use Rattle.rules.specs.Picture.{is_open, is_silent}
use Rattle.ring_entries.specs.Tests.{is_short}
use Prim.Native.Nat.{◌+◌, ◌≤◌}
use Rattle.registry.proofs.image.RegistryImage.finish.Goals as goal

pub close-closed-requires : goal.close-closed-requires
unfolding view_of
close-closed-requires c =
    let s = c.args.self.now in
    let seen = c.outlook_of-seen.ensures in
    let rows = c.ring.ensures.rows in
    let o = seen.0 ∙ ap (any is_open) rows in
    let n = seen.1 ∙ ap (any is_silent) rows in
    let h = seen.2 ∙ ap (any is_short) rows in
    subst (λ (os : List Order). c.args.at + length (encode_all s.pass os) ≤ length c.args.out.now) (end_orders_lem (view_of s) o n h) c.requires

pub returns : goal.returns
unfolding view_of
returns c =
    let s = c.args.self.now in
    let seen = c.outlook_of-seen.ensures in
    let rows = c.ring.ensures.rows in
    let o = seen.0 ∙ ap (any is_open) rows in
    let n = seen.1 ∙ ap (any is_silent) rows in
    let h = seen.2 ∙ ap (any is_short) rows in
    let closes = c.close-closed.ensures.0 in (
      ends (view_of s) o n h _ (end_picture (view_of s) o n h closes.state closes.delay) closes,
      λ m. record { state = c.close-closed.ensures.1 m.state; delay = c.close-closed.ensures.2 m.delay; units = m.units; entries = m.entries },
    )
