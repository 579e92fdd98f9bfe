-- What is told of the entry, the SET, then the ending.
use Rattle.ring_state.specs.State.{runs, state_of}
use Rattle.row_renumber.specs.Marks.{renumbering_of}
use Rattle.laws.specs.Alls.{all_set}
use Rattle.registry.proofs.Places.{put_entry}
use Rattle.registry.proofs.Replying.{closing_room, replied, told_room}
use Rattle.registry.specs.View.{view_of}
use Rattle.rules.specs.Picture.{with_rows}
use mathlib.Core.Path.{refl}
use Rattle.registry.proofs.image.RegistryImage.reply.Goals as goal

pub tell_reply-at-requires : goal.tell_reply-at-requires
tell_reply-at-requires c =
    let s = c.args.self.now in
    let x = c.args.position.0 in
    (c.requires.1, told_room s x c.requires.0 c.args.address.0 c.args.next _ (renumbering_of c.args.step) c.args.out.now c.requires.3)

pub finish-requires : goal.finish-requires
unfolding view_of with_rows
finish-requires c =
    let s = c.args.self.now in
    let x = c.args.position.0 in
    closing_room s x c.requires.0 c.args.address.0 c.args.next _ (renumbering_of c.args.step) c.args.out.now c.requires.3 c.tell_reply-at.ensures
    (λ t. record { state = state_of s.state.0; pass = s.pass; size = s.size; delay = runs s.delay.0; rows = put_entry s x c.requires.0 c.args.next refl t })

pub returns : goal.returns
unfolding view_of with_rows
returns c =
    let s = c.args.self.now in
    let x = c.args.position.0 in
    replied s x c.requires.0 c.args.address.0 c.args.next _ (renumbering_of c.args.step) c.args.out.now c.requires.3 c.tell_reply-at.ensures
    (λ t. record { state = state_of s.state.0; pass = s.pass; size = s.size; delay = runs s.delay.0; rows = put_entry s x c.requires.0 c.args.next refl t }) c.finish.ensures.0
    (λ m. c.finish.ensures.1 (record { state = m.state; delay = m.delay; units = m.units; entries = all_set _ c.args.next c.requires.2 m.entries }))
